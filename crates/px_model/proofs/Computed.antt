-- The worked rows hold by computation.
use Rattle.std.proofs.Common.{◌≡◌, refl, [], ◌∷◌}
use Rattle.std.specs.Prelude.{pos, negsuc}
use Rattle.px_model.specs.Deciding.{replay_played, replay_notices}
use Rattle.px_model.specs.Rows.{s16, s16_samples, small_sink, underrun_history, underrun_played, underrun_notices, seek_history, seek_played, seek_notices, limit_history, limit_played, limit_notices, overflow_history, overflow_played, overflow_notices, rewind_history, rewind_played, rewind_notices, late_history, late_played, late_notices, mix_history, loud_messages, deep_messages, balanced_messages, eighth_history, eighth_played, drain_history, drain_notices, stop_history, stop_notices, hold_history, hold_played, hold_notices, cork_history, cork_played, cork_notices, flush_history, flush_played, flush_notices, minreq_history, minreq_notices, last_history, last_notices}

pub underrun_plays : replay_played s16_samples small_sink underrun_history ≡ underrun_played
underrun_plays = refl

pub underrun_gives : replay_notices s16_samples small_sink underrun_history ≡ underrun_notices
underrun_gives = refl

pub seek_plays : replay_played s16_samples small_sink seek_history ≡ seek_played
seek_plays = refl

pub seek_gives : replay_notices s16_samples small_sink seek_history ≡ seek_notices
seek_gives = refl

pub limit_plays : replay_played s16_samples small_sink limit_history ≡ limit_played
limit_plays = refl

pub limit_gives : replay_notices s16_samples small_sink limit_history ≡ limit_notices
limit_gives = refl

pub overflow_plays : replay_played s16_samples small_sink overflow_history ≡ overflow_played
overflow_plays = refl

pub overflow_gives : replay_notices s16_samples small_sink overflow_history ≡ overflow_notices
overflow_gives = refl

pub rewind_plays : replay_played s16_samples small_sink rewind_history ≡ rewind_played
rewind_plays = refl

pub rewind_gives : replay_notices s16_samples small_sink rewind_history ≡ rewind_notices
rewind_gives = refl

pub late_plays : replay_played s16_samples small_sink late_history ≡ late_played
late_plays = refl

pub late_gives : replay_notices s16_samples small_sink late_history ≡ late_notices
late_gives = refl

pub loud_plays : replay_played s16_samples small_sink (mix_history loud_messages) ≡ s16 (pos 32767) ∷ []
loud_plays = refl

pub deep_plays : replay_played s16_samples small_sink (mix_history deep_messages) ≡ s16 (negsuc 32767) ∷ []
deep_plays = refl

pub balanced_plays : replay_played s16_samples small_sink (mix_history balanced_messages) ≡ s16 (pos 30000) ∷ []
balanced_plays = refl

pub eighth_plays : replay_played s16_samples small_sink eighth_history ≡ eighth_played
eighth_plays = refl

pub drain_gives : replay_notices s16_samples small_sink drain_history ≡ drain_notices
drain_gives = refl

pub stop_gives : replay_notices s16_samples small_sink stop_history ≡ stop_notices
stop_gives = refl

pub hold_plays : replay_played s16_samples small_sink hold_history ≡ hold_played
hold_plays = refl

pub hold_gives : replay_notices s16_samples small_sink hold_history ≡ hold_notices
hold_gives = refl

pub cork_plays : replay_played s16_samples small_sink cork_history ≡ cork_played
cork_plays = refl

pub cork_gives : replay_notices s16_samples small_sink cork_history ≡ cork_notices
cork_gives = refl

pub flush_plays : replay_played s16_samples small_sink flush_history ≡ flush_played
flush_plays = refl

pub flush_gives : replay_notices s16_samples small_sink flush_history ≡ flush_notices
flush_gives = refl

pub minreq_gives : replay_notices s16_samples small_sink minreq_history ≡ minreq_notices
minreq_gives = refl

pub last_gives : replay_notices s16_samples small_sink last_history ≡ last_notices
last_gives = refl
