-- The plays that are under way, and how answers end them.
use Rattle.std.specs.Prelude.{◌≡◌, ℕ, ◌+◌, min, Bool, true, false, not, cond, nat_eq, List, [], ◌∷◌, ◌++◌, length, filter, Option, None, Some}
use Rattle.std.specs.List.{list_any}
use Rattle.px_state.specs.declared.effect.Effect.{Effect}
use Rattle.px_state.specs.declared.effect.Effect.TheVariants.{Sent, Closed}
use Rattle.px_scache.specs.declared.play.Plays.{Plays}
use Rattle.px_cache_world.specs.declared.answered.Verdict.{Verdict}
use Rattle.px_cache_world.specs.declared.answered.Verdict.TheVariants.{Replied, Failed, Other}
use Rattle.px_cache_world.specs.declared.answered.Created.{Created}
use Rattle.px_cache_world.specs.declared.answered.Created.TheVariants.{Made, Refused, Unanswered}
use Rattle.px_cache_world.specs.Own.{is_hidden}
use Rattle.px_cache_world.specs.Answered.{verdict_of}

pub record Course : Type 0 where
  -- the streams of the plays under way, in order of their creation
  pub plays : List ℕ
  -- the streams of plays whose DRAIN was answered by a reply, which aren't deleted yet
  pub due : List ℕ
  -- whether the server's own connection is closed
  pub closed : Bool

abbrev pub no_plays : Course
no_plays = record { plays = []; due = []; closed = false }

-- those that PLAY_SAMPLE asks about: 64 are as many as more
abbrev pub under_way : Course → Plays
under_way c = record { under_way = min (length c.plays) 64; closed = c.closed }

-- a play begins
abbrev pub with_play : Created → Course → Course
with_play (Made stream input) c = record c { plays = c.plays ++ stream ∷ [] }
with_play (Refused code) c = c
with_play Unanswered c = c

-- ---- a play ends where its DRAIN is answered, and its stream is to be deleted where that is by a reply

abbrev pub without : ℕ → List ℕ → List ℕ
without stream plays = filter (λ one. not (nat_eq one stream)) plays

abbrev pub is_play : ℕ → List ℕ → Bool
is_play stream plays = list_any (λ one. nat_eq one stream) plays

abbrev pub drained : ℕ → Course → Course
drained stream c = cond (is_play stream c.plays) (record c { plays = without stream c.plays; due = c.due ++ stream ∷ [] }) c

abbrev pub answered : Verdict → Course → Course
answered (Replied tag) c = drained tag c
answered (Failed tag) c = record c { plays = without tag c.plays }
answered Other c = c

-- ---- and all of them end where the connection is closed

abbrev pub all_ended : Course
all_ended = record { plays = []; due = []; closed = true }

abbrev pub course_seen_one : Effect → Course → Course
course_seen_one (Sent to frame) c = cond (is_hidden to) (answered (verdict_of frame) c) c
course_seen_one (Closed to reason fault at) c = cond (is_hidden to) all_ended c

abbrev pub course_seen : List Effect → Course → Course
course_seen [] c = c
course_seen (effect ∷ effects) c = course_seen effects (course_seen_one effect c)

-- ---- streams that are to be deleted

abbrev pub with_due : List ℕ → Course → Course
with_due due c = record c { due = due }

-- how many can be, before none is due any longer
abbrev pub most_due : Course → ℕ
most_due c = length c.plays + length c.due

-- the first of them is taken out, if there is one
abbrev pub TakesDue : Option ℕ → Course → Course → Type 0
TakesDue None old new = (old.due ≡ []) × (new ≡ old)
TakesDue (Some stream) old new = (due : List ℕ) × (old.due ≡ stream ∷ due) × (new ≡ with_due due old)
