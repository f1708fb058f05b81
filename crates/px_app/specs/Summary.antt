-- The summary of a session: the number of its events, of frames sent and connections closed, and the frame counts of each sink.
use Rattle.std.specs.Prelude.{ℕ, suc, ◌+◌, ◌*◌, ◌^◌, ◌≤◌, Bool, true, false, List, [], ◌∷◌, ◌++◌, length, codes, decimal, Option, None, Some}
use Rattle.std.specs.List.{slice_get, count_by}
use Rattle.px_header.specs.declared.header.SinkSpec.{SinkSpec}
use Rattle.px_session.specs.declared.event.Event.{Event}
use Rattle.px_state.specs.declared.effect.Effect.{Effect}
use Rattle.px_state.specs.declared.effect.Effect.TheVariants.{Sent, Closed}
use Rattle.px_world.specs.World.{World, Mixer}
use Rattle.px_world.specs.Event.{world_after, effects_after}
use Rattle.px_app.specs.declared.tally.Tally.{Tally}

-- ---- counts

abbrev pub is_sent : Effect → Bool
is_sent (Sent conn packet) = true
is_sent (Closed conn reason fault at) = false

abbrev pub is_closed : Effect → Bool
is_closed (Sent conn packet) = false
is_closed (Closed conn reason fault at) = true

abbrev pub sent_in : List Effect → ℕ
sent_in effects = count_by is_sent effects

abbrev pub closed_in : List Effect → ℕ
closed_in effects = count_by is_closed effects

-- all effects of the events
abbrev pub effects_by_run : World → List Event → List Effect
effects_by_run w [] = []
effects_by_run w (e ∷ events) = effects_after w e ++ effects_by_run (world_after w e) events

-- the counts of a run
abbrev pub tally_by : World → List Event → Tally
tally_by w events = record { events = length events; sent = sent_in (effects_by_run w events); closed = closed_in (effects_by_run w events) }

-- the counts after one more event, which has these effects
abbrev pub tallied : Tally → List Effect → Tally
tallied t effects = record { events = t.events + 1; sent = t.sent + sent_in effects; closed = t.closed + closed_in effects }

-- The counts are bounded by the bytes read: at most one event a byte, and 2^64 frames and connections an event.
pub record AreFew (t : Tally) (at : ℕ) : Type 0 where
  pub events : t.events ≤ at
  pub sent : t.sent ≤ t.events * 2 ^ 64
  pub closed : t.closed ≤ t.events * 2 ^ 64

-- ---- lines

abbrev pub tally_lines : Tally → List ℕ
tally_lines t = codes "events " ++ decimal t.events ++ codes "\nsent " ++ decimal t.sent ++ codes "\nclosed " ++ decimal t.closed ++ codes "\n"

abbrev pub sink_line : List ℕ → ℕ → ℕ → List ℕ
sink_line name consumed filled = codes "sink " ++ name ++ (codes " consumed " ++ decimal consumed ++ codes " filled " ++ decimal filled ++ codes "\n")

abbrev pub line_for : SinkSpec → Option Mixer → List ℕ
line_for s None = []
line_for s (Some m) = sink_line s.name m.sink.consumed m.sink.filled

-- one line for each of these sinks, the first of which has index `k`
abbrev pub sink_lines : ℕ → List SinkSpec → List Mixer → List ℕ
sink_lines k [] mixers = []
sink_lines k (s ∷ sinks) mixers = line_for s (slice_get mixers k) ++ sink_lines (suc k) sinks mixers
