-- A run of a world with monitors: what becomes of its events, one after the other.
use Rattle.std.specs.Prelude.{◌≡◌, ℕ, ◌≤◌, Bool, nat_eq, List, [], ◌∷◌, ◌++◌, drop, filter, Option, None, Some}
use Rattle.std.specs.List.{concat, flat_map, AllByRecursion}
use Rattle.px_types.specs.declared.ids.ConnId.{ConnId}
use Rattle.px_session.specs.declared.event.Event.{Event}
use Rattle.px_session.specs.declared.event.Event.TheVariants.{Connect, Bytes, Close, Cut, Turn, Collect, Stop}
use Rattle.px_state.specs.declared.effect.Effect.{Effect}
use Rattle.px_state.specs.declared.effect.Effect.TheVariants.{Sent, Closed}
use Rattle.px_world.specs.Event.{frames_played}
use Rattle.px_world.specs.History.{played_on}
use Rattle.px_sieve.specs.Sieve.{Heard, heard_of}
use Rattle.px_sieve.specs.Scene.{Item}
use Rattle.px_monitor.specs.declared.recording.Recording.{Recording}
use Rattle.px_monitor.specs.Fragments.{sent_of}
use Rattle.px_monitor.specs.Monitor.{Monitor, items, monitor_after, monitor_effects, monitor_refusal}

-- the state after the events, in order
abbrev pub monitor_by : Monitor → List Event → Monitor
monitor_by m [] = m
monitor_by m (e ∷ events) = monitor_by (monitor_after m e) events

-- each event is admitted in the state after those before it
abbrev pub AreMonitored : Monitor → List Event → Type 0
AreMonitored m [] = Unit {0}
AreMonitored m (e ∷ events) = (monitor_refusal m e ≡ None) × AreMonitored (monitor_after m e) events

-- what becomes of all of them
abbrev pub items_by : Monitor → List Event → List Item
items_by m [] = []
items_by m (e ∷ events) = items m e ++ items_by (monitor_after m e) events

-- their effects
abbrev pub effects_shown : Monitor → List Event → List Effect
effects_shown m [] = []
effects_shown m (e ∷ events) = monitor_effects m e ++ effects_shown (monitor_after m e) events

-- ---- between two events

-- no segment waits in the sieve
abbrev pub NothingWaits : Monitor → Type 0
NothingWaits m = AllByRecursion (λ (h : Heard). h.waiting ≡ []) m.sieve.heard

-- the bytes that were heard of a connection since its number was free
abbrev pub received_from : Option Heard → List ℕ
received_from None = []
received_from (Some h) = h.received

abbrev pub received_in : Monitor → ConnId → List ℕ
received_in m conn = received_from (heard_of m.sieve.heard conn)

-- ---- the record stream with the source output `output`

abbrev pub has_output : ℕ → Recording → Bool
has_output output r = nat_eq r.output output

abbrev pub with_output : ℕ → List Recording → List Recording
with_output output streams = filter (has_output output) streams

-- the bytes due to it by an event: what its sink plays, while it is there
abbrev pub due_by_event : Monitor → Event → ℕ → List ℕ
due_by_event m e output = flat_map (λ r. concat (played_on m.world e (Recording.sink r).0)) (with_output output (monitor_after m e).records.streams)

abbrev pub due_by : Monitor → List Event → ℕ → List ℕ
due_by m [] output = []
due_by m (e ∷ events) output = due_by_event m e output ++ due_by (monitor_after m e) events output

-- the frames that it is sent after an event: those of all that are sent to the record streams of its sink
abbrev pub sent_to : Monitor → Event → ℕ → List Effect
sent_to m (Connect conn) output = []
sent_to m (Bytes conn bytes) output = []
sent_to m (Close conn) output = []
sent_to m (Cut conn) output = []
sent_to m (Turn sink frames n) output = sent_of (record { 0 = sink }) (concat (frames_played m.world (Turn sink frames n))) (with_output output (monitor_after m (Turn sink frames n)).records.streams)
sent_to m (Collect sink n) output = []
sent_to m (Stop sink) output = []

abbrev pub sent_by : Monitor → List Event → ℕ → List Effect
sent_by m [] output = []
sent_by m (e ∷ events) output = sent_to m e output ++ sent_by (monitor_after m e) events output

-- the payload of a frame, after the twenty bytes of its descriptor
abbrev pub payload_sent : Effect → List ℕ
payload_sent (Sent conn frame) = drop 20 frame
payload_sent (Closed conn reason fault at) = []

abbrev pub payloads : List Effect → List ℕ
payloads effects = flat_map payload_sent effects

-- each data frame of a record stream has at least one byte
abbrev pub HaveSizes : Monitor → Type 0
HaveSizes m = AllByRecursion (λ (r : Recording). 1 ≤ r.fragsize) m.records.streams

abbrev pub AreSized : Monitor → List Event → Type 0
AreSized m [] = Unit {0}
AreSized m (e ∷ events) = HaveSizes (monitor_after m e) × AreSized (monitor_after m e) events
