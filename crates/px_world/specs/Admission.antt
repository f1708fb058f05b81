-- Which events a world admits, and the first cause of a refusal: the connection's number or the sink's index, then a worn sink, then the frames, then
-- the messages or notices.
use Rattle.std.specs.Prelude.{ℕ, ◌-◌, ◌^◌, cond, nat_lt, length, Option, None, Some}
use Rattle.std.specs.List.{slice_get}
use Rattle.px_session.specs.declared.event.Event.{Event}
use Rattle.px_session.specs.declared.event.Event.TheVariants.{Connect, Bytes, Close, Cut, Turn, Collect, Stop}
use Rattle.px_state.specs.Out.{waiting_for}
use Rattle.px_world.specs.declared.fault.WorldFault.{WorldFault}
use Rattle.px_world.specs.declared.fault.WorldFault.TheVariants.{Live, NotLive, NoSink, Worn, TooMany}
use Rattle.px_world.specs.World.{World, Link, Mixer, link_of}

-- the filled count past which a sink takes no more turns
abbrev pub LAST_FILLED : ℕ
LAST_FILLED = 2 ^ 60

-- `asked` is more than `there`
abbrev pub too_many : ℕ → ℕ → Option WorldFault
too_many asked there = cond (nat_lt there asked) (Some (TooMany asked there)) None

abbrev pub or_else : Option WorldFault → Option WorldFault → Option WorldFault
or_else None later = later
or_else (Some fault) later = Some fault

abbrev pub if_new : Option Link → Option WorldFault
if_new None = None
if_new (Some link) = Some Live

abbrev pub if_named : Option Link → Option WorldFault
if_named None = Some NotLive
if_named (Some link) = None

abbrev pub turn_refusal : Option Mixer → ℕ → ℕ → ℕ → Option WorldFault
turn_refusal None frames take waiting = Some NoSink
turn_refusal (Some m) frames take waiting =
    or_else (cond (nat_lt LAST_FILLED m.sink.filled) (Some Worn) None)
    (or_else (too_many frames (m.sink.filled - m.sink.consumed)) (too_many take waiting))

abbrev pub collect_refusal : Option Mixer → ℕ → Option WorldFault
collect_refusal None take = Some NoSink
collect_refusal (Some m) take = too_many take (length m.notices)

abbrev pub stop_refusal : Option Mixer → Option WorldFault
stop_refusal None = Some NoSink
stop_refusal (Some m) = None

-- why the world doesn't admit an event, if it doesn't
abbrev pub refusal_of : World → Event → Option WorldFault
refusal_of w (Connect conn) = if_new (link_of w.links conn)
refusal_of w (Bytes conn bytes) = if_named (link_of w.links conn)
refusal_of w (Close conn) = if_named (link_of w.links conn)
refusal_of w (Cut conn) = if_named (link_of w.links conn)
refusal_of w (Turn sink frames take) = turn_refusal (slice_get w.mixers sink) frames take (length (waiting_for w.core (record { 0 = sink })))
refusal_of w (Collect sink take) = collect_refusal (slice_get w.mixers sink) take
refusal_of w (Stop sink) = stop_refusal (slice_get w.mixers sink.0)
