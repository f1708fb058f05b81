-- Why a recorded session is refused, and how the log says it.
use Rattle.std.specs.Prelude.{ℕ, List, ◌++◌, codes, decimal}
use Rattle.px_session.specs.declared.fault.Cause.{Cause}
use Rattle.px_session.specs.declared.fault.Cause.TheVariants.{Magic, Header, Truncated, Endless, Trailing, Kind, TooLong}
use Rattle.px_session.specs.declared.event.Event.{Event}
use Rattle.px_session.specs.declared.event.Event.TheVariants.{Connect, Bytes, Close, Cut, Turn, Collect, Stop}
use Rattle.px_session.specs.Place.{Refusal as Broken}
use Rattle.px_world.specs.declared.fault.WorldFault.{WorldFault}
use Rattle.px_world.specs.declared.fault.WorldFault.TheVariants.{Live, NotLive, NoSink, Worn, TooMany, NoMemory}
use Rattle.px_app.specs.declared.refusal.Refusal.{Refusal}
use Rattle.px_app.specs.declared.refusal.Why.{Why}
use Rattle.px_app.specs.declared.refusal.Why.TheVariants as why

-- ---- refusals

-- the bytes break a rule of sessions
abbrev pub of_bytes : Broken → Refusal
of_bytes broken = record { at = broken.at; why = why.Session broken.cause }

-- the number of the event's connection, or of its sink
abbrev pub number_of : Event → ℕ
number_of (Connect conn) = conn.0
number_of (Bytes conn bytes) = conn.0
number_of (Close conn) = conn.0
number_of (Cut conn) = conn.0
number_of (Turn sink frames messages) = sink
number_of (Collect sink notices) = sink
number_of (Stop sink) = sink.0

-- the refusal of an event that the world doesn't admit, whose kind byte is at offset `at`
abbrev pub of_event : ℕ → Event → WorldFault → Refusal
of_event at e fault = record { at = at; why = why.World fault (number_of e) }

-- ---- texts

abbrev pub cause_text : Cause → List ℕ
cause_text Magic = codes "magic"
cause_text Header = codes "header"
cause_text Truncated = codes "truncated"
cause_text Endless = codes "endless"
cause_text Trailing = codes "trailing"
cause_text (Kind kind) = codes "kind " ++ decimal kind
cause_text (TooLong size) = codes "too long " ++ decimal size

-- a fault at the connection or the sink of this number
abbrev pub fault_text : WorldFault → ℕ → List ℕ
fault_text Live number = codes "live " ++ decimal number
fault_text NotLive number = codes "not live " ++ decimal number
fault_text NoSink number = codes "no sink " ++ decimal number
fault_text Worn number = codes "worn " ++ decimal number
fault_text (TooMany asked there) number = codes "too many, " ++ decimal asked ++ codes " of " ++ decimal there
fault_text NoMemory number = codes "out of memory"

abbrev pub why_text : Why → List ℕ
why_text (why.Session cause) = cause_text cause
why_text (why.World fault number) = fault_text fault number

-- the line of the log, with its line end
abbrev pub refusal_line : Refusal → List ℕ
refusal_line refusal = codes "pulse_rw: refused at " ++ decimal refusal.at ++ codes ": " ++ why_text refusal.why ++ codes "\n"
