-- Which events a session of a form can have: each number fits its field, a Bytes event is not too long, and Stop is there.
use Rattle.std.specs.Prelude.{◌≡◌, ◌<◌, ◌≤◌, ◌^◌, true, length, Option, None, Some}
use Rattle.px_types.specs.declared.ids.ConnId.{ConnId}
use Rattle.px_session.specs.declared.event.Event.{Event}
use Rattle.px_session.specs.declared.event.Event.TheVariants.{Connect, Bytes, Close, Cut, Turn, Collect, Stop}
use Rattle.px_session.specs.declared.event.Step.{Step}
use Rattle.px_session.specs.declared.event.Step.TheVariants as step
use Rattle.px_session.specs.declared.form.Form.{Form}
use Rattle.px_session.specs.Form.{IsCount, most_bytes, has_stop}
use Rattle.px_header.specs.HeaderRules.{IsHeader}

abbrev pub IsConn : ConnId → Type 0
IsConn conn = conn.0 < 2 ^ 32

abbrev pub IsEvent : Form → Event → Type 0
IsEvent form (Connect conn) = IsConn conn
IsEvent form (Bytes conn bytes) = IsConn conn × (length bytes ≤ most_bytes form)
IsEvent form (Close conn) = IsConn conn
IsEvent form (Cut conn) = IsConn conn
IsEvent form (Turn sink frames messages) = (sink < 256) × IsCount form frames × IsCount form messages
IsEvent form (Collect sink notices) = (sink < 256) × IsCount form notices
IsEvent form (Stop sink) = (sink.0 < 256) × (has_stop form ≡ true)

-- a step that a reader can give of a session of this form
abbrev pub IsStep : Form → Step → Type 0
IsStep form (step.Header h) = IsHeader h
IsStep form (step.Event e) = IsEvent form e
IsStep form step.End = Unit {0}

-- the same where this is the form, which is known once a step is given
abbrev pub IsStepBy : Option Form → Step → Type 0
IsStepBy None s = ⊥
IsStepBy (Some form) s = IsStep form s
