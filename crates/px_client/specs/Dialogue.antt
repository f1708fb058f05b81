-- How far the server's frames bring the client's dialogue with it.
use Rattle.std.specs.Prelude.{ℕ, List, fold}
use Rattle.px_frame.specs.declared.frame.Frame.{Frame}
use Rattle.px_frame.specs.declared.frame.Body.{Body}
use Rattle.px_frame.specs.declared.frame.Body.TheVariants.{Control, Write}
use Rattle.px_client.specs.declared.errand.Errand.{Errand}
use Rattle.px_client.specs.declared.errand.Errand.TheVariants as errands
use Rattle.px_client.specs.declared.inputs.Input.{Input}
use Rattle.px_client.specs.declared.awaited.Awaited.{Awaited}
use Rattle.px_client.specs.declared.awaited.Awaited.TheVariants as awaits
use Rattle.px_client.specs.declared.answer.Verdict.{Verdict}
use Rattle.px_client.specs.declared.answer.Verdict.TheVariants.{Message, Reply, Refusal, Other}
use Rattle.px_client.specs.Answers.{judged}

-- the reply to the errand's command
abbrev pub last_awaited : Errand → Awaited
last_awaited errands.List = awaits.List
last_awaited _ = awaits.Nothing

-- the client waits for a reply; it has the last reply, with these inputs; the server refused a command, with a code; or the frame at this
-- offset is no message, and not what the client waits for
pub data Stage : Type 0 where
  Waiting : Awaited → Stage
  Done : List Input → Stage
  Refused : ℕ → Stage
  Astray : ℕ → Stage

-- after the awaited reply
abbrev pub stage_after : Errand → Awaited → List Input → Stage
stage_after errand awaits.Version inputs = Waiting awaits.Client
stage_after errand awaits.Client inputs = Waiting (last_awaited errand)
stage_after errand awaits.Nothing inputs = Done inputs
stage_after errand awaits.List inputs = Done inputs

-- only a control packet can be the reply
abbrev pub judged_body : Awaited → Body → Verdict
judged_body awaited (Control packet) = judged awaited packet
judged_body awaited (Write stream offset seek bytes) = Other

abbrev pub stage_by : Errand → Awaited → ℕ → Verdict → Stage
stage_by errand awaited at Message = Waiting awaited
stage_by errand awaited at (Reply inputs) = stage_after errand awaited inputs
stage_by errand awaited at (Refusal code) = Refused code
stage_by errand awaited at Other = Astray at

abbrev pub next_stage : Errand → Stage → Frame → Stage
next_stage errand (Waiting awaited) frame = stage_by errand awaited frame.at (judged_body awaited frame.body)
next_stage errand (Done inputs) frame = Done inputs
next_stage errand (Refused code) frame = Refused code
next_stage errand (Astray at) frame = Astray at

abbrev pub stage_from : Errand → Stage → List Frame → Stage
stage_from errand stage frames = fold (next_stage errand) stage frames

-- where these frames, all that came, bring it
abbrev pub stage_of : Errand → List Frame → Stage
stage_of errand frames = stage_from errand (Waiting awaits.Version) frames
