-- The frames that answer the client.
use Rattle.std.specs.Prelude.{◌≡◌, ℕ, Bool, true, false, not, cond, ◌==◌, List, [], ◌∷◌, Result, Ok, Err}
use Rattle.px_tag.specs.declared.fault.TagFault.{TagFault}
use Rattle.px_tag.specs.Place.{Place, start_of}
use Rattle.px_cmd.specs.Packet.{head_at}
use Rattle.px_frame.specs.declared.frame.Frame.{Frame}
use Rattle.px_frame.specs.declared.frame.Body.{Body}
use Rattle.px_frame.specs.declared.frame.Body.TheVariants.{Control, Write}
use Rattle.px_client.specs.declared.errand.Errand.{Errand}
use Rattle.px_client.specs.declared.inputs.Input.{Input}
use Rattle.px_client.specs.declared.awaited.Awaited.{Awaited}
use Rattle.px_client.specs.declared.awaited.Awaited.TheVariants as awaits
use Rattle.px_client.specs.declared.answer.Verdict.TheVariants.{Reply}
use Rattle.px_client.specs.Dialogue.{last_awaited, judged_body}

-- a message has the tag that no command has
abbrev pub has_no_tag : Result ((ℕ × ℕ) × Place) TagFault → Bool
has_no_tag (Ok head) = head.0.1 == 0xFFFFFFFF
has_no_tag (Err fault) = false

unfoldable pub is_message : List ℕ → Bool
is_message packet = has_no_tag (head_at (start_of packet))

abbrev pub is_answer : Body → Bool
is_answer (Control packet) = not (is_message packet)
is_answer (Write stream offset seek bytes) = true

-- the frames without the messages among them
abbrev pub answers : List Frame → List Frame
answers [] = []
answers (frame ∷ frames) = cond (is_answer frame.body) (frame ∷ answers frames) (answers frames)

-- the frame is the reply of a kind, with these inputs
abbrev pub IsReply : Awaited → List Input → Frame → Type 0
IsReply awaited inputs frame = judged_body awaited frame.body ≡ Reply inputs

-- without the messages among them, the frames begin with the replies to the three commands, in their order; the last has these inputs
pub record AreAnswers (errand : Errand) (frames : List Frame) (inputs : List Input) : Type 0 where
  pub version : Frame
  pub client : Frame
  pub last : Frame
  pub later : List Frame
  pub in_order : answers frames ≡ version ∷ client ∷ last ∷ later
  pub version_is : (none : List Input) × IsReply awaits.Version none version
  pub client_is : (none : List Input) × IsReply awaits.Client none client
  pub last_is : IsReply (last_awaited errand) inputs last
