-- What a client has heard.
use Rattle.std.specs.Prelude.{◌≡◌, ℕ, ◌≤◌, List, ◌++◌, length, drop, take, Option, None, Some, Result, Ok, Err, ⊤}
use Rattle.px_ends.specs.Visible.{before_taking}
use Rattle.px_frame.specs.declared.fault.FrameFault.{FrameFault}
use Rattle.px_frame.specs.declared.frame.Frame.{Frame}
use Rattle.px_frame.specs.Progress.{HasFed}
use Rattle.px_frame.specs.Reading.{Ending, Unfinished, Broken, IsRead}
use Rattle.px_client.specs.declared.errand.Errand.{Errand}
use Rattle.px_client.specs.declared.awaited.Awaited.{Awaited}
use Rattle.px_client.specs.declared.inputs.Input.{Input}
use Rattle.px_client.specs.declared.hearing.Hearing.{Hearing}
use Rattle.px_client.specs.declared.end.ClientEnd.{ClientEnd}
use Rattle.px_client.specs.declared.end.ClientEnd.TheVariants as ends
use Rattle.px_client.specs.Dialogue.{Stage, Waiting, Refused, Astray, stage_after, stage_from, stage_of}
use Rattle.px_client.specs.Causes.{HEARD_MAX, EndsBy}

-- the frames that are still to be judged
abbrev pub left_of : Hearing → List Frame
left_of ear = drop ear.next ear.frames

abbrev pub ending_by : Option (FrameFault × ℕ) → Ending
ending_by None = Unfinished
ending_by (Some fault) = Broken fault.0 fault.1

-- these are all the bytes that were heard, and the frames that were judged have brought the dialogue to this stage
pub record HasHeard (errand : Errand) (ear : Hearing) (bytes : List ℕ) (stage : Stage) : Type 0 where
  pub judged : List Frame
  pub fed : HasFed ear.decoder bytes (judged ++ left_of ear)
  pub read : IsRead bytes (judged ++ left_of ear) (ending_by ear.fault)
  pub count : ear.heard ≡ length bytes
  pub few : length bytes ≤ HEARD_MAX
  pub stage_is : stage_of errand judged ≡ stage

-- what judging these frames, one after the other, gives: the first n were judged, and the last of them is the awaited reply; or all are
-- messages; or one of them ends the dialogue
abbrev pub Scans : Result (ℕ × Option (List Input)) ClientEnd → Errand → Awaited → List Frame → Type 0
Scans (Ok (n, None)) errand awaited frames = (n ≡ length frames) × (stage_from errand (Waiting awaited) frames ≡ Waiting awaited)
Scans (Ok (n, Some inputs)) errand awaited frames = (n ≤ length frames) × (stage_from errand (Waiting awaited) (take n frames) ≡ stage_after errand awaited inputs)
Scans (Err (ends.Denied code)) errand awaited frames = stage_from errand (Waiting awaited) frames ≡ Refused code
Scans (Err (ends.BadReply at)) errand awaited frames = stage_from errand (Waiting awaited) frames ≡ Astray at
Scans (Err ends.Memory) errand awaited frames = ⊤
Scans (Err _) errand awaited frames = ⊥

-- the bytes brought the dialogue to a stage, or ended it
abbrev pub HearsTo : {X : Type 0} → Result X ClientEnd → Errand → (X → Stage) → Hearing → List ℕ → Type 0
HearsTo (Ok x) errand to ear bytes = HasHeard errand ear bytes (to x)
HearsTo (Err end) errand to ear bytes = EndsBy errand bytes end

-- a piece departed from the link, and it was heard
pub record Refills {X : Type 0} (result : Result X ClientEnd) (before after : Hearing) (old new : Option (List ℕ)) : Type 0 where
  pub piece : List ℕ
  pub departed : old ≡ before_taking piece new
  pub hears : (errand : Errand) (bytes : List ℕ) (awaited : Awaited) → HasHeard errand before bytes (Waiting awaited) → HearsTo result errand (λ x. Waiting awaited) after (bytes ++ piece)

-- a piece departed from the link, and it was heard while a reply is awaited
pub record HearsOn (awaited : Awaited) (before after : Hearing) (old new : Option (List ℕ)) : Type 0 where
  pub piece : List ℕ
  pub departed : old ≡ before_taking piece new
  pub hears : (errand : Errand) (bytes : List ℕ) → HasHeard errand before bytes (Waiting awaited) → HasHeard errand after (bytes ++ piece) (Waiting awaited)

-- a piece departed from the link, and the awaited reply was heard in it, or the dialogue ended
pub record Replies (result : Result (List Input) ClientEnd) (awaited : Awaited) (before after : Hearing) (old new : Option (List ℕ)) : Type 0 where
  pub piece : List ℕ
  pub departed : old ≡ before_taking piece new
  pub hears : (errand : Errand) (bytes : List ℕ) → HasHeard errand before bytes (Waiting awaited) → HearsTo result errand (stage_after errand awaited) after (bytes ++ piece)
