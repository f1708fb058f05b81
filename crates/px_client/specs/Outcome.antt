-- What a client does over its link, and how it ends.
use Rattle.std.specs.Prelude.{◌≡◌, ℕ, List, ◌++◌, Option, Result, Ok, Err}
use Rattle.px_types.specs.Faults.{Rose}
use Rattle.px_ends.specs.Links.{LinkCounts}
use Rattle.px_ends.specs.Visible.{before_taking, after_adding}
use Rattle.px_ends.specs.Whole.{AddsFront}
use Rattle.px_frame.specs.Meaning.{frames_in}
use Rattle.px_client.specs.declared.errand.Errand.{Errand}
use Rattle.px_client.specs.declared.inputs.Input.{Input}
use Rattle.px_client.specs.declared.hearing.Hearing.{Hearing}
use Rattle.px_client.specs.declared.end.ClientEnd.{ClientEnd}
use Rattle.px_client.specs.declared.end.ClientEnd.TheVariants as ends
use Rattle.px_client.specs.Dialogue.{Stage, Done, stage_of}
use Rattle.px_client.specs.Causes.{EndsBy, EndCounts, Counts}
use Rattle.px_client.specs.Errand.{sent_for}
use Rattle.px_client.specs.Hearing.{HasHeard, HearsTo}
use Rattle.px_client.specs.Listing.{listing}

-- a link: the bytes that are left and those that were sent, where they are visible, and its counts
pub record LinkState : Type 0 where
  pub left : Option (List ℕ)
  pub sent : Option (List ℕ)
  pub counts : LinkCounts

-- ---- a part of the dialogue

-- these bytes were sent, or where it ended a front of them
abbrev pub Sends : {X : Type 0} → Result X ClientEnd → List ℕ → Option (List ℕ) → Option (List ℕ) → Type 0
Sends (Ok x) bytes old new = new ≡ after_adding old bytes
Sends (Err end) bytes old new = AddsFront bytes old new

-- bytes were sent, and what came then brought the dialogue from one stage to another, or ended it
pub record Talks {X : Type 0} (errand : Errand) (result : Result X ClientEnd) (bytes : List ℕ) (from : Stage) (to : X → Stage) (before after : Hearing) (old new : LinkState) : Type 0 where
  pub piece : List ℕ
  pub departed : old.left ≡ before_taking piece new.left
  pub hears : (heard : List ℕ) → HasHeard errand before heard from → HearsTo result errand to after (heard ++ piece)
  pub sends : Sends result bytes old.sent new.sent
  pub counts : Counts result old.counts new.counts

-- ---- the whole dialogue

-- what the bytes say that came in it
abbrev pub Says : Result (List Input) ClientEnd → Errand → List ℕ → Type 0
Says (Ok inputs) errand read = stage_of errand (frames_in read) ≡ Done inputs
Says (Err end) errand read = EndsBy errand read end

pub record Converses (result : Result (List Input) ClientEnd) (cookie : List ℕ) (errand : Errand) (old new : LinkState) : Type 0 where
  pub read : List ℕ
  pub departed : old.left ≡ before_taking read new.left
  pub says : Says result errand read
  pub sends : Sends result (sent_for cookie errand) old.sent new.sent
  pub counts : Counts result old.counts new.counts

-- ---- the output

-- the inputs' lines were written; or a front of them, and then a write failed; or nothing, for want of memory
abbrev pub Prints : ClientEnd → List Input → Option (List ℕ) → Option (List ℕ) → ℕ → ℕ → Type 0
Prints ends.Ok inputs held held' faults faults' = (held' ≡ after_adding held (listing inputs)) × (faults' ≡ faults)
Prints ends.WriteFault inputs held held' faults faults' = AddsFront (listing inputs) held held' × Rose faults faults'
Prints ends.Memory inputs held held' faults faults' = (held' ≡ held) × (faults' ≡ faults)
Prints _ inputs held held' faults faults' = ⊥

-- ---- the client

-- what was sent: everything, where the errand's reply came; else a front of it
abbrev pub SendsBy : ClientEnd → List ℕ → Option (List ℕ) → Option (List ℕ) → Type 0
SendsBy ends.Ok bytes old new = new ≡ after_adding old bytes
SendsBy ends.WriteFault bytes old new = new ≡ after_adding old bytes
SendsBy _ bytes old new = AddsFront bytes old new

-- what the received bytes say, and what the output gained: where the last reply came, its inputs' lines, or a front of them and then a fault;
-- else nothing
abbrev pub ShowsBy : ClientEnd → Errand → List ℕ → Option (List ℕ) → Option (List ℕ) → ℕ → ℕ → Type 0
ShowsBy ends.Ok errand read held held' faults faults' =
    (inputs : List Input) × (stage_of errand (frames_in read) ≡ Done inputs) × (held' ≡ after_adding held (listing inputs)) × (faults' ≡ faults)
ShowsBy ends.WriteFault errand read held held' faults faults' =
    (inputs : List Input) × (stage_of errand (frames_in read) ≡ Done inputs) × AddsFront (listing inputs) held held' × Rose faults faults'
ShowsBy end errand read held held' faults faults' = EndsBy errand read end × (held' ≡ held) × (faults' ≡ faults)

-- a run of the client: these bytes came from the link in it
pub record Runs (end : ClientEnd) (cookie : List ℕ) (errand : Errand) (old new : LinkState) (held held' : Option (List ℕ)) (faults faults' : ℕ) : Type 0 where
  pub read : List ℕ
  pub departed : old.left ≡ before_taking read new.left
  pub shows : ShowsBy end errand read held held' faults faults'
  pub sends : SendsBy end (sent_for cookie errand) old.sent new.sent
  pub counts : EndCounts end old.counts new.counts
