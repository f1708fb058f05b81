-- What a handler that planned has passed.
use Rattle.std.proofs.Common.{◌≡◌, ℕ, Bool, true, false, List, Option, None, Some, Ok, refl, ap, sym, ◌∙◌}
use Rattle.px_types.specs.declared.error_code.ErrorCode.TheVariants.{Invalid, NoEntity, TooLarge, NotSupported}
use Rattle.px_cmd.specs.declared.command.CreateFields.{CreateFields}
use Rattle.px_flat.specs.FlatVolume.{FlatGroup}
use Rattle.px_msg.specs.declared.message.Msg.{Msg}
use Rattle.px_outcome.specs.declared.input.Connection.{Connection}
use Rattle.px_outcome.specs.declared.input.Input.{Input}
use Rattle.px_outcome.specs.declared.target.Named.{Named}
use Rattle.px_outcome.specs.declared.target.Target.{Target}
use Rattle.px_outcome.specs.declared.waiting.Waiting.{Waiting}
use Rattle.px_outcome.specs.Outcome.{OutcomeParts, replied}
use Rattle.px_outcome.specs.Handled.{Handled, ◌>>=◌, check, present}
use Rattle.px_outcome.specs.Target.{is_clear, target_of}
use Rattle.px_ctl_play.specs.Asked.{is_lawful, is_supported, feed_on, has_room}
use Rattle.px_reply.specs.Message.{created_reply}
use Rattle.px_outcome.specs.declared.change.Change.{Change}
use Rattle.px_ctl_play.specs.Create.{input_made, created_of, changes_of, created, create}
use Rattle.px_ctl_play.specs.Joining.{joined}
use Rattle.px_ctl_play.specs.Delete.{deleted, delete}

abbrev handled : {B : Type 0} → B → Handled B
handled outcome = Ok outcome

-- ---- CREATE_PLAYBACK_STREAM

pub record IsCreated {P : Type 0} (inputs : List Input) (made : ℕ) (me : Connection) (tag : ℕ) (named : Named) (group : Option FlatGroup) (a : CreateFields) (outcome : OutcomeParts (Msg P) FlatGroup) : Type 0 where
  pub sink : Target
  pub there : target_of named ≡ Some sink
  pub owner : FlatGroup
  pub owned : group ≡ Some owner
  pub lawful : is_lawful a ≡ true
  pub supported : is_supported sink a ≡ true
  pub feed : List ℕ
  pub fed : feed_on sink a ≡ Some feed
  pub room : has_room inputs made me sink.index ≡ true
  pub handled : outcome ≡ created inputs made me tag sink owner a feed (input_made made me sink a)

abbrev on_sink : {A B : Type 0} → Bool → Option A → Bool → (A → B) → Handled B
on_sink supported feed room outcome = do
  s ← check supported NotSupported
  f ← present feed NotSupported
  r ← check room TooLarge
  Ok (outcome f)

passed_on : {A B : Type 0} (supported : Bool) (feed : Option A) (room : Bool) (made : A → B) (outcome : B) → on_sink supported feed room made ≡ Ok outcome
    → (supported ≡ true) × ((f : A) × (feed ≡ Some f) × (outcome ≡ made f)) × (room ≡ true)
passed_on true (Some f) true made outcome e = (refl, (f, refl, cc), refl)
passed_on false feed room made outcome e = absurd cc
passed_on true None room made outcome e = absurd cc
passed_on true (Some f) false made outcome e = absurd cc

module _ {P : Type 0} (inputs : List Input) (made : ℕ) (me : Connection) (tag : ℕ) (named : Named) (group : Option FlatGroup) (a : CreateFields) (outcome : OutcomeParts (Msg P) FlatGroup) where
  abbrev on_group : Target → FlatGroup → Handled (OutcomeParts (Msg P) FlatGroup)
  on_group sink owner = on_sink (is_supported sink a) (feed_on sink a) (has_room inputs made me sink.index) (λ feed. created inputs made me tag sink owner a feed (input_made made me sink a))

  passed : (lawful clear : Bool) (target : Option Target) (owner : Option FlatGroup) → is_lawful a ≡ lawful → target_of named ≡ target → group ≡ owner
      → (check lawful Invalid >>= λ l. check clear Invalid >>= λ c. present target NoEntity >>= λ sink. present owner NoEntity >>= on_group sink) ≡ Ok outcome → IsCreated inputs made me tag named group a outcome
  passed false clear target owner lawful there owned e = absurd cc
  passed true false target owner lawful there owned e = absurd cc
  passed true true None owner lawful there owned e = absurd cc
  passed true true (Some sink) None lawful there owned e = absurd cc
  passed true true (Some sink) (Some owner) lawful there owned e =
      let p = passed_on (is_supported sink a) (feed_on sink a) (has_room inputs made me sink.index) (λ feed. created inputs made me tag sink owner a feed (input_made made me sink a)) outcome e in
      record { sink = sink; there = there; owner = owner; owned = owned; lawful = lawful; supported = p.0; feed = p.1.0; fed = p.1.1; room = p.2; handled = p.1.2 }

  pub create_passed : create inputs made me tag named group a ≡ Ok outcome → IsCreated inputs made me tag named group a outcome
  create_passed e = passed (is_lawful a) (is_clear named) (target_of named) group refl refl refl e

-- what is planned, part by part
pub created_as : {P : Type 0} (inputs : List Input) (made : ℕ) (me : Connection) (tag : ℕ) (sink : Target) (group : FlatGroup) (a : CreateFields) (feed : List ℕ) (outcome : OutcomeParts (Msg P) FlatGroup) (x : Input) (own : FlatGroup) (reply : List ℕ) (changes : List (Change (Msg P) FlatGroup))
    → outcome ≡ replied reply changes → reply ≡ created_reply tag (created_of sink a x) → changes ≡ changes_of inputs made me a own feed x → own ≡ joined group sink a feed x → x ≡ input_made made me sink a
    → handled (created inputs made me tag sink group a feed (input_made made me sink a)) ≡ handled outcome
created_as {P} inputs made me tag sink group a feed outcome x own reply changes whole notified does joins is =
    sym (ap (λ (p : OutcomeParts (Msg P) FlatGroup). handled p)
    (whole
    ∙ (λ i. replied (notified i) (does i))
    ∙ ap (λ (g : FlatGroup). replied (created_reply tag (created_of sink a x)) (changes_of inputs made me a g feed x)) joins
    ∙ ap (λ (y : Input). created inputs made me tag sink group a feed y) is))

-- ---- a command of one stream, which is there

same_outcome : {B : Type 0} (a b : B) → handled a ≡ Ok b → b ≡ a
same_outcome a b e = cc

pub of_stream_passed : {A : Type 0} (stream : Option Input) (f : Input → A) (outcome : A) → (present stream NoEntity >>= λ x. Ok (f x)) ≡ Ok outcome → (x : Input) × (stream ≡ Some x) × (outcome ≡ f x)
of_stream_passed None f outcome e = absurd cc
of_stream_passed (Some x) f outcome e = (x, refl, same_outcome (f x) outcome e)

pub delete_passed : {P : Type 0} (stream : Option Input) (waiting : List Waiting) (tag : ℕ) (outcome : OutcomeParts (Msg P) FlatGroup)
    → delete stream waiting tag ≡ Ok outcome → (x : Input) × (stream ≡ Some x) × (outcome ≡ deleted x waiting tag)
delete_passed stream waiting tag outcome e = of_stream_passed stream (λ x. deleted x waiting tag) outcome e
