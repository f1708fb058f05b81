-- One message more that is taken, and one notice more that is posted.
use Rattle.std.proofs.Common.{◌≡◌, Bool, List, [], ◌∷◌, ◌++◌, refl, ap, sym, ◌∙◌, append_assoc, Option, Some, None}
use Rattle.std.proofs.lemmas.List.{map-append, append-nil}
use Rattle.px_sample.specs.declared.spec.Spec.{Spec}
use Rattle.px_model.specs.Stream.{Stream}
use Rattle.px_model.specs.Message.{Message}
use Rattle.px_model.specs.Notice.{Notice}
use Rattle.px_msg.specs.declared.message.Msg.{Msg}
use Rattle.px_msg.specs.declared.notice.Notice.{Notice as CodeNotice}
use Rattle.px_msg.specs.View.{sample_spec}
use Rattle.px_msg.proofs.Lawful.{front}
use Rattle.px_stream.specs.HeldStream.{HeldStream}
use Rattle.px_lane.specs.Lists.{plain_message, messages_of, notices_of}
use Rattle.px_lane_cell.specs.Moved.{parcel_spec, AreTaken, Takes, Posts}

-- ---- calls that a pass has written down

abbrev pub GoesOnWith : List Bool → List Bool → Type 0
GoesOnWith before after = (calls : List Bool) × (after ≡ before ++ calls)

pub one_call : (before after after' : List Bool) (b : Bool) → GoesOnWith before after → after' ≡ after ++ b ∷ [] → GoesOnWith before after'
one_call before after after' b h e = (h.0 ++ b ∷ [], e ∙ ap (λ l. l ++ b ∷ []) h.1 ∙ append_assoc before h.0 (b ∷ []))

-- ---- messages

pub fronts : (key : Option Spec) (taken held : List (Msg HeldStream)) → AreTaken key (taken ++ held) → AreTaken key taken
fronts None taken held h = tt
fronts (Some k) taken held h = front parcel_spec (sample_spec k) taken held h

pub one_taken : (taken taken' taken'' : List (Msg HeldStream)) (waiting waiting' waiting'' : List (Message Stream)) (m : Msg HeldStream) → Takes taken taken' waiting waiting' → taken'' ≡ taken' ++ m ∷ [] → waiting'' ≡ waiting' ++ plain_message m ∷ []
    → Takes taken taken'' waiting waiting''
one_taken taken taken' taken'' waiting waiting' waiting'' m h e f = record {
  got = h.got ++ m ∷ [];
  moved = e ∙ ap (λ l. l ++ m ∷ []) h.moved ∙ append_assoc taken h.got (m ∷ []);
  stands =
      f
      ∙ ap (λ l. l ++ plain_message m ∷ []) h.stands
      ∙ append_assoc waiting (messages_of h.got) (plain_message m ∷ [])
      ∙ ap (λ l. waiting ++ l) (sym (map-append plain_message h.got (m ∷ [])));
}

-- ---- notices

pub none_posted : (posted : List (CodeNotice HeldStream)) (notices : List (Notice Stream)) → Posts posted posted notices notices
none_posted posted notices = record { gone = []; moved = sym (append-nil posted); stays = refl }

-- the notices that are left, with another for them
pub same_left : (posted posted' : List (CodeNotice HeldStream)) (notices left left' : List (Notice Stream)) → Posts posted posted' notices left → left' ≡ left → Posts posted posted' notices left'
same_left posted posted' notices left left' h e = record { gone = h.gone; moved = h.moved; stays = h.stays ∙ ap (λ l. notices_of h.gone ++ l) (sym e) }
