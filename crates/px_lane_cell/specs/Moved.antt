-- What goes through the mailboxes at a sink.
use Rattle.std.specs.Prelude.{◌≡◌, ◌⊎◌, Bool, List, [], ◌++◌, length, Option}
use Rattle.crossbeam_queue.specs.Fifo.{Held}
use Rattle.px_mail.specs.Mailbox.{IsLawful, IsHeldOf, LastFails}
use Rattle.px_msg.specs.declared.message.Msg.{Msg}
use Rattle.px_msg.specs.declared.notice.Notice.{Notice as CodeNotice}
use Rattle.px_msg.specs.Letters.{AreLawful}
use Rattle.px_msg.specs.View.{sample_spec}
use Rattle.px_sample.specs.declared.spec.Spec.{Spec}
use Rattle.px_model.specs.Frame.{SampleSpec}
use Rattle.px_model.specs.Stream.{Stream}
use Rattle.px_model.specs.Message.{Message}
use Rattle.px_model.specs.Notice.{Notice}
use Rattle.px_stream.specs.HeldStream.{HeldStream}
use Rattle.px_lane.specs.Lists.{messages_of, notices_of}

-- the sample spec of a parcel
abbrev pub parcel_spec : HeldStream → SampleSpec
parcel_spec s = s.stream.spec

-- messages that were taken from an inbox with this key are lawful there
abbrev pub AreTaken : Option Spec → List (Msg HeldStream) → Type 0
AreTaken key messages = IsLawful (λ (k : Spec) (letters : List (Msg HeldStream)). AreLawful parcel_spec (sample_spec k) letters) key messages

-- some messages were taken, and follow those that were waiting
pub record Takes (taken taken' : List (Msg HeldStream)) (waiting waiting' : List (Message Stream)) : Type 0 where
  pub got : List (Msg HeldStream)
  pub moved : taken' ≡ taken ++ got
  pub stands : waiting' ≡ waiting ++ messages_of got

-- there are 256, or the last take found the inbox empty: what its pass had recorded before these takes and after them
abbrev pub AreAll : List Bool → List Bool → Option Spec → List (Msg HeldStream) → List (Message Stream) → Type 0
AreAll found found' key taken waiting = (length waiting ≡ 256) ⊎ (LastFails found found' × Held 0 (λ held. AreTaken key (taken ++ held)))

-- the first notices were posted, and the others are left
pub record Posts (posted posted' : List (CodeNotice HeldStream)) (notices left : List (Notice Stream)) : Type 0 where
  pub gone : List (CodeNotice HeldStream)
  pub moved : posted' ≡ posted ++ gone
  pub stays : notices ≡ notices_of gone ++ left

-- none is left, or the outbox was full at the last post: what its pass had recorded before these posts and after them
abbrev pub AreGone : List Bool → List Bool → List (CodeNotice HeldStream) → List (Notice Stream) → Type 0
AreGone stored stored' posted left = (left ≡ []) ⊎ (LastFails stored stored' × Held 256 (IsHeldOf posted))
