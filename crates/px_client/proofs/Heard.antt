-- What the client has heard, from piece to piece and from frame to frame.
use Rattle.std.proofs.Common.{◌≡◌, ℕ, ◌+◌, ◌≤◌, List, [], ◌∷◌, ◌++◌, length, length-append, take, drop, None, Some, refl, ap, sym, subst, ◌∙◌, append-nil, append_assoc, inl, inr, arith}
use Rattle.std.proofs.lemmas.List.{take-append-drop, drop-drop}
use Rattle.px_frame.specs.declared.frame.Frame.{Frame}
use Rattle.px_frame.specs.declared.fault.FrameFault.{FrameFault}
use Rattle.px_frame.specs.Progress.{HasFed}
use Rattle.px_frame.specs.Reading.{Broken, IsRead}
use Rattle.px_frame.specs.Meaning.{frames_in, ending_in}
use Rattle.px_frame.proofs.DecoderLemmas.{failed-more}
use Rattle.px_frame.proofs.MeaningLemmas.{read-only}
use Rattle.px_client.specs.declared.errand.Errand.{Errand}
use Rattle.px_client.specs.declared.awaited.Awaited.{Awaited}
use Rattle.px_client.specs.declared.awaited.Awaited.TheVariants as awaits
use Rattle.px_client.specs.declared.hearing.Hearing.{Hearing}
use Rattle.px_client.specs.declared.end.ClientEnd.TheVariants as ends
use Rattle.px_client.specs.Dialogue.{Stage, Waiting, next_stage, stage_from, stage_of}
use Rattle.px_client.specs.Causes.{HEARD_MAX, IsUnanswered, EndsBy}
use Rattle.px_client.specs.Hearing.{left_of, ending_by, HasHeard}

-- first these frames, then those
pub stage_both : (errand : Errand) (stage : Stage) (a b : List Frame) → stage_from errand stage (a ++ b) ≡ stage_from errand (stage_from errand stage a) b
stage_both errand stage [] b = refl
stage_both errand stage (frame ∷ a) b = stage_both errand (next_stage errand stage frame) a b

module _ (errand : Errand) (ear : Hearing) (bytes : List ℕ) (stage : Stage) (h : HasHeard errand ear bytes stage) where
  -- the frames of the bytes are those judged and those left
  frames_split : frames_in bytes ≡ h.judged ++ left_of ear
  frames_split = sym (read-only bytes (h.judged ++ left_of ear) (ending_by ear.fault) h.read).0

  pub ends_so : ending_in bytes ≡ ending_by ear.fault
  ends_so = sym (read-only bytes (h.judged ++ left_of ear) (ending_by ear.fault) h.read).1

  -- judging those left brings the dialogue to a stage
  pub brought : (to : Stage) → stage_from errand stage (left_of ear) ≡ to → stage_of errand (frames_in bytes) ≡ to
  brought to brings =
      ap (stage_of errand) frames_split ∙ stage_both errand (Waiting awaits.Version) h.judged (left_of ear)
      ∙ ap (λ (s : Stage). stage_from errand s (left_of ear)) h.stage_is ∙ brings

  -- none is left
  pub all_judged : left_of ear ≡ [] → stage_of errand (frames_in bytes) ≡ stage
  all_judged none = brought stage (ap (stage_from errand stage) none)

  -- the first n of those left are judged
  pub judged_more : (after : Hearing) (to : Stage) (n : ℕ) → stage_from errand stage (take n (left_of ear)) ≡ to → after ≡ record ear { next = ear.next + n } → HasHeard errand after bytes to
  judged_more after to n brings is =
      let left = left_of ear in
      let later : drop (ear.next + n) ear.frames ≡ drop n left = sym (drop-drop n ear.next ear.frames) in
      let same : h.judged ++ left ≡ (h.judged ++ take n left) ++ drop (ear.next + n) ear.frames =
      ap (λ (r : List Frame). h.judged ++ r) (sym (take-append-drop n left)) ∙ sym (append_assoc h.judged (take n left) (drop n left))
      ∙ ap (λ (r : List Frame). (h.judged ++ take n left) ++ r) (sym later) in
      subst (λ (e : Hearing). HasHeard errand e bytes to) (sym is) (record {
        judged = h.judged ++ take n left;
        fed = subst (λ (fs : List Frame). HasFed ear.decoder bytes fs) same h.fed;
        read = subst (λ (fs : List Frame). IsRead bytes fs (ending_by ear.fault)) same h.read;
        count = h.count;
        few = h.few;
        stage_is = stage_both errand (Waiting awaits.Version) h.judged (take n left) ∙ ap (λ (s : Stage). stage_from errand s (take n left)) h.stage_is ∙ brings;
      })

  -- a piece completed these frames, and none was left before
  pub fed_more : (after : Hearing) (piece : List ℕ) (frames : List Frame) → left_of ear ≡ []
      → HasFed after.decoder (bytes ++ piece) ((h.judged ++ left_of ear) ++ frames) → IsRead (bytes ++ piece) ((h.judged ++ left_of ear) ++ frames) (ending_by after.fault)
      → after.frames ≡ frames → after.next ≡ 0 → after.heard ≡ ear.heard + length piece → ear.heard + length piece ≤ HEARD_MAX → HasHeard errand after (bytes ++ piece) stage
  fed_more after piece frames none fed read frames_are first count few =
      let left_is : left_of after ≡ frames = ap (λ (n : ℕ). drop n after.frames) first ∙ frames_are in
      let same : (h.judged ++ left_of ear) ++ frames ≡ h.judged ++ left_of after =
      ap (λ (fs : List Frame). (h.judged ++ fs) ++ frames) none ∙ ap (λ (fs : List Frame). fs ++ frames) (append-nil h.judged) ∙ ap (λ (fs : List Frame). h.judged ++ fs) (sym left_is) in
      let size = length-append bytes piece in
      record {
        judged = h.judged;
        fed = subst (λ (fs : List Frame). HasFed after.decoder (bytes ++ piece) fs) same fed;
        read = subst (λ (fs : List Frame). IsRead (bytes ++ piece) fs (ending_by after.fault)) same read;
        count = omega (arith, count, size, h.count);
        few = omega (arith, few, size, h.count);
        stage_is = h.stage_is;
      }

module _ (errand : Errand) (ear : Hearing) (bytes : List ℕ) (awaited : Awaited) (h : HasHeard errand ear bytes (Waiting awaited)) (none : left_of ear ≡ []) where
  unanswered : IsUnanswered errand bytes
  unanswered = record { awaited = awaited; waits = all_judged errand ear bytes (Waiting awaited) h none }

  -- the bytes have a fault after the frames
  pub faulty : (fault : FrameFault) (at : ℕ) → ear.fault ≡ Some (fault, at) → EndsBy errand bytes (ends.BadReply at)
  faulty fault at is = inr (unanswered, inl (fault, ends_so errand ear bytes (Waiting awaited) h ∙ ap ending_by is))

  -- they are as many as the client hears
  pub too_many : ear.fault ≡ None → HEARD_MAX ≤ ear.heard → EndsBy errand bytes (ends.BadReply HEARD_MAX)
  too_many sound full =
      let size : length bytes ≡ HEARD_MAX = omega (arith, full, h.count, h.few) in
      inr (unanswered, inr (ends_so errand ear bytes (Waiting awaited) h ∙ ap ending_by sound, size, refl))

  -- the server is gone
  pub gone : ear.fault ≡ None → EndsBy errand bytes ends.Gone
  gone sound = (unanswered, ends_so errand ear bytes (Waiting awaited) h ∙ ap ending_by sound)

  -- the decoder has failed before
  pub failed : (piece : List ℕ) (fault : FrameFault) (at : ℕ) → IsRead bytes (h.judged ++ left_of ear) (Broken fault at) → EndsBy errand (bytes ++ piece) (ends.BadReply at)
  failed piece fault at read =
      let now = read-only (bytes ++ piece) (h.judged ++ left_of ear) (Broken fault at) (failed-more piece read) in
      let before = read-only bytes (h.judged ++ left_of ear) (Broken fault at) read in
      inr (record { awaited = awaited; waits = ap (stage_of errand) (sym now.0 ∙ before.0) ∙ all_judged errand ear bytes (Waiting awaited) h none }, inl (fault, sym now.1))
