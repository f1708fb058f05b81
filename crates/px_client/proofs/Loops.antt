-- How the hearing of several pieces joins.
use Rattle.std.proofs.Common.{◌≡◌, ℕ, ◌+◌, ◌-◌, ◌≤◌, List, [], ◌++◌, length, take, drop, Option, None, Some, Result, Ok, Err, IfErr, refl, ap, sym, subst, ◌∙◌, append-nil, append_assoc, inl, arith, length-drop}
use Rattle.std.proofs.lemmas.List.{take_all, drop_all, drop-drop}
use Rattle.px_ends.specs.Links.{LinkCounts}
use Rattle.px_ends.specs.Visible.{before_taking}
use Rattle.px_ends.proofs.VisibleBytes.{taking_nothing, taking_both}
use Rattle.px_frame.specs.declared.frame.Frame.{Frame}
use Rattle.px_frame.specs.declared.fault.FrameFault.{FrameFault}
use Rattle.px_client.specs.declared.errand.Errand.{Errand}
use Rattle.px_client.specs.declared.awaited.Awaited.{Awaited}
use Rattle.px_client.specs.declared.hearing.Hearing.{Hearing}
use Rattle.px_client.specs.declared.inputs.Input.{Input}
use Rattle.px_client.specs.declared.end.ClientEnd.{ClientEnd}
use Rattle.px_client.specs.declared.end.ClientEnd.TheVariants as ends
use Rattle.px_client.specs.Dialogue.{Waiting, Refused, Astray, stage_after, stage_from}
use Rattle.px_client.specs.Causes.{HEARD_MAX, EndsBy, IsSound, EndCounts, Counts, ReceiveGives, HearFails}
use Rattle.px_client.specs.Hearing.{left_of, HasHeard, Scans, Refills, HearsOn, Replies}
use Rattle.px_client.proofs.Heard.{brought, judged_more, faulty, too_many, gone}
use Rattle.px_client.proofs.Unmoved.{unreceived}

-- ---- the link's counts

pub sound_still : (counts : LinkCounts) → IsSound counts counts
sound_still counts = record { faults = refl; ends = refl; later = omega arith }

pub sound_both : {a b c : LinkCounts} → IsSound a b → IsSound b c → IsSound a c
sound_both s t = record { faults = t.faults ∙ s.faults; ends = t.ends ∙ s.ends; later = omega (arith, s.later, t.later) }

end_after : (a b c : LinkCounts) (end : ClientEnd) → IsSound a b → EndCounts end b c → EndCounts end a c
end_after a b c ends.Host s t = record { faults = record { later = omega (arith, s.faults, t.faults.later); more = omega (arith, s.faults, t.faults.more) }; ends = t.ends ∙ s.ends; later = omega (arith, s.later, t.later) }
end_after a b c ends.Gone s t = record { faults = t.faults ∙ s.faults; ends = record { later = omega (arith, s.ends, t.ends.later); more = omega (arith, s.ends, t.ends.more) }; later = omega (arith, s.later, t.later) }
end_after a b c ends.Silent s t = record { faults = t.faults ∙ s.faults; ends = t.ends ∙ s.ends; later = record { later = omega (arith, s.later, t.later.later); more = omega (arith, s.later, t.later.more) } }
end_after a b c ends.Ok s t = sound_both s t
end_after a b c ends.Memory s t = sound_both s t
end_after a b c ends.WriteFault s t = sound_both s t
end_after a b c (ends.Denied code) s t = sound_both s t
end_after a b c (ends.BadReply at) s t = sound_both s t

pub counts_after : {X : Type 0} (a b c : LinkCounts) (result : Result X ClientEnd) → IsSound a b → Counts result b c → Counts result a c
counts_after a b c (Ok x) s t = sound_both s t
counts_after a b c (Err end) s t = end_after a b c end s t

-- a call that waits for no link ends without one
pub counts_none : {X : Type 0} (a b : LinkCounts) (result : Result X ClientEnd) → IfErr result HearFails → IsSound a b → Counts result a b
counts_none a b (Ok x) fails s = s
counts_none a b (Err ends.Memory) fails s = s
counts_none a b (Err (ends.BadReply at)) fails s = s
counts_none a b (Err ends.Ok) fails s = absurd fails
counts_none a b (Err ends.WriteFault) fails s = absurd fails
counts_none a b (Err ends.Host) fails s = absurd fails
counts_none a b (Err ends.Gone) fails s = absurd fails
counts_none a b (Err ends.Silent) fails s = absurd fails
counts_none a b (Err (ends.Denied code)) fails s = absurd fails

pub scan_counts : (a b : LinkCounts) (end : ClientEnd) (errand : Errand) (awaited : Awaited) (frames : List Frame) → Scans (Err end) errand awaited frames → IsSound a b → EndCounts end a b
scan_counts a b ends.Memory errand awaited frames scans s = s
scan_counts a b (ends.BadReply at) errand awaited frames scans s = s
scan_counts a b (ends.Denied code) errand awaited frames scans s = s
scan_counts a b ends.Ok errand awaited frames scans s = absurd scans
scan_counts a b ends.WriteFault errand awaited frames scans s = absurd scans
scan_counts a b ends.Host errand awaited frames scans s = absurd scans
scan_counts a b ends.Gone errand awaited frames scans s = absurd scans
scan_counts a b ends.Silent errand awaited frames scans s = absurd scans

-- ---- pieces

pub hears_nothing : (awaited : Awaited) (ear : Hearing) (left : Option (List ℕ)) → HearsOn awaited ear ear left left
hears_nothing awaited ear left = record {
  piece = [];
  departed = sym (taking_nothing left);
  hears = λ errand bytes h. subst (λ (b : List ℕ). HasHeard errand ear b (Waiting awaited)) (sym (append-nil bytes)) h;
}

-- all frames left are messages, and then a piece comes
module _ (awaited : Awaited) (first before judged : Hearing) (old left new : Option (List ℕ)) (so_far : HearsOn awaited first before old left)
    (frames : List Frame) (n : ℕ) (frames_are : frames ≡ left_of before) (judged_is : judged ≡ record before { next = before.next + n })
    (messages : (errand : Errand) → Scans (Ok (n, None)) errand awaited frames) where
  judged_heard : (errand : Errand) (bytes : List ℕ) → HasHeard errand first bytes (Waiting awaited) → HasHeard errand judged (bytes ++ so_far.piece) (Waiting awaited)
  judged_heard errand bytes h =
      let m = messages errand in
      let whole : take n (left_of before) ≡ frames = ap (take n) (sym frames_are) ∙ take_all n frames (omega (arith, m.0)) in
      judged_more errand before (bytes ++ so_far.piece) (Waiting awaited) (so_far.hears errand bytes h) judged (Waiting awaited) n (ap (stage_from errand (Waiting awaited)) whole ∙ m.1) judged_is

  pub refilled : {X : Type 0} (x : X) (after : Hearing) → Refills (let r : Result X ClientEnd = Ok x in r) judged after left new → HearsOn awaited first after old new
  refilled x after r = record {
    piece = so_far.piece ++ r.piece;
    departed = so_far.departed ∙ ap (before_taking so_far.piece) r.departed ∙ taking_both so_far.piece r.piece new;
    hears = λ errand bytes h. subst (λ (b : List ℕ). HasHeard errand after b (Waiting awaited)) (append_assoc bytes so_far.piece r.piece)
        (r.hears errand (bytes ++ so_far.piece) awaited (judged_heard errand bytes h));
  }

  pub ended : {X : Type 0} (after : Hearing) (end : ClientEnd) → Refills (let e : Result X ClientEnd = Err end in e) judged after left new → Replies (Err end) awaited first after old new
  ended after end r = record {
    piece = so_far.piece ++ r.piece;
    departed = so_far.departed ∙ ap (before_taking so_far.piece) r.departed ∙ taking_both so_far.piece r.piece new;
    hears = λ errand bytes h. subst (λ (b : List ℕ). EndsBy errand b end) (append_assoc bytes so_far.piece r.piece)
        (r.hears errand (bytes ++ so_far.piece) awaited (judged_heard errand bytes h));
  }

-- the awaited reply is among the frames left, or one of them ends the dialogue
module _ (awaited : Awaited) (first before : Hearing) (old left : Option (List ℕ)) (so_far : HearsOn awaited first before old left) (frames : List Frame) (frames_are : frames ≡ left_of before) where
  pub found : (after : Hearing) (n : ℕ) (inputs : List Input) → after ≡ record before { next = before.next + n } → ((errand : Errand) → Scans (Ok (n, Some inputs)) errand awaited frames)
      → Replies (Ok inputs) awaited first after old left
  found after n inputs after_is scans = record {
    piece = so_far.piece;
    departed = so_far.departed;
    hears = λ errand bytes h. judged_more errand before (bytes ++ so_far.piece) (Waiting awaited) (so_far.hears errand bytes h) after (stage_after errand awaited inputs) n
        (ap (λ (fs : List Frame). stage_from errand (Waiting awaited) (take n fs)) (sym frames_are) ∙ (scans errand).1) after_is;
  }

  stops : (errand : Errand) (bytes : List ℕ) (end : ClientEnd) → HasHeard errand before bytes (Waiting awaited) → Scans (Err end) errand awaited frames → EndsBy errand bytes end
  stops errand bytes (ends.Denied code) h scans = brought errand before bytes (Waiting awaited) h (Refused code) (ap (stage_from errand (Waiting awaited)) (sym frames_are) ∙ scans)
  stops errand bytes (ends.BadReply at) h scans = inl (brought errand before bytes (Waiting awaited) h (Astray at) (ap (stage_from errand (Waiting awaited)) (sym frames_are) ∙ scans))
  stops errand bytes ends.Memory h scans = tt
  stops errand bytes ends.Ok h scans = absurd scans
  stops errand bytes ends.WriteFault h scans = absurd scans
  stops errand bytes ends.Host h scans = absurd scans
  stops errand bytes ends.Gone h scans = absurd scans
  stops errand bytes ends.Silent h scans = absurd scans

  pub stopped : (after : Hearing) (end : ClientEnd) → ((errand : Errand) → Scans (Err end) errand awaited frames) → Replies (Err end) awaited first after old left
  stopped after end scans = record {
    piece = so_far.piece;
    departed = so_far.departed;
    hears = λ errand bytes h. stops errand (bytes ++ so_far.piece) end (so_far.hears errand bytes h) (scans errand);
  }

-- the frames from the next on, as a slice has them
pub rest_left : (ear : Hearing) → take (length ear.frames - ear.next) (drop ear.next ear.frames) ≡ left_of ear
rest_left ear = take_all (length ear.frames - ear.next) (drop ear.next ear.frames) (omega (arith, length-drop ear.next ear.frames))

pub slice_left : (frames : List Frame) (ear : Hearing) → frames ≡ ear.frames → take (length frames - ear.next) (drop ear.next frames) ≡ left_of ear
slice_left frames ear is = ap (λ (fs : List Frame). take (length fs - ear.next) (drop ear.next fs)) is ∙ rest_left ear

pub scanned_few : (n : ℕ) (reply : Option (List Input)) (errand : Errand) (awaited : Awaited) (frames : List Frame) → Scans (Ok (n, reply)) errand awaited frames → n ≤ length frames
scanned_few n None errand awaited frames scans = omega (arith, scans.0)
scanned_few n (Some inputs) errand awaited frames scans = scans.0

pub inside_still : (ear : Hearing) (frames : List Frame) (n : ℕ) → ear.next ≤ length ear.frames → frames ≡ left_of ear → n ≤ length frames → ear.next + n ≤ length ear.frames
inside_still ear frames n inside is few = omega (arith, inside, few, ap (length {A = Frame}) is, length-drop ear.next ear.frames)

pub none_left : (ear : Hearing) (frames : List Frame) (n : ℕ) → frames ≡ left_of ear → n ≡ length frames → drop (ear.next + n) ear.frames ≡ []
none_left ear frames n is all =
    sym (drop-drop n ear.next ear.frames) ∙ drop_all n (drop ear.next ear.frames) (omega (arith, all, ap (length {A = Frame}) is))

-- ---- nothing is heard

module _ (ear : Hearing) (none : left_of ear ≡ []) (left : Option (List ℕ)) where
  pub refill_faulty : (fault : FrameFault) (at : ℕ) → ear.fault ≡ Some (fault, at) → Refills (let r : Result Unit ClientEnd = Err (ends.BadReply at) in r) ear ear left left
  refill_faulty fault at is = record {
    piece = [];
    departed = sym (taking_nothing left);
    hears = λ errand bytes awaited h. subst (λ (b : List ℕ). EndsBy errand b (ends.BadReply at)) (sym (append-nil bytes)) (faulty errand ear bytes awaited h none fault at is);
  }

  pub refill_full : ear.fault ≡ None → HEARD_MAX ≤ ear.heard → Refills (let r : Result Unit ClientEnd = Err (ends.BadReply HEARD_MAX) in r) ear ear left left
  refill_full sound full = record {
    piece = [];
    departed = sym (taking_nothing left);
    hears = λ errand bytes awaited h. subst (λ (b : List ℕ). EndsBy errand b (ends.BadReply HEARD_MAX)) (sym (append-nil bytes)) (too_many errand ear bytes awaited h none sound full);
  }

  receive_ends : (end : ClientEnd) (buffer : List ℕ) (new : Option (List ℕ)) (errand : Errand) (bytes : List ℕ) (awaited : Awaited) → ear.fault ≡ None → HasHeard errand ear bytes (Waiting awaited) → ReceiveGives (Err end) buffer left new → EndsBy errand bytes end
  receive_ends ends.Gone buffer new errand bytes awaited sound h gives = gone errand ear bytes awaited h none sound
  receive_ends ends.Host buffer new errand bytes awaited sound h gives = tt
  receive_ends ends.Silent buffer new errand bytes awaited sound h gives = tt
  receive_ends ends.Ok buffer new errand bytes awaited sound h gives = absurd gives
  receive_ends ends.Memory buffer new errand bytes awaited sound h gives = absurd gives
  receive_ends ends.WriteFault buffer new errand bytes awaited sound h gives = absurd gives
  receive_ends (ends.Denied code) buffer new errand bytes awaited sound h gives = absurd gives
  receive_ends (ends.BadReply at) buffer new errand bytes awaited sound h gives = absurd gives

  pub refill_none : (end : ClientEnd) (buffer : List ℕ) (new : Option (List ℕ)) → ear.fault ≡ None → ReceiveGives (Err end) buffer left new → Refills (let r : Result Unit ClientEnd = Err end in r) ear ear left new
  refill_none end buffer new sound gives = record {
    piece = [];
    departed = sym (unreceived end buffer left new gives) ∙ sym (taking_nothing new);
    hears = λ errand bytes awaited h. subst (λ (b : List ℕ). EndsBy errand b end) (sym (append-nil bytes)) (receive_ends end buffer new errand bytes awaited sound h gives);
  }
