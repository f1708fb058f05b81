-- The messages of a turn, taken one by one, and how wide ramps stay.
use Rattle.std.proofs.Common.{◌≡◌, ℕ, zero, suc, ◌+◌, ◌≤◌, List, [], ◌∷◌, ◌++◌, length, map, drop, Some, None, ap, sym, ◌∙◌, arith}
use Rattle.std.specs.Prelude.{slice_get, not, ◌==◌}
use Rattle.std.proofs.lemmas.Bool.{cond_both}
use Rattle.std.proofs.lemmas.List.{length-map, drop_all}
use Rattle.std.proofs.lemmas.Option.{none-some, same_Some}
use Rattle.px_model.specs.Frame.{SampleSpec}
use Rattle.px_model.specs.Stream.{Stream}
use Rattle.px_model.specs.Message.{Message, InputFactors}
use Rattle.px_model.specs.Orderly.{Inputs, IsOrderly, Fits, inputs_left}
use Rattle.px_ramp.specs.declared.ramps.InputRamps.{InputRamps}
use Rattle.px_ramp.specs.Ramp.{flat, all_aimed, without_ramps, with_flat, with_aim, with_aims, ramps_with, ramps_with_all}
use Rattle.px_ramp.specs.Table.{AreWide}
use Rattle.px_ramp.proofs.Loops.{aimed_length}

-- ---- one message

got : (n h : ℕ) (messages : List (Message Stream)) (i : ℕ) (m : Message Stream) (ramps : List InputRamps) → Some m ≡ slice_get messages i
    → ramps_with_all n h (drop (suc i) messages) (ramps_with n h m ramps) ≡ ramps_with_all n h (drop i messages) ramps
got n h [] i m ramps e = absurd (none-some m (sym e))
got n h (x ∷ messages) zero m ramps e = ap (λ (y : Message Stream). ramps_with_all n h messages (ramps_with n h y ramps)) (same_Some m x e)
got n h (x ∷ messages) (suc i) m ramps e = got n h messages i m ramps e

pub taken_got : (n h : ℕ) (messages : List (Message Stream)) (i : ℕ) (m : Message Stream) (ramps : List InputRamps) → Some m ≡ slice_get messages i
    → ramps_with_all n h (drop (i + 1) messages) (ramps_with n h m ramps) ≡ ramps_with_all n h (drop i messages) ramps
taken_got n h messages i m ramps e =
    let next : i + 1 ≡ suc i = omega arith in
    ap (λ (k : ℕ). ramps_with_all n h (drop k messages) (ramps_with n h m ramps)) next ∙ got n h messages i m ramps e

past : (messages : List (Message Stream)) (i : ℕ) → None ≡ slice_get messages i → length messages ≤ i
past [] i e = omega arith
past (x ∷ messages) zero e = absurd (none-some x e)
past (x ∷ messages) (suc i) e = let h = past messages i e in omega (arith, h)

pub taken_past : (n h : ℕ) (messages : List (Message Stream)) (i : ℕ) (ramps : List InputRamps) → None ≡ slice_get messages i
    → ramps_with_all n h (drop (i + 1) messages) ramps ≡ ramps_with_all n h (drop i messages) ramps
taken_past n h messages i ramps e =
    let far = past messages i e in
    ap (λ (ms : List (Message Stream)). ramps_with_all n h ms ramps) (drop_all (i + 1) messages (omega (arith, far)) ∙ sym (drop_all i messages far))

-- ---- how wide they stay

wide_joined : (channels : ℕ) (xs ys : List InputRamps) → AreWide channels xs → AreWide channels ys → AreWide channels (xs ++ ys)
wide_joined channels [] ys h k = k
wide_joined channels (x ∷ xs) ys h k = (h.0, wide_joined channels xs ys h.1 k)

wide_without : (channels i : ℕ) (xs : List InputRamps) → AreWide channels xs → AreWide channels (without_ramps i xs)
wide_without channels i [] h = tt
wide_without channels i (x ∷ xs) h =
    cond_both (not (x.input == i)) (x ∷ without_ramps i xs) (without_ramps i xs) (λ ys. AreWide channels ys)
    (λ e. (h.0, wide_without channels i xs h.1)) (λ e. wide_without channels i xs h.1)

wide_flat : (channels i : ℕ) (factors : List ℕ) (xs : List InputRamps) → length factors ≡ channels → AreWide channels xs → AreWide channels (with_flat i factors xs)
wide_flat channels i factors xs same h =
    wide_joined channels (without_ramps i xs) (record { input = i; ramps = map flat factors } ∷ []) (wide_without channels i xs h) (length-map factors flat ∙ same, tt)

wide_aim : (channels n h : ℕ) (f : InputFactors) (xs : List InputRamps) → AreWide channels xs → AreWide channels (with_aim n h f xs)
wide_aim channels n h f [] w = tt
wide_aim channels n h f (x ∷ xs) w = (
  cond_both (x.input == f.input) (record { input = x.input; ramps = all_aimed n h f.factors x.ramps }) x (λ y. length (InputRamps.ramps y) ≡ channels)
      (λ e. aimed_length n h f.factors x.ramps ∙ w.0) (λ e. w.0),
  wide_aim channels n h f xs w.1,
)

wide_aims : (channels n h : ℕ) (each : List InputFactors) (xs : List InputRamps) → AreWide channels xs → AreWide channels (with_aims n h each xs)
wide_aims channels n h [] xs w = w
wide_aims channels n h (f ∷ each) xs w = wide_aims channels n h each (with_aim n h f xs) (wide_aim channels n h f xs w)

wide_with : (sink : SampleSpec) (inputs : Inputs) (n h : ℕ) (m : Message Stream) → Fits Stream.spec sink inputs m → (xs : List InputRamps) → AreWide sink.channels xs → AreWide sink.channels (ramps_with n h m xs)
wide_with sink inputs n h (Message.new new) fits xs w = wide_flat sink.channels new.input new.factors xs fits.factors_fit w
wide_with sink inputs n h (Message.attach i parcel feed factors) fits xs w = wide_flat sink.channels i factors xs fits.factors_fit w
wide_with sink inputs n h (Message.detach i) fits xs w = wide_without sink.channels i xs w
wide_with sink inputs n h (Message.write m) fits xs w = w
wide_with sink inputs n h (Message.cork i on) fits xs w = w
wide_with sink inputs n h (Message.flush i) fits xs w = w
wide_with sink inputs n h (Message.trigger i) fits xs w = w
wide_with sink inputs n h (Message.prebuf i) fits xs w = w
wide_with sink inputs n h (Message.drain i tag) fits xs w = w
wide_with sink inputs n h (Message.attr i attr) fits xs w = w
wide_with sink inputs n h (Message.factors each) fits xs w = wide_aims sink.channels n h each xs w
wide_with sink inputs n h (Message.query i tag) fits xs w = w

pub wide_with_all : (sink : SampleSpec) (inputs : Inputs) (n h : ℕ) (messages : List (Message Stream)) → IsOrderly Stream.spec sink inputs messages
    → (xs : List InputRamps) → AreWide sink.channels xs → AreWide sink.channels (ramps_with_all n h messages xs)
wide_with_all sink inputs n h [] orderly xs w = w
wide_with_all sink inputs n h (m ∷ messages) orderly xs w =
    wide_with_all sink (inputs_left Stream.spec inputs m) n h messages orderly.2 (ramps_with n h m xs) (wide_with sink inputs n h m orderly.1 xs w)
