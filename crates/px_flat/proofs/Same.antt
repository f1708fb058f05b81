-- What setting ratios leaves as it is.
use Rattle.std.proofs.Common.{◌≡◌, ◌<◌, ℕ, suc, List, [], ◌∷◌, map, length, refl, ap, sym, subst, ◌∙◌}
use Rattle.px_flat.specs.declared.member.Member.{Member}
use Rattle.px_flat.specs.Channels.{at, per_channel, value_for, values_for, ratio_after, ratios_after}
use Rattle.px_flat.specs.Member.{volume_at, to_reference, to_real}
use Rattle.px_flat.specs.FlatVolume.{real_at, real_over, raised_over, settled_over}
use Rattle.px_flat.proofs.ByChannel.{at-per_channel, listed}
use Rattle.px_flat.proofs.Preserved.{length_raised}
use Rattle.px_flat.proofs.TrueTo.{real_same}

-- ---- ratios

-- ratios each of which stays are the ratios after
pub ratios_stay : (feed bases ratios volumes : List ℕ) → length ratios ≡ length volumes
    → ((k : ℕ) → k < length ratios → ratio_after (at ratios k) (at volumes k) (value_for feed bases k) ≡ at ratios k)
    → ratios_after ratios volumes (values_for feed bases (length volumes)) ≡ ratios
ratios_stay feed bases ratios volumes long each =
    sym (listed (λ (c : ℕ). ratio_after (at ratios c) (at volumes c) (at (values_for feed bases (length volumes)) c)) ratios (length ratios) refl
    (λ c below.
    let inside : c < length volumes = subst (λ (n : ℕ). c < n) long below in
    sym (each c below) ∙ sym (ap (ratio_after (at ratios c) (at volumes c)) (at-per_channel (value_for feed bases) (length volumes) c inside))))

-- the same, of what calls gave for them
pub ratios_stay_as : (feed bases ratios volumes feed' bases' ratios' volumes' : List ℕ) → feed' ≡ feed → bases' ≡ bases → ratios' ≡ ratios
    → volumes' ≡ volumes → length ratios ≡ length volumes
    → ((k : ℕ) → k < length ratios' → ratio_after (at ratios' k) (at volumes' k) (value_for feed' bases' k) ≡ at ratios' k)
    → ratios_after ratios volumes (values_for feed bases (length volumes)) ≡ ratios
ratios_stay_as feed bases ratios volumes feed' bases' ratios' volumes' f b r v =
    rw (f, b, r, v) (ratios_stay feed bases ratios volumes)

pub reference_stays : (reference : List ℕ) (m : Member)
    → ratios_after m.ratios.reference m.volume (values_for m.feed reference (length m.volume)) ≡ m.ratios.reference → m ≡ to_reference reference m
reference_stays reference m e = ap (λ (r : List ℕ). record m { ratios = record m.ratios { reference = r } }) (sym e)

pub real_stays : (real : List ℕ) (m : Member)
    → ratios_after m.ratios.real m.volume (values_for m.feed real (length m.volume)) ≡ m.ratios.real → m ≡ to_real real m
real_stays real m e = ap (λ (r : List ℕ). record m { ratios = record m.ratios { real = r } }) (sym e)

-- ---- both ratios of each member at once

-- the ratio to a reference volume changes no volume
volumes_same : (s : ℕ) (reference : List ℕ) (ms : List Member) → map (volume_at s) (map (to_reference reference) ms) ≡ map (volume_at s) ms
volumes_same s reference [] = refl
volumes_same s reference (m ∷ ms) = ap (λ (vs : List ℕ). volume_at s m ∷ vs) (volumes_same s reference ms)

length_mapped : (reference : List ℕ) (ms : List Member) → length (map (to_reference reference) ms) ≡ length ms
length_mapped reference [] = refl
length_mapped reference (m ∷ ms) = ap suc (length_mapped reference ms)

-- one change after the other
both : (f g : Member → Member) (ms : List Member) → map (λ (m : Member). f (g m)) ms ≡ map f (map g ms)
both f g [] = refl
both f g (m ∷ ms) = ap (λ (xs : List Member). f (g m) ∷ xs) (both f g ms)

pub settled_by : (reference : List ℕ) (ms : List Member)
    → map (λ (m : Member). to_real (real_over reference ms) (to_reference (raised_over reference ms) m)) ms ≡ settled_over reference ms
settled_by reference [] = refl
settled_by reference (m ∷ ms) =
    let high : List ℕ = raised_over reference (m ∷ ms) in
    let after : List Member = map (to_reference (raised_over reference (m ∷ ms))) (m ∷ ms) in
    let same : real_over (raised_over reference (m ∷ ms)) (map (to_reference (raised_over reference (m ∷ ms))) (m ∷ ms)) ≡ real_over reference (m ∷ ms) =
    real_same high after (m ∷ ms) (length_mapped high (m ∷ ms)) (λ s. volumes_same s high (m ∷ ms))
    ∙ ap (λ (n : ℕ). per_channel n (real_at (m ∷ ms))) (length_raised reference (real_over reference (m ∷ ms))) in
    both (to_real (real_over reference (m ∷ ms))) (to_reference high) (m ∷ ms) ∙ ap (λ (r : List ℕ). map (to_real r) after) (sym same)
