-- So many numbers of four bytes.
use Rattle.std.proofs.Common.{◌≡◌, ℕ, zero, suc, ◌^◌, ◌<◌, List, [], ◌∷◌, ◌++◌, length, Ok, refl, ap, subst, ◌∙◌, append_assoc}
use Rattle.std.specs.Int.{w32, to_be_bytes}
use Rattle.std.specs.List.{flat_map, AllByRecursion}
use Rattle.std.proofs.lemmas.List.Concat.{flat_map-cons}
use Rattle.px_tag.specs.Place.{Place, ◌>>=◌}
use Rattle.px_tag.specs.Law.{AreBytes, Stands}
use Rattle.px_tag.specs.Reading.{field_at, fields_at}
use Rattle.px_tag.proofs.Steps.{bind_ok, ok_is, Stands-then}
use Rattle.px_tag.proofs.Fields.{wide32, field_found, field_again}

pub fields_found : (n : ℕ) (place : Place) (values : List ℕ) (after : Place) → AreBytes place.rest → fields_at n place ≡ Ok (values, after) → Stands (flat_map (to_be_bytes w32) values) place after × (length values ≡ n) × AllByRecursion (λ v. v < 2 ^ 32) values
unfolding fields_at
fields_found zero place values after fits e =
    subst (λ (p : List ℕ × Place). Stands (flat_map (to_be_bytes w32) p.0) place p.1 × (length p.0 ≡ 0) × AllByRecursion (λ v. v < 2 ^ 32) p.0) (ok_is ([], place) (values, after) e) (record { bytes = refl; size = refl; are_bytes = fits }, refl, tt)
fields_found (suc n) place values after fits e =
    let a = bind_ok (field_at w32 place) (λ first. fields_at n first.1 >>= λ others. Ok (first.0 ∷ others.0, others.1)) (values, after) e in
    let b = bind_ok (fields_at n a.0.1) (λ others. Ok (a.0.0 ∷ others.0, others.1)) (values, after) a.2 in
    let first = field_found w32 (2 ^ 32) wide32 place a.0.0 a.0.1 fits a.1 in
    let others = fields_found n a.0.1 b.0.0 b.0.1 first.0.are_bytes b.1 in
    let stands = Stands-then (to_be_bytes w32 a.0.0) (flat_map (to_be_bytes w32) b.0.0) place a.0.1 b.0.1 first.0 others.0 in
    subst (λ (p : List ℕ × Place). Stands (flat_map (to_be_bytes w32) p.0) place p.1 × (length p.0 ≡ suc n) × AllByRecursion (λ v. v < 2 ^ 32) p.0) (ok_is (a.0.0 ∷ b.0.0, b.0.1) (values, after) b.2) (rw flat_map-cons stands, ap suc others.1, (first.1, others.2))

pub fields_again : (values : List ℕ) (size : ℕ) (behind : List ℕ) → AllByRecursion (λ v. v < 2 ^ 32) values → fields_at (length values) (record { size = size; rest = flat_map (to_be_bytes w32) values ++ behind }) ≡ Ok (values, record { size = size; rest = behind })
unfolding fields_at
fields_again [] size behind fits = refl
fields_again (v ∷ values) size behind fits =
    let regrouped : flat_map (to_be_bytes w32) (v ∷ values) ++ behind ≡ to_be_bytes w32 v ++ (flat_map (to_be_bytes w32) values ++ behind) = ap (λ (x : List ℕ). x ++ behind) (flat_map-cons (to_be_bytes w32) v values) ∙ append_assoc (to_be_bytes w32 v) (flat_map (to_be_bytes w32) values) behind in
    ap (λ (r : List ℕ). fields_at (suc (length values)) (record { size = size; rest = r })) regrouped ∙ rw (field_again w32 (2 ^ 32) wide32 v size (flat_map (to_be_bytes w32) values ++ behind) fits.0, fields_again values size behind fits.1) refl
