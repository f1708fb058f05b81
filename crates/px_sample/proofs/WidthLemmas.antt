-- A value that is brought to its own width stays.
use Rattle.std.proofs.Common.{◌≡◌, List, [], ◌∷◌, map, refl, ap, ◌∙◌, subst, arith, ℤ, pos, negsuc, ◌*ℤ◌}
use Rattle.std.proofs.lemmas.Int.{ints}
use Rattle.std.specs.Int.{int_div_euclid}
use Rattle.px_sample.specs.declared.format.Width.{Width}
use Rattle.px_sample.specs.declared.format.Width.TheVariants.{W8, W16, W32}
use Rattle.px_sample.specs.WorkValue.{at_width}

over_one : (value : ℤ) → int_div_euclid value (pos 1) ≡ value
over_one (pos n) = ap pos (omega arith)
over_one (negsuc n) = ap negsuc (omega arith)

once_over_one : (value : ℤ) → int_div_euclid (value *ℤ pos 1) (pos 1) ≡ value
once_over_one value =
    let once : value *ℤ pos 1 ≡ value = omega (arith, ints) in
    ap (λ v. int_div_euclid v (pos 1)) once ∙ over_one value

at_own_width : (width : Width) (value : ℤ) → at_width width width value ≡ value
at_own_width W8 value = once_over_one value
at_own_width W16 value = once_over_one value
at_own_width W32 value = once_over_one value

all_at_own_width : (width : Width) (values : List ℤ) → map (at_width width width) values ≡ values
all_at_own_width width [] = refl
all_at_own_width width (value ∷ rest) =
    ap (λ v. v ∷ map (at_width width width) rest) (at_own_width width value)
    ∙ ap (λ others. value ∷ others) (all_at_own_width width rest)

pub same_width : (from to : Width) (values : List ℤ) → from ≡ to → map (at_width from to) values ≡ values
same_width from to values same =
    subst (λ width. map (at_width from width) values ≡ values) same (all_at_own_width from values)
