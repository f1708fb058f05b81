-- The speaker positions that were read are a map.
use Rattle.std.proofs.Common.{◌≡◌, ℕ, zero, suc, ◌+◌, ◌≤◌, List, [], ◌∷◌, ◌++◌, length, Ok, ap, subst, arith, length-append, nat_le}
use Rattle.std.specs.List.{AllByRecursion}
use Rattle.std.proofs.lemmas.Bool.{leb-true}
use Rattle.std.proofs.lemmas.List.Elements.{All-from_recursion}
use Rattle.px_sample.specs.declared.spec.Spec.{Spec}
use Rattle.px_chmap.specs.ChannelMap.{IsChannelMap}
use Rattle.px_session.specs.Place.{Place}
use Rattle.px_session.specs.Field.{byte_at, word_at, broken_at, checked, ruled}
use Rattle.px_header.specs.HeaderRules.{is_from_to, IsFromTo}
use Rattle.px_session.specs.HeaderReading.{format_at, spec_at, more_at, position_at}
use Rattle.px_session.proofs.Steps.{go_on_ok, then_ok, test_ok}
use Rattle.px_session.proofs.Steady.{ok_is}
use Rattle.px_session.proofs.HeaderLaws.{within}

abbrev Known : List ℕ → Type 0
Known = AllByRecursion (λ p. p ≤ 50)

known_more : (map : List ℕ) (p : ℕ) → Known map → p ≤ 50 → Known (map ++ p ∷ [])
known_more [] p known fits = (fits, tt)
known_more (q ∷ map) p known fits = (known.0, known_more map p known.1 fits)

position_known : (earlier : List ℕ) (place : Place) (x : ℕ × Place) → position_at earlier place ≡ Ok x → x.0 ≤ 50
unfolding ruled
position_known earlier place x e =
    let rule = λ (p : ℕ). nat_le p 50 in
    let s = go_on_ok (byte_at place) (checked rule place) x e in
    let t = test_ok (rule s.0.0) (broken_at place) (s.0.0, s.0.1) x s.2 in
    subst (λ (z : ℕ × Place). z.0 ≤ 50) t.1 (leb-true s.0.0 50 t.0)

positions_known : (n : ℕ) (earlier : List ℕ) (place : Place) (x : List ℕ × Place) → Known earlier → more_at position_at earlier n place ≡ Ok x → (length x.0 ≡ length earlier + n) × Known x.0
unfolding more_at
positions_known zero earlier place x known e =
    let same : earlier ≡ x.0 = ap (λ (z : List ℕ × Place). z.0) (ok_is (earlier, place) x e) in
    (omega (arith, ap (length {A = ℕ}) same), subst Known same known)
positions_known (suc n) earlier place x known e =
    let s = then_ok (position_at earlier) (λ p. more_at position_at (earlier ++ p ∷ []) n) place x e in
    let r = positions_known n (earlier ++ s.0.0 ∷ []) s.0.1 x (known_more earlier s.0.0 known (position_known earlier place s.0 s.1)) s.2 in
    (omega (arith, r.0, length-append earlier (s.0.0 ∷ [])), r.1)

-- a sample spec that was read has 1 to 32 channels
pub spec_channels : (place : Place) (x : Spec × Place) → spec_at place ≡ Ok x → IsFromTo 1 32 x.0.channels
unfolding spec_at ruled
spec_channels place x e =
    let f = then_ok format_at _ place x e in
    let c = then_ok (ruled (is_from_to 1 32) byte_at) _ f.0.1 x f.2 in
    let g = go_on_ok (byte_at f.0.1) (checked (is_from_to 1 32) f.0.1) c.0 c.1 in
    let t = test_ok (is_from_to 1 32 g.0.0) (broken_at f.0.1) (g.0.0, g.0.1) c.0 g.2 in
    let r = then_ok (ruled (is_from_to 1 192000) word_at) _ c.0.1 x c.2 in
    let made : Spec = record { format = f.0.0; channels = c.0.0; rate = r.0.0 } in
    let is : made ≡ x.0 = ap (λ (z : Spec × Place). z.0) (ok_is (made, r.0.1) x r.2) in
    let fits : IsFromTo 1 32 c.0.0 = subst (λ (z : ℕ × Place). IsFromTo 1 32 z.0) t.1 (within 1 32 g.0.0 t.0) in
    subst (λ (z : Spec). IsFromTo 1 32 z.channels) is fits

-- 1 to 32 positions that were read are a map
pub positions_are_map : (count : ℕ) (place : Place) (y : List ℕ × Place) → IsFromTo 1 32 count → more_at position_at [] count place ≡ Ok y → IsChannelMap y.0
positions_are_map count place y fits map =
    let known = positions_known count [] place y tt map in
    record { some = omega (arith, known.0, fits.0); few = omega (arith, known.0, fits.1); known = All-from_recursion (λ p. p ≤ 50) y.0 known.1 }
