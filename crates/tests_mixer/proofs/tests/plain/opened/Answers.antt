use Rattle.std.proofs.Common.{rules, arith, ◌≡◌, ℕ, ◌<◌, List, [], ◌∷◌, length, get_or, ap, sym, subst, All}
use Rattle.tests_mixer.proofs.tests.plain.opened.Goals as goal

pub new-requires-3 : goal.new-requires-3
new-requires-3 c =
    let feed : c.in_ok-new.field-0 ≡ 0 ∷ [] = search rules in
    let factors : c.in_ok-new-2.field-0 ≡ 65536 ∷ [] = search rules in
    let first : All (λ channel. channel < 1) (0 ∷ []) = λ i d few. let none : i ≡ 0 = omega (arith, few) in subst (λ (n : ℕ). get_or (0 ∷ []) n d < 1) (sym none) (omega arith) in (
      record { format = 3; channels = 1; rate = 48000 },
      record {
        playable = record {
          known = omega arith;
          no_float_le = omega arith;
          no_float_be = omega arith;
          some_channels = omega arith;
          few_channels = omega arith;
        };
        feed_fits = record {
          places = ap (length {A = ℕ}) feed;
          channels = subst (λ (channels : List ℕ). All (λ channel. channel < 1) channels) (sym feed) first;
        };
        factors_fit = ap (length {A = ℕ}) factors;
        attr_repaired = record {
          minreq_positive = omega arith;
          minreq_bounded = omega arith;
          tlength_bounded = omega arith;
          maxlength_bounded = omega arith;
          prebuf_bounded = omega arith;
        };
      },
    )
