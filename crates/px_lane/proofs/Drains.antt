-- Drains that are answered one by one.
use Rattle.std.proofs.Common.{◌≡◌, ℕ, ◌+◌, ◌<◌, ◌≤◌, List, [], ◌∷◌, ◌++◌, map, length, true, false, refl, ap, sym, ◌∙◌, arith, length-append, ⊎_elim}
use Rattle.std.specs.Prelude.{◌⊎◌}
use Rattle.std.proofs.lemmas.Bool.{cond-true, cond-false, cond_both}
use Rattle.px_model.specs.Stream.{Stream}
use Rattle.px_model.specs.Notice.{Notice}
use Rattle.px_model.specs.Turn.{has_ended}
use Rattle.px_lane.specs.Asked.{drained, drained_notices}

-- s with its first drain answered is t
module _ (s t : Stream) (tag : ℕ) (ended : has_ended s ≡ true) (first : s.draining ≡ tag ∷ t.draining) (same : t ≡ record s { draining = t.draining }) where
  pub one_less : drained t ≡ drained s
  one_less =
      ap drained same
      ∙ ap (λ (tags : List ℕ). let v : Stream = record s { draining = tags } in v) (cond-true (has_ended s) [] t.draining ended ∙ sym (cond-true (has_ended s) [] s.draining ended))

  ends : has_ended t ≡ true
  ends = ap has_ended same ∙ ended

  pub one_noticed : (i : ℕ) → drained_notices (record { index = i; stream = s }) ≡ Notice.drained i tag ∷ drained_notices (record { index = i; stream = t })
  one_noticed i =
      cond-true (has_ended s) (map (λ n. Notice.drained i n) s.draining) [] ended
      ∙ ap (λ (tags : List ℕ). map {B = Notice Stream} (λ n. Notice.drained i n) tags) first
      ∙ ap (λ (ns : List (Notice Stream)). Notice.drained i tag ∷ ns) (sym (cond-true (has_ended t) (map (λ n. Notice.drained i n) t.draining) [] ends))

-- there is room for the next, and it is told
pub next_fits : (noticed start all rest : List (Notice Stream)) (n : Notice Stream) (here : List (Notice Stream)) (capacity : ℕ)
    → noticed ++ here ≡ start ++ all → here ≡ n ∷ rest → length start + length all ≤ capacity → length noticed < capacity
next_fits noticed start all rest n here capacity same is room =
    omega (arith, room, ap (λ (ns : List (Notice Stream)). length ns) same, length-append noticed here, length-append start all, ap (λ (ns : List (Notice Stream)). length ns) is)

pub none_noticed : (i : ℕ) (s : Stream) → (has_ended s ≡ false) ⊎ (s.draining ≡ []) → drained_notices (record { index = i; stream = s }) ≡ []
none_noticed i s done =
    ⊎_elim (λ (left : has_ended s ≡ false). cond-false (has_ended s) (map (λ n. Notice.drained i n) s.draining) [] left)
    (λ (none : s.draining ≡ []). cond_both (has_ended s) (map (λ n. Notice.drained i n) s.draining) [] (λ (ns : List (Notice Stream)). ns ≡ []) (λ e. ap (λ (tags : List ℕ). map (λ n. Notice.drained i n) tags) none) (λ e. refl)) done
