use Rattle.std.proofs.Common.{arith, ◌≡◌, ℕ, suc, ◌+◌, ◌<◌, List, [], ◌∷◌, ◌++◌, map, drop, length, get_or, drop-cons, append_assoc, ap, sym, subst, ◌∙◌}
use Rattle.px_header.specs.declared.header.SinkSpec.{SinkSpec}
use Rattle.px_flat.specs.FlatVolume.{new_group}
use Rattle.px_sinks.specs.Sinks.{IsOfHeader}
use Rattle.px_sinks.proofs.Sinks.{next_of_header}
use Rattle.px_state.proofs.start.groups_for.Goals as goal

-- one more of those that are left is made
one_more : {X Y : Type 0} (f : X → Y) (xs : List X) (i : ℕ) (x : X) (old made : List Y) (y : Y) → i < length xs → x ≡ get_or xs i x → old ++ map f (drop i xs) ≡ map f xs → made ≡ old ++ y ∷ [] → y ≡ f x → made ++ map f (drop (i + 1) xs) ≡ map f xs
one_more f xs i x old made y below item whole made_is y_is =
    let after : suc i ≡ i + 1 = omega arith in
    let next : drop i xs ≡ get_or xs i x ∷ drop (i + 1) xs = drop-cons xs i x below ∙ ap (λ k. get_or xs i x ∷ drop k xs) after in
    let left = map f (drop (i + 1) xs) in
    ap (λ m. m ++ left) made_is
    ∙ append_assoc old (y ∷ []) left
    ∙ ap (λ z. old ++ z ∷ left) (y_is ∙ ap f item)
    ∙ ap (λ l. old ++ map f l) (sym next)
    ∙ whole

pub group_for-requires : goal.group_for-requires
group_for-requires c = subst IsOfHeader (sym c.sink-item.is) (next_of_header c.args.sinks.now c.loop-sink.sink-index c.sink-item.result c.loop-sink-test.true c.requires)

pub loop-sink-preserved : goal.loop-sink-preserved
loop-sink-preserved c = one_more (λ (s : SinkSpec). new_group s.spec.channels) c.args.sinks.now c.loop-sink.sink-index c.sink-item.result c.loop-sink.made.items c.push.new.self.items c.group_for.result c.loop-sink-test.true c.sink-item.is c.loop-sink.invariant c.in_ok-push.ensures.items c.group_for.ensures
