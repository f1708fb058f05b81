use Rattle.std.proofs.Common.{◌≡◌, ◌+◌, ◌-◌, ◌≤◌, List, take, drop, length, ap, arith, sym, subst, ◌∙◌, length-drop, ℤ}
use Rattle.std.proofs.lemmas.List.{take_rest, with_items_is}
use borrow.Rule.Slice.PartMut.{put_mid, same_len_mid}
use Rattle.px_mixcache.specs.Run.{KeptRun, AreWords, AreValues, RunChanges}
use Rattle.px_mixcache.proofs.Gone.{put_behind}
use Rattle.px_mixcache.proofs.run.Run.change.Goals as goal

pub slice_bounds-change_sums-count : goal.slice_bounds-change_sums-count
slice_bounds-change_sums-count g c = omega (arith, ap (λ (xs : List ℤ). length xs) c.as_mut_slice.ensures.value, c.self.invariant.1)

pub change_sums-requires-clause-inside : goal.change_sums-requires-clause-inside
change_sums-requires-clause-inside g c =
    let d = c.self.inside in
    let part : take (length c.as_mut_slice.result.now - d.gone) (drop d.gone c.as_mut_slice.result.now) ≡ drop d.gone d.sums.items =
    take_rest c.as_mut_slice.result.now d.gone ∙ ap (λ (xs : List ℤ). drop d.gone xs) c.as_mut_slice.ensures.value in
    subst (λ (xs : List ℤ). c.args.from + length c.args.values.now ≤ length xs) (sym (part ∙ ap (λ (r : KeptRun). r.sums) c.self.view_is)) c.requires.inside

pub change_sums-requires-clause-room : goal.change_sums-requires-clause-room
change_sums-requires-clause-room g c κs within =
    let d = c.self.inside in
    let part : take (length c.as_mut_slice.result.now - d.gone) (drop d.gone c.as_mut_slice.result.now) ≡ drop d.gone d.sums.items =
    take_rest c.as_mut_slice.result.now d.gone ∙ ap (λ (xs : List ℤ). drop d.gone xs) c.as_mut_slice.ensures.value in
    subst AreWords (sym part) c.self.invariant.4 κs within

pub change_sums-requires-clause-values : goal.change_sums-requires-clause-values
change_sums-requires-clause-values g c =
    let d = c.self.inside in
    let part : take (length c.as_mut_slice.result.now - d.gone) (drop d.gone c.as_mut_slice.result.now) ≡ drop d.gone d.sums.items =
    take_rest c.as_mut_slice.result.now d.gone ∙ ap (λ (xs : List ℤ). drop d.gone xs) c.as_mut_slice.ensures.value in
    subst (λ (xs : List ℤ). AreValues c.args.add xs c.args.from c.args.values.now c.args.factor) (sym (part ∙ ap (λ (r : KeptRun). r.sums) c.self.view_is)) c.requires.values

pub returns-clause-depth : goal.returns-clause-depth
returns-clause-depth g c = ap (λ (r : KeptRun). r.depth) c.self.view_is

pub returns-clause-ticks : goal.returns-clause-ticks
returns-clause-ticks g c = c.change_sums.ensures.ticks

pub returns-clause-sums : goal.returns-clause-sums
returns-clause-sums g c =
    let d = c.self.inside in
    let now = c.as_mut_slice.result.now in
    let new = c.change_sums.new.sums in
    let read : now ≡ d.sums.items = c.as_mut_slice.ensures.value in
    let inside : d.gone ≤ length now = omega (arith, ap (λ (xs : List ℤ). length xs) read, c.self.invariant.1) in
    let part : take (length now - d.gone) (drop d.gone now) ≡ drop d.gone d.sums.items = take_rest now d.gone ∙ ap (λ (xs : List ℤ). drop d.gone xs) read in
    let long : length new ≡ length now - d.gone = c.change_sums.auto.sums ∙ ap (λ (xs : List ℤ). length xs) (take_rest now d.gone) ∙ length-drop d.gone now in
    let back : length (put_mid d.gone (length now - d.gone) now new) ≡ d.sums.len = same_len_mid d.gone (length now - d.gone) now new c.change_sums.auto.sums ∙ c.as_mut_slice.ensures.len in
    let same = ap (λ (xs : List ℤ). drop d.gone xs) (with_items_is d.sums (put_mid d.gone (length now - d.gone) now new) back) ∙ put_behind d.gone now new inside long in
    subst (λ (xs : List ℤ). RunChanges c.args.add c.args.self.now.sums c.args.from c.args.values.now c.args.factor xs) (sym same)
    (subst (λ (xs : List ℤ). RunChanges c.args.add xs c.args.from c.args.values.now c.args.factor new) (part ∙ ap (λ (r : KeptRun). r.sums) c.self.view_is) c.change_sums.ensures.sums)

pub invariant_of-self : goal.invariant_of-self
invariant_of-self g c =
    let d = c.self.inside in
    let now = c.as_mut_slice.result.now in
    let new = c.change_sums.new.sums in
    let read : now ≡ d.sums.items = c.as_mut_slice.ensures.value in
    let inside : d.gone ≤ length now = omega (arith, ap (λ (xs : List ℤ). length xs) read, c.self.invariant.1) in
    let long : length new ≡ length now - d.gone = c.change_sums.auto.sums ∙ ap (λ (xs : List ℤ). length xs) (take_rest now d.gone) ∙ length-drop d.gone now in
    let back : length (put_mid d.gone (length now - d.gone) now new) ≡ d.sums.len = same_len_mid d.gone (length now - d.gone) now new c.change_sums.auto.sums ∙ c.as_mut_slice.ensures.len in
    let items = with_items_is d.sums (put_mid d.gone (length now - d.gone) now new) back in
    let size = ap (λ (xs : List ℤ). length xs) items ∙ same_len_mid d.gone (length now - d.gone) now new c.change_sums.auto.sums ∙ ap (λ (xs : List ℤ). length xs) read in
    let same = ap (λ (xs : List ℤ). drop d.gone xs) items ∙ put_behind d.gone now new inside long in (
      c.self.invariant.0,
      subst (λ n. d.gone ≤ n) (sym size) c.self.invariant.1,
      subst (λ n. n ≤ d.gone + d.depth) (sym size) c.self.invariant.2,
      c.self.invariant.3,
      subst AreWords (sym same) c.change_sums.ensures.room,
    )
