use Rattle.std.proofs.Common.{◌≡◌, ℕ, ◌/◌, ◌<◌, ◌≤◌, List, length, ap, arith, sym, subst, ◌∙◌}
use Rattle.std.proofs.lemmas.List.{with_items_is}
use Rattle.std.specs.Prelude.{slice_index}
use Rattle.px_kernel.specs.Kernel.{at}
use Rattle.px_mixcache.specs.Run.{KeptRun, RunChanges}
use Rattle.px_mixcache.specs.Cache.{KeptSums, AreLong, run_at, run_of}
use Rattle.px_mixcache.proofs.cache.MixCache.change.Goals as goal

pub nonzero_div-len : goal.nonzero_div-len
nonzero_div-len g c = omega (arith, c.len.ensures, c.self.invariant.1)

pub change_all-requires-clause-whole : goal.change_all-requires-clause-whole
change_all-requires-clause-whole g c =
    let runs : c.deref_mut.result.now ≡ c.args.self.now.runs = c.deref_mut.ensures.value ∙ ap (λ (v : KeptSums). v.runs) c.self.view_is in
    let size : c.len.result ≡ length c.args.self.now.runs = c.len.ensures ∙ sym c.deref_mut.ensures.len ∙ ap (λ (xs : List KeptRun). length xs) runs in
    rw (runs, size) c.requires.whole

pub change_all-requires-clause-factors : goal.change_all-requires-clause-factors
change_all-requires-clause-factors g c =
    ap (λ (xs : List ℕ). length xs) c.values.ensures.value ∙ c.requires.factors
    ∙ sym (ap (λ (xs : List KeptRun). length xs) c.deref_mut.ensures.value ∙ ap (λ (v : KeptSums). length v.runs) c.self.view_is)

pub change_all-requires-clause-inside : goal.change_all-requires-clause-inside
change_all-requires-clause-inside g c = λ n less.
    let d = c.self.inside in
    let runs : c.deref_mut.result.now ≡ c.args.self.now.runs = c.deref_mut.ensures.value ∙ ap (λ (v : KeptSums). v.runs) c.self.view_is in
    let size : c.len.result ≡ length c.args.self.now.runs = c.len.ensures ∙ sym c.deref_mut.ensures.len ∙ ap (λ (xs : List KeptRun). length xs) runs in
    let there : n < length d.runs.items = subst (λ (xs : List KeptRun). n < length xs) c.deref_mut.ensures.value less in
    let long : length (run_at c.deref_mut.result.now n).sums ≡ c.args.self.now.frames =
    ap (λ (xs : List KeptRun). length (run_at xs n).sums) c.deref_mut.ensures.value ∙ c.self.invariant.3.long n there ∙ ap (λ (v : KeptSums). v.frames) c.self.view_is in
    rw (size, long) c.requires.inside

pub change_all-requires-clause-values : goal.change_all-requires-clause-values
change_all-requires-clause-values g c = λ n less.
    let runs : c.deref_mut.result.now ≡ c.args.self.now.runs = c.deref_mut.ensures.value ∙ ap (λ (v : KeptSums). v.runs) c.self.view_is in
    let size : c.len.result ≡ length c.args.self.now.runs = c.len.ensures ∙ sym c.deref_mut.ensures.len ∙ ap (λ (xs : List KeptRun). length xs) runs in
    rw (runs, size, c.values.ensures.value) (c.requires.values n (subst (λ (xs : List KeptRun). n < length xs) runs less))

pub returns-clause-depth : goal.returns-clause-depth
returns-clause-depth g c = ap (λ (v : KeptSums). v.depth) c.self.view_is

pub returns-clause-frames : goal.returns-clause-frames
returns-clause-frames g c = ap (λ (v : KeptSums). v.frames) c.self.view_is

pub returns-clause-ticks : goal.returns-clause-ticks
returns-clause-ticks g c = c.change_all.ensures.ticks

pub returns-clause-channels : goal.returns-clause-channels
returns-clause-channels g c =
    let back : length c.change_all.new.runs ≡ c.self.inside.runs.len = c.change_all.auto.runs ∙ c.deref_mut.ensures.len in
    ap (λ (xs : List KeptRun). length xs) (with_items_is c.self.inside.runs c.change_all.new.runs back)
    ∙ c.change_all.auto.runs ∙ ap (λ (xs : List KeptRun). length xs) c.deref_mut.ensures.value ∙ ap (λ (v : KeptSums). length v.runs) c.self.view_is

pub returns-clause-sums : goal.returns-clause-sums
returns-clause-sums g c = λ n k less few.
    let a = c.args in
    let new = c.change_all.new.runs in
    let runs : c.deref_mut.result.now ≡ a.self.now.runs = c.deref_mut.ensures.value ∙ ap (λ (v : KeptSums). v.runs) c.self.view_is in
    let size : c.len.result ≡ length a.self.now.runs = c.len.ensures ∙ sym c.deref_mut.ensures.len ∙ ap (λ (xs : List KeptRun). length xs) runs in
    let there : n < length c.deref_mut.result.now = subst (λ (xs : List KeptRun). n < length xs) (sym runs) less in
    let held : n < length c.self.inside.runs.items = subst (λ (xs : List KeptRun). n < length xs) c.deref_mut.ensures.value there in
    let long : length (run_at a.self.now.runs n).sums ≡ a.self.now.frames =
    sym (ap (λ (v : KeptSums). length (run_at v.runs n).sums) c.self.view_is) ∙ c.self.invariant.3.long n held ∙ ap (λ (v : KeptSums). v.frames) c.self.view_is in
    let changes : RunChanges a.add (run_at a.self.now.runs n).sums a.at (run_of (length a.values.now / length a.self.now.runs) a.values.now n) (slice_index a.factors.now n) (run_at new n).sums =
    subst (λ (xs : List KeptRun). RunChanges a.add (run_at xs n).sums a.at (run_of (length a.values.now / length a.self.now.runs) a.values.now n) (slice_index a.factors.now n) (run_at new n).sums) runs
    (subst (λ (m : ℕ). RunChanges a.add (run_at c.deref_mut.result.now n).sums a.at (run_of (length a.values.now / m) a.values.now n) (slice_index a.factors.now n) (run_at new n).sums) size
    (subst (λ (xs : List ℕ). RunChanges a.add (run_at c.deref_mut.result.now n).sums a.at (run_of (length a.values.now / c.len.result) a.values.now n) (slice_index xs n) (run_at new n).sums) c.values.ensures.value
    (c.change_all.ensures.sums n there))) in
    ap (λ (xs : List KeptRun). at (run_at xs n).sums k) (with_items_is c.self.inside.runs new (c.change_all.auto.runs ∙ c.deref_mut.ensures.len))
    ∙ changes.sums k (subst (λ (m : ℕ). k < m) (sym long) few)

pub invariant_of-self : goal.invariant_of-self
invariant_of-self g c =
    let d = c.self.inside in
    let new = c.change_all.new.runs in
    let read : c.deref_mut.result.now ≡ d.runs.items = c.deref_mut.ensures.value in
    let items = with_items_is d.runs new (c.change_all.auto.runs ∙ c.deref_mut.ensures.len) in
    let same : length new ≡ length d.runs.items = c.change_all.auto.runs ∙ ap (λ (xs : List KeptRun). length xs) read in
    let size = ap (λ (xs : List KeptRun). length xs) items ∙ same in (
      c.self.invariant.0,
      subst (λ (n : ℕ). 1 ≤ n) (sym size) c.self.invariant.1,
      subst (λ (n : ℕ). n ≤ 32) (sym size) c.self.invariant.2,
      subst (λ (xs : List KeptRun). AreLong d.depth d.frames xs) (sym items) (record {
        deep = λ n less. c.change_all.ensures.deep n (subst (λ (m : ℕ). n < m) c.change_all.auto.runs less)
            ∙ ap (λ (xs : List KeptRun). (run_at xs n).depth) read ∙ c.self.invariant.3.deep n (subst (λ (m : ℕ). n < m) same less);
        long = λ n less. (c.change_all.ensures.sums n (subst (λ (m : ℕ). n < m) c.change_all.auto.runs less)).long
            ∙ ap (λ (xs : List KeptRun). length (run_at xs n).sums) read ∙ c.self.invariant.3.long n (subst (λ (m : ℕ). n < m) same less);
      }),
    )
