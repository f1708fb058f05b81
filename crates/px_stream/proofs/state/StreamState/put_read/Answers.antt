use Rattle.std.proofs.Common.{◌≡◌, ℕ, ◌*◌, ◌+◌, ◌<◌, ◌≤◌, List, length, get_or, pos, replicate, w32, SFits, ap, sym, ◌∙◌, subst, arith, All}
use Rattle.std.specs.Prelude.{slice_index}
use Rattle.px_stream.specs.HeldStream.{HeldStream}
use Rattle.std.proofs.Math.Nat.{mul-le-mul_right}
use Rattle.std.proofs.Math.Facts.{sfits_lit}
use Rattle.std.proofs.lemmas.List.{length-take-le}
use Rattle.std.proofs.lemmas.List.Elements.{All-take, All-replicate}
use Rattle.px_stream.proofs.Runs.{frames_fit}
use Rattle.px_stream.proofs.state.StreamState.put_read.Goals as goal

pub channels-requires : goal.channels-requires
channels-requires c = tt

pub min-frames-requires : goal.min-frames-requires
min-frames-requires c = tt

pub nonzero_div-channels : goal.nonzero_div-channels
nonzero_div-channels c = c.self.invariant.0.playable.some_channels

pub read_values-given-requires-clause-few : goal.read_values-given-requires-clause-few
read_values-given-requires-clause-few c = subst (λ (v : HeldStream). c.min-frames.result * v.stream.spec.channels ≤ 256) c.self.view_is (frames_fit c.min-frames.result c.args.most 256 c.self.inside.spec.channels c.min-frames.ensures)

pub read_values-given-requires-clause-places : goal.read_values-given-requires-clause-places
read_values-given-requires-clause-places c =
    length-take-le (c.min-frames.result * c.self.inside.spec.channels) _ (frames_fit c.min-frames.result c.args.most 256 c.self.inside.spec.channels c.min-frames.ensures)
    ∙ ap (λ (v : HeldStream). c.min-frames.result * v.stream.spec.channels) c.self.view_is

pub returns-clause-few : goal.returns-clause-few
returns-clause-few c = omega (arith, c.read_values-given.ensures.few, c.min-frames.ensures)

pub returns-clause-fit : goal.returns-clause-fit
returns-clause-fit c = c.scatter.ensures.fit

pub returns-clause-none : goal.returns-clause-none
returns-clause-none c = c.read_values-given.ensures.none

pub returns-clause-there : goal.returns-clause-there
returns-clause-there c = c.read_values-given.ensures.there

pub returns-clause-before : goal.returns-clause-before
returns-clause-before c =
    let feed : c.channels.result.now ≡ c.args.self.now.stream.feed = c.channels.ensures.value ∙ ap (λ (v : HeldStream). v.stream.feed) c.self.view_is in
    λ k i fed. c.scatter.ensures.before k i (omega (arith, fed, ap (λ (xs : List ℕ). length xs) feed))

pub returns-clause-after : goal.returns-clause-after
returns-clause-after c =
    let feed : c.channels.result.now ≡ c.args.self.now.stream.feed = c.channels.ensures.value ∙ ap (λ (v : HeldStream). v.stream.feed) c.self.view_is in
    λ k i fed. c.scatter.ensures.after k i (omega (arith, fed, ap (λ (xs : List ℕ). length xs) feed))

pub returns-clause-values : goal.returns-clause-values
returns-clause-values c =
    let feed : c.channels.result.now ≡ c.args.self.now.stream.feed = c.channels.ensures.value ∙ ap (λ (v : HeldStream). v.stream.feed) c.self.view_is in
    let channels : c.self.inside.spec.channels ≡ c.args.self.now.stream.spec.channels = ap (λ (v : HeldStream). v.stream.spec.channels) c.self.view_is in
    λ k j fed less.
    c.scatter.ensures.values k j (omega (arith, fed, ap (λ (xs : List ℕ). length xs) feed)) less
    ∙ ap (λ (xs : List ℕ). get_or c.read_values-given.new.values (j * c.self.inside.spec.channels + slice_index xs k) (pos 0)) feed
    ∙ ap (λ (m : ℕ). get_or c.read_values-given.new.values (j * m + slice_index c.args.self.now.stream.feed k) (pos 0)) channels
    ∙ c.read_values-given.ensures.values k j fed less

pub scatter-requires-clause-channels : goal.scatter-requires-clause-channels
scatter-requires-clause-channels c = subst (λ (xs : List ℕ). All (λ channel. channel < c.self.inside.spec.channels) xs) (sym c.channels.ensures.value) c.self.invariant.0.feed_fits

pub scatter-requires-clause-inside : goal.scatter-requires-clause-inside
scatter-requires-clause-inside c = omega (arith, c.read_values-given.ensures.few, c.min-frames.ensures, c.requires.inside)

pub scatter-requires-clause-runs : goal.scatter-requires-clause-runs
scatter-requires-clause-runs c =
    let feed : c.channels.result.now ≡ c.args.self.now.stream.feed = c.channels.ensures.value ∙ ap (λ (v : HeldStream). v.stream.feed) c.self.view_is in
    c.requires.runs ∙ ap (λ (xs : List ℕ). c.args.run * length xs) (sym feed)

pub scatter-requires-clause-whole : goal.scatter-requires-clause-whole
scatter-requires-clause-whole c =
    let long : length c.read_values-given.new.values ≡ c.min-frames.result * c.self.inside.spec.channels =
    c.read_values-given.auto.values ∙ length-take-le (c.min-frames.result * c.self.inside.spec.channels) _ (frames_fit c.min-frames.result c.args.most 256 c.self.inside.spec.channels c.min-frames.ensures) in
    omega (arith, long, mul-le-mul_right c.self.inside.spec.channels c.read_values-given.ensures.few)

pub scatter-requires-clause-words : goal.scatter-requires-clause-words
scatter-requires-clause-words c = c.read_values-given.ensures.words

pub slice_bounds-scratch-end : goal.slice_bounds-scratch-end
slice_bounds-scratch-end c = frames_fit c.min-frames.result c.args.most 256 c.self.inside.spec.channels c.min-frames.ensures

pub slice_bounds-values-end : goal.slice_bounds-values-end
slice_bounds-values-end c = sym (length-take-le (c.min-frames.result * c.self.inside.spec.channels) _ (frames_fit c.min-frames.result c.args.most 256 c.self.inside.spec.channels c.min-frames.ensures))

pub read_values-given-requires-clause-words : goal.read_values-given-requires-clause-words
read_values-given-requires-clause-words c = All-take (SFits w32) (c.min-frames.result * c.self.inside.spec.channels) (replicate 256 (pos 0)) (All-replicate (SFits w32) 256 (pos 0) (sfits_lit tt))

pub overflow_mul-scratch : goal.overflow_mul-scratch
overflow_mul-scratch c =
    let few = frames_fit c.min-frames.result c.args.most 256 c.self.inside.spec.channels c.min-frames.ensures in
    omega (arith, few)
