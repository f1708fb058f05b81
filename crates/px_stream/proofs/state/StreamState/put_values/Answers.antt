use Rattle.std.proofs.Common.{◌≡◌, ℕ, ◌+◌, ◌*◌, ◌<◌, List, length, ap, sym, ◌∙◌, subst, arith, All}
use Rattle.std.specs.Prelude.{slice_index}
use Rattle.px_stream.specs.HeldStream.{HeldStream}
use Rattle.px_stream.specs.Lent.{sample_at}
use Rattle.px_stream.proofs.Runs.{frames_are}
use Rattle.px_stream.proofs.state.StreamState.put_values.Goals as goal

pub scatter_samples-requires-clause-whole : goal.scatter_samples-requires-clause-whole
scatter_samples-requires-clause-whole c =
    let d = c.self.inside in
    let n : ℕ = c.lent-bytes.ensures.0 in
    let lent = c.lent-bytes.ensures.1 in
    let size : length c.lent-bytes.result.now ≡ 2 * (n * d.spec.channels) = lent.size ∙ ap (λ (v : HeldStream). 2 * (n * v.stream.spec.channels)) (sym c.self.view_is) in
    let count : c.frames_in-frames.result ≡ n = c.frames_in-frames.ensures ∙ frames_are (length c.lent-bytes.result.now) n d.spec.channels c.self.invariant.0.playable.some_channels size in
    size ∙ ap (λ (m : ℕ). 2 * (m * d.spec.channels)) (sym count)

pub returns-clause-few : goal.returns-clause-few
returns-clause-few c =
    let d = c.self.inside in
    let n : ℕ = c.lent-bytes.ensures.0 in
    let lent = c.lent-bytes.ensures.1 in
    let size : length c.lent-bytes.result.now ≡ 2 * (n * d.spec.channels) = lent.size ∙ ap (λ (v : HeldStream). 2 * (n * v.stream.spec.channels)) (sym c.self.view_is) in
    let count : c.frames_in-frames.result ≡ n = c.frames_in-frames.ensures ∙ frames_are (length c.lent-bytes.result.now) n d.spec.channels c.self.invariant.0.playable.some_channels size in
    omega (arith, count, lent.few)

pub returns-clause-there : goal.returns-clause-there
returns-clause-there c =
    let d = c.self.inside in
    let n : ℕ = c.lent-bytes.ensures.0 in
    let lent = c.lent-bytes.ensures.1 in
    let size : length c.lent-bytes.result.now ≡ 2 * (n * d.spec.channels) = lent.size ∙ ap (λ (v : HeldStream). 2 * (n * v.stream.spec.channels)) (sym c.self.view_is) in
    let count : c.frames_in-frames.result ≡ n = c.frames_in-frames.ensures ∙ frames_are (length c.lent-bytes.result.now) n d.spec.channels c.self.invariant.0.playable.some_channels size in
    λ j less. lent.there j (omega (arith, less, count))

pub returns-clause-values : goal.returns-clause-values
returns-clause-values c =
    let d = c.self.inside in
    let n : ℕ = c.lent-bytes.ensures.0 in
    let lent = c.lent-bytes.ensures.1 in
    let size : length c.lent-bytes.result.now ≡ 2 * (n * d.spec.channels) = lent.size ∙ ap (λ (v : HeldStream). 2 * (n * v.stream.spec.channels)) (sym c.self.view_is) in
    let count : c.frames_in-frames.result ≡ n = c.frames_in-frames.ensures ∙ frames_are (length c.lent-bytes.result.now) n d.spec.channels c.self.invariant.0.playable.some_channels size in
    let feed : c.channels-feed.result.now ≡ c.args.self.now.stream.feed = c.channels-feed.ensures.value ∙ ap (λ (v : HeldStream). v.stream.feed) c.self.view_is in
    let channels : d.spec.channels ≡ c.args.self.now.stream.spec.channels = ap (λ (v : HeldStream). v.stream.spec.channels) c.self.view_is in
    λ k j fed less.
    c.scatter_samples.ensures.values k j (omega (arith, fed, ap (λ (xs : List ℕ). length xs) feed)) less
    ∙ ap (λ (xs : List ℕ). sample_at c.lent-bytes.result.now (j * d.spec.channels + slice_index xs k)) feed
    ∙ ap (λ (m : ℕ). sample_at c.lent-bytes.result.now (j * m + slice_index c.args.self.now.stream.feed k)) channels
    ∙ lent.values k j fed (omega (arith, less, count))

pub channels-feed-requires : goal.channels-feed-requires
channels-feed-requires c = tt

pub frames_in-frames-requires-clause-few : goal.frames_in-frames-requires-clause-few
frames_in-frames-requires-clause-few c = omega (arith, c.self.invariant.0.playable.few_channels)

pub frames_in-frames-requires-clause-some : goal.frames_in-frames-requires-clause-some
frames_in-frames-requires-clause-some c = c.self.invariant.0.playable.some_channels

pub lent-bytes-requires : goal.lent-bytes-requires
lent-bytes-requires c = tt

pub put_read-requires-clause-inside : goal.put_read-requires-clause-inside
put_read-requires-clause-inside c = c.requires.inside

pub put_read-requires-clause-runs : goal.put_read-requires-clause-runs
put_read-requires-clause-runs c = c.requires.runs

pub put_read-requires-clause-some : goal.put_read-requires-clause-some
put_read-requires-clause-some c = c.requires.some

pub returns-clause-after : goal.returns-clause-after
returns-clause-after c =
    let feed : c.channels-feed.result.now ≡ c.args.self.now.stream.feed = c.channels-feed.ensures.value ∙ ap (λ (v : HeldStream). v.stream.feed) c.self.view_is in
    λ k i fed. c.scatter_samples.ensures.after k i (omega (arith, fed, ap (λ (xs : List ℕ). length xs) feed))

pub returns-clause-before : goal.returns-clause-before
returns-clause-before c =
    let feed : c.channels-feed.result.now ≡ c.args.self.now.stream.feed = c.channels-feed.ensures.value ∙ ap (λ (v : HeldStream). v.stream.feed) c.self.view_is in
    λ k i fed. c.scatter_samples.ensures.before k i (omega (arith, fed, ap (λ (xs : List ℕ). length xs) feed))

pub returns-clause-fit : goal.returns-clause-fit
returns-clause-fit c = c.scatter_samples.ensures.fit

pub returns-then-is_empty-clause-after : goal.returns-then-is_empty-clause-after
returns-then-is_empty-clause-after c = c.put_read.ensures.after

pub returns-then-is_empty-clause-before : goal.returns-then-is_empty-clause-before
returns-then-is_empty-clause-before c = c.put_read.ensures.before

pub returns-then-is_empty-clause-few : goal.returns-then-is_empty-clause-few
returns-then-is_empty-clause-few c = c.put_read.ensures.few

pub returns-then-is_empty-clause-fit : goal.returns-then-is_empty-clause-fit
returns-then-is_empty-clause-fit c = c.put_read.ensures.fit

pub returns-then-is_empty-clause-none : goal.returns-then-is_empty-clause-none
returns-then-is_empty-clause-none c = c.put_read.ensures.none

pub returns-then-is_empty-clause-there : goal.returns-then-is_empty-clause-there
returns-then-is_empty-clause-there c = c.put_read.ensures.there

pub returns-then-is_empty-clause-values : goal.returns-then-is_empty-clause-values
returns-then-is_empty-clause-values c = c.put_read.ensures.values

pub scatter_samples-requires-clause-channels : goal.scatter_samples-requires-clause-channels
scatter_samples-requires-clause-channels c = subst (λ (xs : List ℕ). All (λ channel. channel < c.self.inside.spec.channels) xs) (sym c.channels-feed.ensures.value) c.self.invariant.0.feed_fits

pub scatter_samples-requires-clause-inside : goal.scatter_samples-requires-clause-inside
scatter_samples-requires-clause-inside c =
    let d = c.self.inside in
    let n : ℕ = c.lent-bytes.ensures.0 in
    let lent = c.lent-bytes.ensures.1 in
    let size : length c.lent-bytes.result.now ≡ 2 * (n * d.spec.channels) = lent.size ∙ ap (λ (v : HeldStream). 2 * (n * v.stream.spec.channels)) (sym c.self.view_is) in
    let count : c.frames_in-frames.result ≡ n = c.frames_in-frames.ensures ∙ frames_are (length c.lent-bytes.result.now) n d.spec.channels c.self.invariant.0.playable.some_channels size in
    omega (arith, count, lent.few, c.requires.inside)

pub scatter_samples-requires-clause-runs : goal.scatter_samples-requires-clause-runs
scatter_samples-requires-clause-runs c =
    let feed : c.channels-feed.result.now ≡ c.args.self.now.stream.feed = c.channels-feed.ensures.value ∙ ap (λ (v : HeldStream). v.stream.feed) c.self.view_is in
    c.requires.runs ∙ ap (λ (xs : List ℕ). c.args.run * length xs) (sym feed)
