-- One history after another, and the size of a mixed frame.
use Rattle.std.proofs.Common.{◌≡◌, ℕ, zero, suc, ◌+◌, ◌*◌, List, [], ◌∷◌, ◌++◌, length, refl, ap, sym, ◌∙◌, arith, append_assoc, length-append}
use Rattle.std.specs.Prelude.{ℤ, flat_map}
use Rattle.std.specs.List.{range_with_len}
use Rattle.px_model.specs.Frame.{SampleSpec}
use Rattle.px_model.specs.Stream.{Stream}
use Rattle.px_model.specs.Mix.{Samples, mix_of, sample_mix}
use Rattle.px_model.specs.Sink.{Sink}
use Rattle.px_model.specs.Deciding.{Entry, sink_after, notices_of, played_of, replay, replay_notices, replay_played}

pub replay_joins : (samples : Samples) (sink : Sink) (earlier later : List Entry) → replay samples sink (earlier ++ later) ≡ replay samples (replay samples sink earlier) later
replay_joins samples sink [] later = refl
replay_joins samples sink (e ∷ earlier) later = replay_joins samples (sink_after samples sink e) earlier later

pub notices_join : (samples : Samples) (sink : Sink) (earlier later : List Entry) → replay_notices samples sink (earlier ++ later) ≡ replay_notices samples sink earlier ++ replay_notices samples (replay samples sink earlier) later
notices_join samples sink [] later = refl
notices_join samples sink (e ∷ earlier) later =
    ap (λ l. notices_of samples sink e ++ l) (notices_join samples (sink_after samples sink e) earlier later)
    ∙ sym (append_assoc (notices_of samples sink e) (replay_notices samples (sink_after samples sink e) earlier) (replay_notices samples (replay samples (sink_after samples sink e) earlier) later))

pub played_join : (samples : Samples) (sink : Sink) (earlier later : List Entry) → replay_played samples sink (earlier ++ later) ≡ replay_played samples sink earlier ++ replay_played samples (replay samples sink earlier) later
played_join samples sink [] later = refl
played_join samples sink (e ∷ earlier) later =
    ap (λ l. played_of sink e ++ l) (played_join samples (sink_after samples sink e) earlier later)
    ∙ sym (append_assoc (played_of sink e) (replay_played samples (sink_after samples sink e) earlier) (replay_played samples (replay samples (sink_after samples sink e) earlier) later))

-- lists of one length, one after another
length-equal : (f : ℕ → List ℕ) (size : ℕ) → ((k : ℕ) → length (f k) ≡ size) → (a n : ℕ) → length (flat_map f (range_with_len a n)) ≡ n * size
length-equal f size e a zero = omega arith
length-equal f size e a (suc n) = omega (arith, length-append (f a) (flat_map f (range_with_len (a + 1) n)), e a, length-equal f size e (a + 1) n)

pub mix_whole : (samples : Samples) (sink : SampleSpec) (size : ℕ) → ((x : ℤ) → length (samples.packed sink.format x) ≡ size) → (streams : List Stream) (k : ℕ) → length (mix_of samples sink streams k) ≡ sink.channels * size
mix_whole samples sink size e streams k = length-equal (λ channel. samples.packed sink.format (sample_mix samples sink streams k channel)) size (λ channel. e (sample_mix samples sink streams k channel)) 0 sink.channels
