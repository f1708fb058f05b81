-- A turn whose device was set to consume so many frames.
use Rattle.std.proofs.Common.{◌≡◌, ℕ, ◌-◌, ◌≤◌, min, List, [], ◌++◌, Bool, true, false, not, Option, None, Some, refl, ap, sym, ◌∙◌, arith}
use Rattle.std.specs.Prelude.{IsFalse, cond, ◌&&◌, ◌||◌, length}
use Rattle.std.specs.List.{concat}
use Rattle.std.proofs.lemmas.Bool.{cond-false}
use Rattle.std.proofs.lemmas.List.{length-take-le}
use Rattle.px_ends.specs.Device.{Consumes, is_failing}
use Rattle.px_ends.specs.MemoryDevice.{MemoryDevice, state_of, next_of, set_of}
use Rattle.px_model.specs.Message.{Message}
use Rattle.px_model.specs.Notice.{Notice}
use Rattle.px_model.specs.Sink.{Sink, IsSink}
use Rattle.px_model.specs.Stream.{Stream}
use Rattle.px_model.specs.Turn.{turned, turn_notices, played_by}
use Rattle.px_lane.specs.Lane.{IsAttached, played_more}
use Rattle.px_stream.specs.Samples.{samples}
use Rattle.px_world.specs.Event.{is_to_stop, mixer_stopped, mixer_played, mixer_turned, played_of, is_stopping, stopped_of}
use Rattle.px_world.specs.World.{Mixer}

consumes : (b : Bool) (set waiting n : ℕ) → Consumes (Some (next_of b set)) waiting n → (b ≡ false) × (n ≡ min set waiting)
consumes true set waiting n h = absurd h
consumes false set waiting n h = (refl, h)

failing : (b : Bool) (set : ℕ) → is_failing (Some (next_of b set)) ≡ b
failing true set = refl
failing false set = refl

neither : (a b : Bool) → IsFalse a → b ≡ false → (a || cond a false b) ≡ false
neither true b h e = h
neither false b h e = e

pub unmarked : (a b : Bool) → b ≡ false → cond a false b ≡ false
unmarked true b e = refl
unmarked false b e = e

same_some : (x y : List ℕ) → ◌≡◌ {A = Option (List ℕ)} (Some x) (Some y) → x ≡ y
same_some x y e = cc

-- what the turn leaves, where the device before it had this setting
pub record Leaves (sink : Sink) (d d' : MemoryDevice) (frames n : ℕ) : Type 0 where
  pub going : (sink.stopped || cond sink.stopped false (d.stopping || d.failed)) ≡ false
  pub count : n ≡ frames
  pub bytes : d'.played ≡ concat (played_by sink frames)
  pub quiet : (d'.stopping || d'.failed) ≡ false

pub leaves : (sink : Sink) (d d' : MemoryDevice) (frames n : ℕ) → IsSink sink → frames ≤ sink.filled - sink.consumed → d.played ≡ [] → (IsFalse sink.stopped → IsAttached (state_of d) sink) → IsFalse sink.stopped
    → Consumes (state_of (record d { armed = Some (min frames d.depth) })).next (sink.filled - sink.consumed) n
    → (state_of d').played ≡ played_more (state_of (record d { armed = Some (min frames d.depth) })).buffer (state_of (record d { armed = Some (min frames d.depth) })).played (concat (played_by sink n))
    → is_failing (state_of d').next ≡ is_failing (state_of (record d { armed = Some (min frames d.depth) })).next → Leaves sink d d' frames n
leaves sink d d' frames n consistent there taken attached still seen played steady =
    let visible = consumes (d.stopping || d.failed) (min frames d.depth) (sink.filled - sink.consumed) n seen in
    let at = attached still in
    let count : n ≡ frames = omega (arith, visible.1, there, consistent.filled_bounded, at.depth) in
    record {
      going = neither sink.stopped (d.stopping || d.failed) still visible.0;
      count = count;
      bytes = same_some d'.played (d.played ++ concat (played_by sink n)) played ∙ ap (λ bytes. bytes ++ concat (played_by sink n)) taken ∙ ap (λ k. concat (played_by sink k)) count;
      quiet = sym (failing (d'.stopping || d'.failed) (set_of d'.armed d'.each d'.left)) ∙ steady ∙ failing (d.stopping || d.failed) (min frames d.depth) ∙ visible.0;
    }

pub mixer-same : (m : Mixer) (frames : ℕ) (messages : List (Message Stream)) (sink : Sink) (notices : List (Notice Stream)) (fails : Bool) → is_to_stop m ≡ false → sink ≡ turned samples m.sink frames messages
    → notices ≡ m.notices ++ turn_notices samples m.sink frames messages → fails ≡ false
    → record { sink = sink; notices = notices; failing = fails } ≡ mixer_turned m frames messages
mixer-same m frames messages sink notices fails going a b f =
    (λ i. record { sink = a i; notices = b i; failing = f i })
    ∙ sym (cond-false (is_to_stop m)
    (mixer_stopped m messages)
    (mixer_played m frames messages) going)

pub played-same : (m : Mixer) (frames : ℕ) → is_to_stop m ≡ false → played_of (Some m) frames ≡ played_by m.sink frames
played-same m frames going = cond-false (is_to_stop m) [] (played_by m.sink frames) going

pub played-count : (sink : Sink) (frames : ℕ) → IsSink sink → frames ≤ sink.filled - sink.consumed → length (played_by sink frames) ≡ frames
played-count sink frames consistent there = length-take-le frames sink.buffer (omega (arith, there, consistent.buffer_full))

-- ---- whether the turn stops the sink

unstopping : (a b : Bool) → (a || b) ≡ false → (not a && b) ≡ false
unstopping true b e = refl
unstopping false b e = e

pub goes-on : (m : Mixer) (messages : List (Message Stream)) → is_to_stop m ≡ false → stopped_of (Some m) messages ≡ None
goes-on m messages going = cond-false (is_stopping m) (Some (mixer_stopped m messages).sink.filled) None (unstopping m.sink.stopped m.failing going)
