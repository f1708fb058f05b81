-- A stream of the code as a stream of the model, with its room and its blocks.
use Rattle.std.specs.Prelude.{◌≡◌, ℕ, ◌<◌, Bool, List, length, All}
use Rattle.px_model.specs.declared.data.Run.{Run}
use Rattle.px_model.specs.Frame.{SampleSpec}
use Rattle.px_model.specs.Orderly.{IsPlayable}
use Rattle.px_model.specs.Queue.{Queue}
use Rattle.px_model.specs.Stream.{Stream, IsStream}

pub record HeldStream : Type 0 where
  pub stream : Stream
  -- how many more messages it takes without memory
  pub room : ℕ
  -- how many blocks these may bring in all
  pub block_room : ℕ
  -- how many blocks it holds
  pub blocks : ℕ

abbrev pub stream_of : Queue → Bool → ℕ → ℕ → ℕ → ℕ → List ℕ → Run → SampleSpec → List ℕ → List ℕ → Stream
stream_of queue corked maxlength tlength minreq requested draining run spec feed factors = record {
  queue = queue;
  corked = corked;
  maxlength = maxlength;
  tlength = tlength;
  minreq = minreq;
  requested = requested;
  draining = draining;
  run = run;
  spec = spec;
  feed = feed;
  factors = factors;
}

-- the invariant of a stream of the code: also that it can be mixed into a sink with as many channels as its feed has places
pub record IsMixable (s : Stream) : Type 0 where
  pub holds : IsStream s
  pub playable : IsPlayable s.spec
  pub feed_fits : All (λ channel. channel < s.spec.channels) s.feed
  pub factors_fit : length s.factors ≡ length s.feed
