-- A parcel that a message hands over is the whole stream of its input.
use Rattle.std.proofs.Common.{◌≡◌, ℕ, List, [], ◌∷◌, Option, Some, None, refl}
use Rattle.std.specs.List.{AllByRecursion}
use Rattle.px_model.specs.Stream.{Stream}
use Rattle.px_model.specs.Message.{Message}
use Rattle.px_model.specs.Notice.{Notice}
use Rattle.px_model.specs.Sink.{Input, stream_at}
use Rattle.px_model.specs.Write.{Outcome, stored, overflow, outside}
use Rattle.px_model.specs.Applied.{write_outcome}
use Rattle.px_model.specs.Turn.{message_notices, notices_from, refusal_of, inputs_with, latency_of}
use Rattle.px_model.specs.Track.{HandsOver, AllHandOver}

refusals : (xs : List Input) (i : ℕ) (o : Outcome) → AllByRecursion (HandsOver xs) (refusal_of i o)
refusals xs i stored = tt
refusals xs i overflow = (tt, tt)
refusals xs i outside = (tt, tt)

from_any : (xs : List Input) (o : Option Stream) (f : Stream → List (Notice Stream)) → ((s : Stream) → AllByRecursion (HandsOver xs) (f s)) → AllByRecursion (HandsOver xs) (notices_from o f)
from_any xs None f h = tt
from_any xs (Some s) f h = h s

detached_whole : (xs : List Input) (i : ℕ) (o : Option Stream) → stream_at i xs ≡ o → AllByRecursion (HandsOver xs) (notices_from o (λ s. Notice.detached i s ∷ []))
detached_whole xs i None e = tt
detached_whole xs i (Some s) e = (e, tt)

message_whole : (mixed buffered : ℕ) (m : Message Stream) (xs : List Input) → AllByRecursion (HandsOver xs) (message_notices mixed buffered m xs)
message_whole mixed buffered (Message.new n) xs = tt
message_whole mixed buffered (Message.attach i parcel feed factors) xs = tt
message_whole mixed buffered (Message.detach i) xs = detached_whole xs i (stream_at i xs) refl
message_whole mixed buffered (Message.write w) xs =
    from_any xs (stream_at w.input xs) (λ s. refusal_of w.input (write_outcome s w.seek w.offset w.frames w.bytes mixed)) (λ s. refusals xs w.input (write_outcome s w.seek w.offset w.frames w.bytes mixed))
message_whole mixed buffered (Message.cork i on) xs = tt
message_whole mixed buffered (Message.flush i) xs = tt
message_whole mixed buffered (Message.trigger i) xs = tt
message_whole mixed buffered (Message.prebuf i) xs = tt
message_whole mixed buffered (Message.drain i tag) xs = tt
message_whole mixed buffered (Message.attr i attr) xs = tt
message_whole mixed buffered (Message.factors each) xs = tt
message_whole mixed buffered (Message.query i tag) xs =
    from_any xs (stream_at i xs) (λ s. Notice.latency i tag (latency_of mixed buffered s) ∷ []) (λ s. (tt, tt))

pub all_whole : (mixed buffered : ℕ) (messages : List (Message Stream)) (xs : List Input) → AllHandOver mixed buffered messages xs
all_whole mixed buffered [] xs = tt
all_whole mixed buffered (m ∷ messages) xs = (message_whole mixed buffered m xs, all_whole mixed buffered messages (inputs_with mixed m xs))
