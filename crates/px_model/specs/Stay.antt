-- The stays of an input: one on each sink that it comes to, from the turn in which it comes to the one in which it leaves. A stay may be any part of
-- a sink's history, so an input may come back to a sink. Own.
use Rattle.std.specs.Prelude.{◌≡◌, ◌≤◌, ℕ, ◌+◌, ◌⊎◌, List, [], ◌∷◌, flat_map, ⊤}
use Rattle.px_model.specs.Stream.{Stream}
use Rattle.px_model.specs.Message.{Message}
use Rattle.px_model.specs.Notice.{Notice}
use Rattle.px_model.specs.Mix.{Samples}
use Rattle.px_model.specs.Sink.{Sink, IsSink, stream_at}
use Rattle.px_model.specs.Deciding.{Entry, IsHistory, IsOrderlyHistory, sink_after, notices_of, messages_of}
use Rattle.px_model.specs.Track.{Stretch, track_of, presence_of, history_opens}

abbrev pub HasOne : {X : Type 0} → (X → Type 0) → List X → Type 0
HasOne P [] = ⊥
HasOne P (x ∷ xs) = P x ⊎ HasOne P xs

-- a message attaches the input, with this parcel
abbrev pub Comes : ℕ → Stream → Message Stream → Type 0
Comes i parcel (Message.new n) = ⊥
Comes i parcel (Message.attach j given feed factors) = (j ≡ i) × (given ≡ parcel)
Comes i parcel (Message.detach j) = ⊥
Comes i parcel (Message.write w) = ⊥
Comes i parcel (Message.cork j on) = ⊥
Comes i parcel (Message.flush j) = ⊥
Comes i parcel (Message.trigger j) = ⊥
Comes i parcel (Message.prebuf j) = ⊥
Comes i parcel (Message.drain j tag) = ⊥
Comes i parcel (Message.attr j attr) = ⊥
Comes i parcel (Message.factors each) = ⊥
Comes i parcel (Message.query j tag) = ⊥

-- a notice hands over the input, with this parcel
abbrev pub Leaves : ℕ → Stream → Notice Stream → Type 0
Leaves i parcel (Notice.request j frames) = ⊥
Leaves i parcel (Notice.overflow j) = ⊥
Leaves i parcel (Notice.underflow j) = ⊥
Leaves i parcel (Notice.started j) = ⊥
Leaves i parcel (Notice.drained j tag) = ⊥
Leaves i parcel (Notice.detached j given) = (j ≡ i) × (given ≡ parcel)
Leaves i parcel (Notice.latency j tag answer) = ⊥

pub record Stay : Type 0 where
  -- the sink before the first turn
  pub sink : Sink
  pub history : List Entry

-- the input is opened there at most once
pub record IsStay (samples : Samples) (i : ℕ) (stay : Stay) : Type 0 where
  pub holds : IsSink stay.sink
  pub can : IsHistory samples stay.sink stay.history
  pub orderly : IsOrderlyHistory samples stay.sink stay.history
  pub once : presence_of (stream_at i stay.sink.inputs) + history_opens i stay.history ≤ 1

-- the input comes in the first turn
abbrev pub ComesIn : ℕ → Stream → List Entry → Type 0
ComesIn i parcel [] = ⊥
ComesIn i parcel (e ∷ history) = HasOne (Comes i parcel) (messages_of e)

-- the input leaves in the last turn
abbrev pub LeavesIn : Samples → ℕ → Stream → Sink → List Entry → Type 0
LeavesIn samples i parcel sink [] = ⊥
LeavesIn samples i parcel sink (e ∷ []) = HasOne (Leaves i parcel) (notices_of samples sink e)
LeavesIn samples i parcel sink (e ∷ f ∷ history) = LeavesIn samples i parcel (sink_after samples sink e) (f ∷ history)

-- the parcel that leaves one sink comes to the next
pub record GoesOn (samples : Samples) (i : ℕ) (before next : Stay) : Type 0 where
  pub parcel : Stream
  pub leaves : LeavesIn samples i parcel before.sink before.history
  pub comes : ComesIn i parcel next.history

-- one stay after another
abbrev pub AreStays : Samples → ℕ → List Stay → Type 0
AreStays samples i [] = ⊤
AreStays samples i (a ∷ []) = IsStay samples i a
AreStays samples i (a ∷ b ∷ stays) = IsStay samples i a × (GoesOn samples i a b × AreStays samples i (b ∷ stays))

-- the track over all stays
abbrev pub track_over : Samples → ℕ → List Stay → List Stretch
track_over samples i stays = flat_map (λ (a : Stay). track_of samples a.sink a.history i) stays
