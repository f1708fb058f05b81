-- Where the stream of input `i` is in a running world: not made yet, on its way to a sink, at a sink, or given up by one. It is at one of these places at
-- most, and stands there where the last stretch that it settled ends.
use Rattle.std.specs.Prelude.{◌≡◌, ◌⊎◌, ℕ, ◌+◌, ◌≤◌, cond, nat_eq, nat_lt, ℤ, ◌≤ℤ◌, IsTrue, List, [], ◌∷◌, flat_map, Option, None, Some, IfSome, MatchOption, ⊤}
use Rattle.std.specs.List.{AllByRecursion}
use Rattle.px_model.specs.Index.{onward}
use Rattle.px_model.specs.Notice.{Notice}
use Rattle.px_model.specs.Sink.{stream_at}
use Rattle.px_model.specs.Stream.{Stream}
use Rattle.px_model.specs.Track.{Stretch, presence_of}
use Rattle.px_msg.specs.declared.message.Msg.{Msg}
use Rattle.px_msg.specs.View.{notice_for}
use Rattle.px_state.specs.State.{State}
use Rattle.px_core.specs.Parcels.{Brought, carried_by, given_by, AllCarry}
use Rattle.px_world.specs.World.{Mixer}

-- ---- the index that it goes on from

-- an index where a stream may go on after its last stretch, if it has settled any: where that one ends, or past it where the read index ran on
abbrev pub Resumes : Option Stretch → ℤ → Type 0
Resumes None read = ⊤
Resumes (Some x) read = ((read ≡ onward x.from x.count) ⊎ IsTrue x.ran_on) × (onward x.from x.count ≤ℤ read)

-- the last of some stretches, or else the one before them
abbrev pub last_of : Option Stretch → List Stretch → Option Stretch
last_of last [] = last
last_of last (x ∷ track) = last_of (Some x) track

-- the stream at a sink, if it is there, stands so
abbrev pub StaysReady : Option Stretch → Option Stream → Type 0
StaysReady last stream = IfSome stream (λ s. Resumes last s.queue.read)

-- a stream on its way stands so, if it is that of input `i`; a new one has settled nothing yet
abbrev pub MovesReady : ℕ → Option Stretch → Brought Stream → Type 0
MovesReady i last b = b.input ≡ i → MatchOption b.parcel (last ≡ None) (λ p. Resumes last p.queue.read)

-- ---- at how many places it is

-- how often a stream of input `i` is among these
abbrev pub times : ℕ → List (Brought Stream) → ℕ
times i [] = 0
times i (b ∷ brought) = cond (nat_eq b.input i) 1 0 + times i brought

-- 1 where fewer inputs have been made
abbrev pub unborn : ℕ → ℕ → ℕ
unborn i made = cond (nat_lt i made) 0 1

-- the streams that messages bring
abbrev pub carried : List (Msg Stream) → List (Brought Stream)
carried messages = flat_map carried_by messages

-- how often messages queued for any sink bring it
abbrev pub coming : ℕ → List (List (Msg Stream)) → ℕ
coming i posted = times i (flat_map carried posted)

-- the streams that notices give up
abbrev pub given_up : List (Notice Stream) → List (Brought Stream)
given_up notices = flat_map (λ n. given_by (notice_for n)) notices

-- whether it is at a mixer's sink, and how often pending notices of the mixer give it up
abbrev pub places_at : ℕ → Mixer → ℕ
places_at i m = presence_of (stream_at i m.sink.inputs) + times i (given_up m.notices)

abbrev pub places : ℕ → List Mixer → ℕ
places i [] = 0
places i (m ∷ mixers) = places_at i m + places i mixers

-- ---- all of it

-- at a mixer's sink it stands ready, and so does what the mixer's notices give up
pub record IsReadyAt (i : ℕ) (last : Option Stretch) (m : Mixer) : Type 0 where
  pub stays : StaysReady last (stream_at i m.sink.inputs)
  pub gives : AllByRecursion (MovesReady i last) (given_up m.notices)

pub record Stands (core : State Stream) (mixers : List Mixer) (i : ℕ) (last : Option Stretch) : Type 0 where
  pub once : unborn i core.inputs_made + coming i core.posted + places i mixers ≤ 1
  pub fresh : core.inputs_made ≤ i → last ≡ None
  pub queued : AllCarry (MovesReady i last) core
  pub each : AllByRecursion (IsReadyAt i last) mixers
