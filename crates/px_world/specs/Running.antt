-- A world as it runs: of each link it holds no bytes, only the state of its decoder.
use Rattle.std.specs.Prelude.{◌≡◌, ℕ, List, [], ◌∷◌, ◌++◌, map, Option, None, Some, Result, Ok, Err}
use Rattle.std.specs.Ordering.{nat_cmp}
use Rattle.std.specs.BTreeMap.{is_at}
use Rattle.std.specs.Map.{lookup}
use Rattle.px_types.specs.declared.ids.ConnId.{ConnId}
use Rattle.px_frame.specs.declared.fault.FrameError.{FrameError}
use Rattle.px_frame.specs.declared.fault.FrameError.TheVariants.{Fault, Failed, NoMemory}
use Rattle.px_frame.specs.declared.frame.Frame.{Frame}
use Rattle.px_frame.specs.Progress.{Progress, HasFed}
use Rattle.px_frame.specs.Meaning.{frames_in}
use Rattle.px_model.specs.Stream.{Stream}
use Rattle.px_state.specs.State.{State}
use Rattle.px_core.specs.Step.{Step, frame, broken}
use Rattle.px_world.specs.World.{World, Link, Mixer, link_of}

pub record Running : Type 0 where
  pub core : State Stream
  -- the decoder of each link, by the connection's number
  pub doors : List (ℕ × Progress)
  pub mixers : List Mixer

-- the decoder of a connection, if it has one
abbrev pub decoder_of : List (ℕ × Progress) → ConnId → Option Progress
decoder_of doors conn = lookup (is_at (nat_cmp conn.0)) doors

-- the decoder was fed all bytes that the link has received; where there is no link there is no decoder
abbrev pub Opens : Option Progress → Option Link → Type 0
Opens None None = Unit {0}
Opens None (Some link) = ⊥
Opens (Some decoder) None = ⊥
Opens (Some decoder) (Some link) = HasFed decoder link.received (frames_in link.received)

-- at each number
abbrev pub Open : List (ℕ × Progress) → List Link → Type 0
Open doors links = (conn : ConnId) → Opens (decoder_of doors conn) (link_of links conn)

-- no two links have the same number
abbrev pub AreDistinct : List Link → Type 0
AreDistinct [] = Unit {0}
AreDistinct (link ∷ links) = (link_of links link.conn ≡ None) × AreDistinct links

-- ---- a feed

-- the feed didn't run out of memory
abbrev pub IsAnswered : Result (List Frame) FrameError → Type 0
IsAnswered (Ok frames) = Unit {0}
IsAnswered (Err (Fault frames fault at)) = Unit {0}
IsAnswered (Err (Failed fault at)) = Unit {0}
IsAnswered (Err NoMemory) = ⊥

-- the core's steps for what a feed returned: the frames, and the fault where it is new
abbrev pub steps_given : ConnId → Result (List Frame) FrameError → List (Step Stream)
steps_given conn (Ok frames) = map (frame conn) frames
steps_given conn (Err (Fault frames fault at)) = map (frame conn) frames ++ broken conn fault at ∷ []
steps_given conn (Err (Failed fault at)) = []
steps_given conn (Err NoMemory) = []

-- ---- the world

-- its state is this world
pub record StandsFor (running : Running) (w : World) : Type 0 where
  pub core : running.core ≡ w.core
  pub doors : Open running.doors w.links
  pub distinct : AreDistinct w.links
  pub mixers : running.mixers ≡ w.mixers
