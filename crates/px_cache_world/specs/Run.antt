-- A run of a world with a sample cache: what becomes of its events, one after the other, and how they change the samples.
use Rattle.std.specs.Prelude.{◌≡◌, ℕ, cond, List, [], ◌∷◌, ◌++◌, Option, None, Some, Result, Ok, Err}
use Rattle.px_types.specs.declared.ids.ConnId.{ConnId}
use Rattle.px_session.specs.declared.event.Event.{Event}
use Rattle.px_session.specs.declared.event.Event.TheVariants.{Connect, Bytes, Close, Cut, Turn, Collect, Stop}
use Rattle.px_cmd.specs.declared.fault.CmdFault.{CmdFault}
use Rattle.px_outcome.specs.Handled.{Handled}
use Rattle.px_state.specs.declared.effect.Effect.{Effect}
use Rattle.px_sieve.specs.declared.segment.Segment.{Segment}
use Rattle.px_sieve.specs.declared.piece.Piece.{Piece}
use Rattle.px_sieve.specs.declared.piece.Piece.TheVariants.{Pass, Broken, Own, Write}
use Rattle.px_sieve.specs.Scene.{Item}
use Rattle.px_scache.specs.declared.command.Request.{Request}
use Rattle.px_scache.specs.declared.command.Request.TheVariants.{Upload, Delete, Finish, Play, Remove}
use Rattle.px_scache.specs.declared.sample.Sample.{Sample}
use Rattle.px_scache.specs.Answers.{Store}
use Rattle.px_scache.specs.Cache.{Cache, Change, Finished, Removed, has_room, has_sample}
use Rattle.px_scache.specs.Command.{meant}
use Rattle.px_scache.specs.Uploads.{finished}
use Rattle.px_cache_world.specs.Sampler.{Sampler, packet_of, handed_out, piece_for, after_segment, hearing, to_hand_out, items, sampler_after, sampler_effects, sampler_refusal}

-- the state after the events, in order
abbrev pub sampler_by : Sampler → List Event → Sampler
sampler_by s [] = s
sampler_by s (e ∷ events) = sampler_by (sampler_after s e) events

-- each event is admitted in the state after those before it
abbrev pub AreSampled : Sampler → List Event → Type 0
AreSampled s [] = Unit {0}
AreSampled s (e ∷ events) = (sampler_refusal s e ≡ None) × AreSampled (sampler_after s e) events

-- what becomes of all of them
abbrev pub items_by : Sampler → List Event → List Item
items_by s [] = []
items_by s (e ∷ events) = items s e ++ items_by (sampler_after s e) events

-- their effects
abbrev pub effects_shown : Sampler → List Event → List Effect
effects_shown s [] = []
effects_shown s (e ∷ events) = sampler_effects s e ++ effects_shown (sampler_after s e) events

-- ---- the uploads that are finished, and the samples that are removed

abbrev pub finished_by : Handled Sample → Cache → List Change
finished_by (Ok sample) cache = cond (has_room sample cache) (Finished sample ∷ []) []
finished_by (Err refusal) cache = []

abbrev pub removed_by : Option (List ℕ) → Cache → List Change
removed_by None cache = []
removed_by (Some name) cache = cond (has_sample (Some name) cache) (Removed name ∷ []) []

abbrev pub changes_of : ConnId → Store → Result Request CmdFault → List Change
changes_of conn store (Ok (Upload a)) = []
changes_of conn store (Ok (Delete stream)) = []
changes_of conn store (Ok (Finish stream)) = finished_by (finished conn stream store.uploads) store.cache
changes_of conn store (Ok (Play a)) = []
changes_of conn store (Ok (Remove name)) = removed_by name store.cache
changes_of conn store (Err fault) = []

abbrev pub piece_changes : Sampler → ConnId → Piece → List Change
piece_changes s conn (Pass frame) = []
piece_changes s conn (Broken bytes) = []
piece_changes s conn (Write frame) = []
piece_changes s conn (Own frame) = changes_of conn s.store (meant (packet_of frame.body))

abbrev pub segments_changes : Sampler → ConnId → List Segment → List Change
segments_changes s conn [] = []
segments_changes s conn (segment ∷ segments) =
    piece_changes (handed_out s conn) conn (piece_for s conn segment) ++ segments_changes (after_segment s conn segment) conn segments

abbrev pub changes_in : Sampler → Event → List Change
changes_in s (Connect conn) = []
changes_in s (Bytes conn bytes) = segments_changes (hearing s conn bytes) conn (to_hand_out (hearing s conn bytes) conn)
changes_in s (Close conn) = []
changes_in s (Cut conn) = []
changes_in s (Turn sink frames n) = []
changes_in s (Collect sink n) = []
changes_in s (Stop sink) = []

abbrev pub changes_by : Sampler → List Event → List Change
changes_by s [] = []
changes_by s (e ∷ events) = changes_in s e ++ changes_by (sampler_after s e) events

-- ---- the name that a PLAY_SAMPLE asks for

abbrev pub name_in : Result Request CmdFault → Option (List ℕ)
name_in (Ok (Upload a)) = None
name_in (Ok (Delete stream)) = None
name_in (Ok (Finish stream)) = None
name_in (Ok (Play a)) = a.name
name_in (Ok (Remove name)) = None
name_in (Err fault) = None
