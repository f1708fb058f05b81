-- A mode of the program before a world: of a session's events it makes other events of the world, and replies of its own among their effects.
use Rattle.std.specs.Prelude.{◌+◌, Bool, true, false, cond, ◌&&◌, nat_eq, List, [], ◌∷◌, ◌++◌}
use Rattle.std.specs.List.{flat_map}
use Rattle.px_types.specs.declared.ids.ConnId.{ConnId}
use Rattle.px_frame.specs.Frame.{offset_at}
use Rattle.px_session.specs.declared.event.Event.{Event}
use Rattle.px_outcome.specs.declared.sending.Reason.{Reason}
use Rattle.px_outcome.specs.declared.sending.Reason.TheVariants.{Protocol, Limit, Killed, Cut}
use Rattle.px_state.specs.declared.effect.Effect.{Effect}
use Rattle.px_state.specs.declared.effect.Effect.TheVariants.{Sent, Closed}
pub use Rattle.px_sieve.specs.declared.shift.Shift.{Shift}
pub use Rattle.px_sieve.specs.declared.shift.Shift.TheVariants.{Unshifted, Moved, Faulted, Hidden}
use Rattle.px_world.specs.World.{World}
use Rattle.px_world.specs.Event.{world_after, effects_after}

-- what a mode makes: an event of the world, or effects of its own
pub data Item : Type 0 where
  Inner : Event → Shift → Item
  Reply : List Effect → Item

-- ---- shifts

abbrev pub is_same : ConnId → ConnId → Bool
is_same one other = nat_eq one.0 other.0

abbrev pub is_for_rule : Reason → Bool
is_for_rule Protocol = true
is_for_rule Limit = false
is_for_rule Killed = false
is_for_rule Cut = false

-- where bytes were left out before, an offset in the bytes of the world is later in all of them
abbrev pub shifted_one : Shift → Effect → List Effect
shifted_one Unshifted effect = effect ∷ []
shifted_one (Moved conn skipped) (Sent to packet) = Sent to packet ∷ []
shifted_one (Moved conn skipped) (Closed to reason fault at) =
    cond (is_same to conn && is_for_rule reason) (Closed to reason fault (offset_at (at + skipped)) ∷ []) (Closed to reason fault at ∷ [])
shifted_one (Faulted conn code place) (Sent to packet) = Sent to packet ∷ []
shifted_one (Faulted conn code place) (Closed to reason fault at) =
    cond (is_same to conn && is_for_rule reason) (Closed to reason code place ∷ []) (Closed to reason fault at ∷ [])
shifted_one (Hidden conn) (Sent to packet) = cond (is_same to conn) [] (Sent to packet ∷ [])
shifted_one (Hidden conn) (Closed to reason fault at) = cond (is_same to conn) [] (Closed to reason fault at ∷ [])

abbrev pub shifted : Shift → List Effect → List Effect
shifted shift effects = flat_map (shifted_one shift) effects

-- ---- a list of items

-- the events of the world
abbrev pub inner : List Item → List Event
inner [] = []
inner (Inner e shift ∷ items) = e ∷ inner items
inner (Reply effects ∷ items) = inner items

-- the effects that are shown, from a world on
abbrev pub shown_by : World → List Item → List Effect
shown_by w [] = []
shown_by w (Inner e shift ∷ items) = shifted shift (effects_after w e) ++ shown_by (world_after w e) items
shown_by w (Reply effects ∷ items) = effects ++ shown_by w items
