-- A world that runs goes on to stand for a world of the definitions.
use Rattle.std.proofs.Common.{◌≡◌, [], map, None, ap, sym, subst, ◌∙◌}
use Rattle.std.specs.Ordering.{nat_cmp}
use Rattle.std.specs.BTreeMap.{is_at}
use Rattle.std.specs.Map.{lookup}
use Rattle.px_header.specs.declared.header.Header.{Header}
use Rattle.px_session.specs.declared.event.Event.{Event}
use Rattle.px_model.specs.Stream.{Stream}
use Rattle.px_state.specs.State.{new_state}
use Rattle.px_core.specs.Step.{stepped_by}
use Rattle.px_world.specs.World.{World, new_mixer, new_world}
use Rattle.px_world.specs.Admission.{refusal_of}
use Rattle.px_world.specs.Event.{all_steps, links_after, mixers_after, world_after}
use Rattle.px_world.specs.Running.{Running, Opens, Open, StandsFor}
use Rattle.px_world.proofs.Links.{distinct-after}

-- before the first event
pub stands-first : (header : Header) (running : Running) → running.core ≡ new_state header → running.doors ≡ [] → running.mixers ≡ map new_mixer header.sinks → StandsFor running (new_world header)
stands-first header running core doors mixers = record {
  core = core;
  doors = λ conn. subst (λ l. Opens (lookup (is_at (nat_cmp conn.0)) l) None) (sym doors) tt;
  distinct = tt;
  mixers = mixers;
}

-- after an event
pub stands-after : (running after : Running) (w : World) (e : Event) → StandsFor running w → refusal_of w e ≡ None
    → after.core ≡ stepped_by Stream.spec running.core (all_steps w e) → Open after.doors (links_after w.links e) → after.mixers ≡ mixers_after w e
    → StandsFor after (world_after w e)
stands-after running after w e s admitted core doors mixers = record {
  core = core ∙ ap (λ c. stepped_by Stream.spec c (all_steps w e)) s.core;
  doors = doors;
  distinct = distinct-after w e admitted s.distinct;
  mixers = mixers;
}
