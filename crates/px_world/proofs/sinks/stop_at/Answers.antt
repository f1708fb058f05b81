use Rattle.std.proofs.Common.{get_or, ap, ◌∙◌}
use Rattle.px_world.specs.World.{Mixer}
use Rattle.px_world.specs.Playing.{mixer_of}
use Rattle.px_world.specs.Event.{set_to_fail}
use Rattle.px_world.proofs.Sounding.{changed-at}
use Rattle.px_world.proofs.Beginning.{consistent-device, fail-notices}
use Rattle.px_world.proofs.sinks.stop_at.Goals as goal

pub returns-clause-consistent : goal.returns-clause-consistent
returns-clause-consistent c = λ core h. consistent-device mixer_of c.args.mixers.now c.args.place c.index-mixers-place.result c.stop.new.self core c.requires c.stop.ensures.sink
    (ap Mixer.notices c.stop.ensures.mixer ∙ fail-notices (mixer_of (get_or c.args.mixers.now c.args.place c.index-mixers-place.result))) h

pub returns-clause-after : goal.returns-clause-after
returns-clause-after c = changed-at mixer_of c.args.mixers.now c.args.place c.index-mixers-place.result c.requires c.stop.new.self set_to_fail c.stop.ensures.mixer
