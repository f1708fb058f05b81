use Rattle.std.proofs.Common.{get_or, ap, ◌∙◌}
use Rattle.px_world.proofs.Beginning.{consistent-device}
use Rattle.px_ramp.specs.RampMix.{RampSink}
use Rattle.px_ramp_world.specs.World.{RampedMixer}
use Rattle.px_ramp_world.specs.Event.{ramped_to_fail}
use Rattle.px_ramp_world.specs.Playing.{ramped_mixer_of, plain_mixer_of}
use Rattle.px_ramp_world.proofs.Sounding.{changed-at, kept-notices}
use Rattle.px_ramp_world.proofs.sinks.stop_at.Goals as goal

pub returns-clause-consistent : goal.returns-clause-consistent
returns-clause-consistent c = λ core h. consistent-device plain_mixer_of c.args.mixers.now c.args.place c.index-mixers-place.result c.stop.new.self core c.requires (ap (λ (rs : RampSink). rs.sink) c.stop.ensures.sink)
    (ap (λ (m : RampedMixer). m.notices) c.stop.ensures.mixer ∙ kept-notices (ramped_mixer_of (get_or c.args.mixers.now c.args.place c.index-mixers-place.result))) h

pub returns-clause-after : goal.returns-clause-after
returns-clause-after c = changed-at ramped_mixer_of c.args.mixers.now c.args.place c.index-mixers-place.result c.requires c.stop.new.self ramped_to_fail c.stop.ensures.mixer
