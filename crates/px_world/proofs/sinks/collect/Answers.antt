use Rattle.std.proofs.Common.{◌<◌, ◌≤◌, List, length, get_or, refl, ap, subst, arith}
use Rattle.px_model.specs.Stream.{Stream}
use Rattle.px_model.specs.Notice.{Notice}
use Rattle.px_world.specs.declared.playing.Playing.{Playing}
use Rattle.px_world.specs.World.{Mixer}
use Rattle.px_world.specs.Event.{mixer_collected}
use Rattle.px_world.specs.Playing.{mixer_of}
use Rattle.px_world.proofs.Sounding.{seen-at, seen-alike, changed-at, collects, collected-consistent}
use Rattle.px_world.proofs.sinks.collect.Goals as goal

pub returns-clause-done : goal.returns-clause-done
returns-clause-done c = λ w same_core same_mixers.
    let within : c.args.sink < length c.args.mixers.now = omega (arith, c.if-mixers-place.false) in
    let first : c.args.count ≤ length (get_or c.args.mixers.now c.args.sink c.index-mixers-place.result).notices.notices =
    omega (arith, c.if-there-count.false, c.len-there.ensures, ap (λ (p : Playing). length p.notices.notices) c.index-mixers-place.is) in
    let few : c.args.count ≤ length (get_or c.args.mixers.now c.args.sink c.index-mixers-place-2.result).notices.notices =
    subst (λ (m : Mixer). c.args.count ≤ length m.notices) (seen-alike mixer_of c.args.mixers.now c.args.sink c.index-mixers-place.result c.index-mixers-place-2.result within) first in
    collects w c.args.core.now.state _ same_core same_mixers c.args.sink (mixer_of (get_or c.args.mixers.now c.args.sink c.index-mixers-place-2.result))
    (seen-at mixer_of c.args.mixers.now c.args.sink c.index-mixers-place-2.result within) c.collect_from.new.core.state _ c.args.count _ few c.in_ok-effects.ensures.core
    (changed-at mixer_of c.args.mixers.now c.args.sink c.index-mixers-place-2.result within _ (λ x. mixer_collected x c.args.count)
    (ap (λ (ns : List (Notice Stream)). record (mixer_of (get_or c.args.mixers.now c.args.sink c.index-mixers-place-2.result)) { notices = ns }) c.in_ok-effects.ensures.notices))
    c.in_ok-effects.ensures.effects refl c.silence.ensures refl

pub returns-clause-consistent : goal.returns-clause-consistent
returns-clause-consistent c =
    let within : c.args.sink < length c.args.mixers.now = omega (arith, c.if-mixers-place.false) in
    collected-consistent mixer_of c.args.mixers.now c.args.sink c.index-mixers-place-2.result within c.args.core.now.state c.requires.consistent c.collect_from.new.core.state (record { 0 = c.args.sink })
    c.args.count _ refl c.in_ok-effects.ensures.notices c.in_ok-effects.ensures.core
