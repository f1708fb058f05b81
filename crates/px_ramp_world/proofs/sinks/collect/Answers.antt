use Rattle.std.proofs.Common.{◌≡◌, ◌<◌, ◌≤◌, ℕ, List, length, get_or, Some, refl, ap, sym, subst, ◌∙◌, arith}
use Rattle.px_model.specs.Stream.{Stream}
use Rattle.px_model.specs.Notice.{Notice}
use Rattle.px_world.specs.declared.fault.WorldFault.TheVariants.{TooMany}
use Rattle.px_world.specs.World.{Mixer}
use Rattle.px_world.proofs.Sounding.{seen-alike, collected-consistent}
use Rattle.px_ramp_world.specs.declared.playing.RampPlaying.{RampPlaying}
use Rattle.px_ramp_world.specs.Event.{ramped_collected}
use Rattle.px_ramp_world.specs.Playing.{ramped_mixer_of, plain_mixer_of}
use Rattle.px_ramp_world.proofs.Sounding.{seen-at, changed-at, collect-refused, collects}
use Rattle.px_ramp_world.proofs.sinks.collect.Goals as goal

pub returns-clause-done : goal.returns-clause-done
returns-clause-done c = λ w same_core same_mixers.
    let within : c.args.sink < length c.args.mixers.now = omega (arith, c.if-mixers-place.false) in
    let first : c.args.count ≤ length (get_or c.args.mixers.now c.args.sink c.index-mixers-place.result).notices.notices =
    omega (arith, c.if-there-count.false, c.len-there.ensures, ap (λ (p : RampPlaying). length p.notices.notices) c.index-mixers-place.is) in
    let few : c.args.count ≤ length (get_or c.args.mixers.now c.args.sink c.index-mixers-place-2.result).notices.notices =
    subst (λ (m : Mixer). c.args.count ≤ length m.notices) (seen-alike plain_mixer_of c.args.mixers.now c.args.sink c.index-mixers-place.result c.index-mixers-place-2.result within) first in
    collects w c.args.core.now.state _ same_core same_mixers c.args.sink (ramped_mixer_of (get_or c.args.mixers.now c.args.sink c.index-mixers-place-2.result))
    (seen-at ramped_mixer_of c.args.mixers.now c.args.sink c.index-mixers-place-2.result within) c.collect_from.new.core.state _ c.args.count _ few c.in_ok-effects.ensures.core
    (changed-at ramped_mixer_of c.args.mixers.now c.args.sink c.index-mixers-place-2.result within _ (λ x. ramped_collected x c.args.count)
    (ap (λ (ns : List (Notice Stream)). record (ramped_mixer_of (get_or c.args.mixers.now c.args.sink c.index-mixers-place-2.result)) { notices = ns }) c.in_ok-effects.ensures.notices))
    c.in_ok-effects.ensures.effects refl c.silence.ensures refl

pub returns-clause-consistent : goal.returns-clause-consistent
returns-clause-consistent c =
    let within : c.args.sink < length c.args.mixers.now = omega (arith, c.if-mixers-place.false) in
    collected-consistent plain_mixer_of c.args.mixers.now c.args.sink c.index-mixers-place-2.result within c.args.core.now.state c.requires.consistent c.collect_from.new.core.state (record { 0 = c.args.sink })
    c.args.count _ refl c.in_ok-effects.ensures.notices c.in_ok-effects.ensures.core

pub returns-then-there-count-clause-done : goal.returns-then-there-count-clause-done
returns-then-there-count-clause-done c = λ w same_core same_mixers.
    let within : c.args.sink < length c.args.mixers.now = omega (arith, c.if-mixers-place.false) in
    let there : c.len-there.result ≡ length (get_or c.args.mixers.now c.args.sink c.index-mixers-place.result).notices.notices = c.len-there.ensures in
    collect-refused w c.args.core.now.state _ same_core same_mixers c.args.sink (ramped_mixer_of (get_or c.args.mixers.now c.args.sink c.index-mixers-place.result))
    (seen-at ramped_mixer_of c.args.mixers.now c.args.sink c.index-mixers-place.result within) c.args.count (omega (arith, c.if-there-count.true, there))
    ∙ ap (λ (n : ℕ). Some (TooMany c.args.count n)) (sym there)
