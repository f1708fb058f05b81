use Rattle.std.proofs.Common.{◌<◌, length, get_or, map, take, Some, refl, ap, sym, ◌∙◌, arith}
use Rattle.px_msg.specs.View.{message_of}
use Rattle.px_state.specs.Out.{waiting_for}
use Rattle.px_world.specs.Admission.{turn_refusal}
use Rattle.px_world.proofs.Sounding.{each-at, each-set, unless-it, goes-on, goes-fresh, goes-there, goes-few, sink-consistent, turn-for}
use Rattle.px_ramp_world.specs.Event.{ramped_turned}
use Rattle.px_ramp_world.specs.Playing.{ramped_mixer_of, plain_mixer_of, IsPlaying}
use Rattle.px_ramp_world.proofs.Buffers.{ramped-consistent}
use Rattle.px_ramp_world.proofs.Sounding.{seen-at, changed-at, turn-refusal, plays}
use Rattle.px_ramp_world.proofs.sinks.turn.Goals as goal

pub turn_of-requires-clause-consistent : goal.turn_of-requires-clause-consistent
turn_of-requires-clause-consistent c =
    let within : c.args.sink < length c.args.mixers.now = omega (arith, c.if-mixers-place.false) in
    sink-consistent plain_mixer_of c.args.mixers.now c.args.sink c.index-mixers-place-in-None.result within c.args.core.now.state c.requires.consistent

pub turn_of-requires-clause-playing : goal.turn_of-requires-clause-playing
turn_of-requires-clause-playing c =
    let within : c.args.sink < length c.args.mixers.now = omega (arith, c.if-mixers-place.false) in
    each-at IsPlaying c.args.mixers.now c.args.sink c.index-mixers-place-in-None.result c.requires.playing within

pub turn_of-requires-clause-there : goal.turn_of-requires-clause-there
turn_of-requires-clause-there c =
    let within : c.args.sink < length c.args.mixers.now = omega (arith, c.if-mixers-place.false) in
    goes-there (plain_mixer_of (get_or c.args.mixers.now c.args.sink c.index-mixers-place-in-None.result)) c.args.frames c.args.count (length (waiting_for c.args.core.now.state (record { 0 = c.args.sink })))
    (goes-on plain_mixer_of c.args.mixers.now c.args.sink c.index-mixers-place.result c.index-mixers-place-in-None.result within c.args.core.now.state c.args.frames c.args.count _ c.outgoing-waiting.ensures c.in-None.ensures)

pub turn_of-requires-clause-countable : goal.turn_of-requires-clause-countable
turn_of-requires-clause-countable c =
    let within : c.args.sink < length c.args.mixers.now = omega (arith, c.if-mixers-place.false) in
    goes-fresh (plain_mixer_of (get_or c.args.mixers.now c.args.sink c.index-mixers-place-in-None.result)) c.args.frames c.args.count (length (waiting_for c.args.core.now.state (record { 0 = c.args.sink })))
    (goes-on plain_mixer_of c.args.mixers.now c.args.sink c.index-mixers-place.result c.index-mixers-place-in-None.result within c.args.core.now.state c.args.frames c.args.count _ c.outgoing-waiting.ensures c.in-None.ensures)

pub turn_of-requires-clause-few : goal.turn_of-requires-clause-few
turn_of-requires-clause-few c =
    let within : c.args.sink < length c.args.mixers.now = omega (arith, c.if-mixers-place.false) in
    goes-few (plain_mixer_of (get_or c.args.mixers.now c.args.sink c.index-mixers-place-in-None.result)) c.args.frames c.args.count (length (waiting_for c.args.core.now.state (record { 0 = c.args.sink })))
    (goes-on plain_mixer_of c.args.mixers.now c.args.sink c.index-mixers-place.result c.index-mixers-place-in-None.result within c.args.core.now.state c.args.frames c.args.count _ c.outgoing-waiting.ensures c.in-None.ensures)

pub turn_of-requires-clause-messages : goal.turn_of-requires-clause-messages
turn_of-requires-clause-messages c =
    let within : c.args.sink < length c.args.mixers.now = omega (arith, c.if-mixers-place.false) in
    turn-for plain_mixer_of c.args.mixers.now c.args.sink c.index-mixers-place-in-None.result within c.args.core.now.state c.requires.consistent c.args.count

pub returns-in-Some-clause-done : goal.returns-in-Some-clause-done
returns-in-Some-clause-done c = λ w same_core same_mixers.
    let within : c.args.sink < length c.args.mixers.now = omega (arith, c.if-mixers-place.false) in
    unless-it c.in-Some.fault _
    (turn-refusal w c.args.core.now.state _ same_core same_mixers c.args.sink (ramped_mixer_of (get_or c.args.mixers.now c.args.sink c.index-mixers-place.result))
    (seen-at ramped_mixer_of c.args.mixers.now c.args.sink c.index-mixers-place.result within) c.args.frames c.args.count
    ∙ ap (turn_refusal (Some (plain_mixer_of (get_or c.args.mixers.now c.args.sink c.index-mixers-place.result))) c.args.frames c.args.count) (sym c.outgoing-waiting.ensures)
    ∙ sym c.in-Some.ensures)

pub returns-in-Some-clause-still : goal.returns-in-Some-clause-still
returns-in-Some-clause-still c = unless-it c.in-Some.fault _ (refl, refl)

pub returns-in_ok-outcome-in-None-clause-done : goal.returns-in_ok-outcome-in-None-clause-done
returns-in_ok-outcome-in-None-clause-done c = λ w same_core same_mixers.
    let within : c.args.sink < length c.args.mixers.now = omega (arith, c.if-mixers-place.false) in
    plays w c.args.core.now.state _ same_core same_mixers c.args.sink (ramped_mixer_of (get_or c.args.mixers.now c.args.sink c.index-mixers-place-in-None.result))
    (seen-at ramped_mixer_of c.args.mixers.now c.args.sink c.index-mixers-place-in-None.result within) c.turn_of.new.core.state _ c.args.frames c.args.count c.in_ok-outcome-in-None.outcome
    (goes-on plain_mixer_of c.args.mixers.now c.args.sink c.index-mixers-place.result c.index-mixers-place-in-None.result within c.args.core.now.state c.args.frames c.args.count _ c.outgoing-waiting.ensures c.in-None.ensures)
    c.in_ok-outcome-in-None.ensures.core
    (changed-at ramped_mixer_of c.args.mixers.now c.args.sink c.index-mixers-place-in-None.result within c.turn_of.new.playing
    (λ x. ramped_turned x c.args.frames (map (message_of (λ p. p)) (take c.args.count (waiting_for c.args.core.now.state (record { 0 = c.args.sink }))))) c.in_ok-outcome-in-None.ensures.mixer)
    c.in_ok-outcome-in-None.ensures.effects c.in_ok-outcome-in-None.ensures.frames c.in_ok-outcome-in-None.ensures.played c.in_ok-outcome-in-None.ensures.stopped

pub returns-in_ok-outcome-in-None-clause-consistent : goal.returns-in_ok-outcome-in-None-clause-consistent
returns-in_ok-outcome-in-None-clause-consistent c =
    let within : c.args.sink < length c.args.mixers.now = omega (arith, c.if-mixers-place.false) in
    ramped-consistent ramped_mixer_of c.args.mixers.now c.args.sink c.index-mixers-place-in-None.result within c.args.core.now.state c.requires.consistent c.turn_of.new.core.state c.args.frames c.args.count c.turn_of.new.playing
    (goes-there (plain_mixer_of (get_or c.args.mixers.now c.args.sink c.index-mixers-place-in-None.result)) c.args.frames c.args.count (length (waiting_for c.args.core.now.state (record { 0 = c.args.sink })))
    (goes-on plain_mixer_of c.args.mixers.now c.args.sink c.index-mixers-place.result c.index-mixers-place-in-None.result within c.args.core.now.state c.args.frames c.args.count _ c.outgoing-waiting.ensures c.in-None.ensures))
    c.in_ok-outcome-in-None.ensures.mixer c.in_ok-outcome-in-None.ensures.core

pub returns-in_ok-outcome-in-None-clause-playing : goal.returns-in_ok-outcome-in-None-clause-playing
returns-in_ok-outcome-in-None-clause-playing c = each-set IsPlaying c.args.mixers.now c.args.sink c.turn_of.new.playing c.requires.playing c.in_ok-outcome-in-None.ensures.playing

pub returns-in-Some-clause-consistent : goal.returns-in-Some-clause-consistent
returns-in-Some-clause-consistent c = unless-it c.in-Some.fault _ c.requires.consistent

pub returns-in-Some-clause-playing : goal.returns-in-Some-clause-playing
returns-in-Some-clause-playing c = unless-it c.in-Some.fault _ c.requires.playing
