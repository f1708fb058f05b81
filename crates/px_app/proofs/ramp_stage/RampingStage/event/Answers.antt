use Rattle.std.proofs.Common.{ℕ, Option, inr, ap, ◌∙◌}
use Rattle.px_ends.specs.Visible.{after_adding}
use Rattle.px_app.specs.declared.view.Lens.TheVariants as lens
use Rattle.px_app.specs.Mode.{state_after}
use Rattle.px_app.specs.Ramp.{ramp_course}
use Rattle.px_app.specs.Records.{shown_part}
use Rattle.px_app.proofs.FlushLaws.{gathered, gathered_front}
use Rattle.px_app.proofs.RampLaws.{part_is, event_done, event_cut, event_refused, stands_on}
use Rattle.px_app.proofs.ramp_stage.RampingStage.event.Goals as goal

pub returns-in-Err-clause-played : goal.returns-in-Err-clause-played
returns-in-Err-clause-played c = λ look header events held stage.
    event_refused c.in-Err.fault look header events c.args.e (after_adding held c.args.pieces.now.bytes)
    (λ other. c.event.ensures.refused ((state_after ramp_course header events).over look) c.in-Err.fault stage.stands c.in-Err.is other)

pub returns-in-Ok-write_outcome-clause-played : goal.returns-in-Ok-write_outcome-clause-played
returns-in-Ok-write_outcome-clause-played c = λ look header events held stage.
    let s = state_after ramp_course header events in
    let outcome = c.in-Ok.outcome in
    let done = c.in-Ok.ensures.done (s.over look) stage.stands in
    let part = shown_part lens.Records c.turn_sink-sink.result outcome.effects outcome.stopped outcome.frames outcome.played in
    let same = ap (λ (sink : Option ℕ). shown_part lens.Records sink outcome.effects outcome.stopped outcome.frames outcome.played) c.turn_sink-sink.ensures
    ∙ part_is look s c.args.e outcome.effects outcome.stopped outcome.frames outcome.played done.effects done.stopped done.frames done.played in
    event_done look header events c.args.e part (after_adding held c.args.pieces.now.bytes) (after_adding held c.write_outcome.new.output.bytes) same
    done.admitted (gathered c.args.pieces.now.bytes c.write_outcome.new.output.bytes part held c.in-Ok-write_outcome.ensures.ok)

pub returns-clause-played : goal.returns-clause-played
returns-clause-played c = λ look header events held stage.
    let s = state_after ramp_course header events in
    let outcome = c.in-Ok.outcome in
    let done = c.in-Ok.ensures.done (s.over look) stage.stands in
    let part = shown_part lens.Records c.turn_sink-sink.result outcome.effects outcome.stopped outcome.frames outcome.played in
    let same = ap (λ (sink : Option ℕ). shown_part lens.Records sink outcome.effects outcome.stopped outcome.frames outcome.played) c.turn_sink-sink.ensures
    ∙ part_is look s c.args.e outcome.effects outcome.stopped outcome.frames outcome.played done.effects done.stopped done.frames done.played in
    inr (event_cut look header events c.args.e part (after_adding held c.args.pieces.now.bytes) (after_adding held c.write_outcome.new.output.bytes) same
    done.admitted (gathered_front c.args.pieces.now.bytes c.write_outcome.new.output.bytes part held c.in-Err-write_outcome.ensures.err))

pub returns-in-Ok-write_outcome-clause-stands : goal.returns-in-Ok-write_outcome-clause-stands
returns-in-Ok-write_outcome-clause-stands c = λ look header events stage.
    let s = state_after ramp_course header events in
    stands_on (record { world = c.used_text.new.self }) look header events c.args.e (rw c.used_text.ensures (c.in-Ok.ensures.after (s.over look) stage.stands))
