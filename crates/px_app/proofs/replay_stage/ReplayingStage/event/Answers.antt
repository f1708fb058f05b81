use Rattle.std.proofs.Common.{ℕ, Option, inr, refl, ap, ◌∙◌}
use Rattle.px_ends.specs.Visible.{after_adding}
use Rattle.px_app.specs.declared.view.Lens.{Lens}
use Rattle.px_app.specs.Mode.{state_after}
use Rattle.px_app.specs.Records.{shown_part}
use Rattle.px_app.specs.Summary.{tallied}
use Rattle.px_app.specs.View.{part_of, world_course}
use Rattle.px_app.proofs.FlushLaws.{gathered, gathered_front}
use Rattle.px_app.proofs.ReplayLaws.{event_done, event_cut, event_refused, stands_on}
use Rattle.px_app.proofs.ViewLaws.{shown_is}
use Rattle.px_app.proofs.replay_stage.ReplayingStage.event.Goals as goal

pub returns-in-Err-clause-played : goal.returns-in-Err-clause-played
returns-in-Err-clause-played c = λ look header events held stage.
    let w = state_after world_course header events in
    event_refused c.in-Err.fault look w c.args.e (after_adding held c.args.pieces.now.bytes)
    (λ other. c.event.ensures.refused w c.in-Err.fault stage.stands c.in-Err.is other)

pub returns-in-Ok-write_outcome-clause-played : goal.returns-in-Ok-write_outcome-clause-played
returns-in-Ok-write_outcome-clause-played c = λ look header events held stage.
    let w = state_after world_course header events in
    let outcome = c.in-Ok.outcome in
    let lens = c.args.self.now.lens in
    let done = c.in-Ok.ensures.done w stage.stands in
    let part = shown_part lens c.turn_sink-sink.result outcome.effects outcome.stopped outcome.frames outcome.played in
    let same = ap (λ (sink : Option ℕ). shown_part lens sink outcome.effects outcome.stopped outcome.frames outcome.played) c.turn_sink-sink.ensures
    ∙ shown_is lens w c.args.e outcome.effects outcome.stopped outcome.frames outcome.played done.effects done.stopped done.frames done.played
    ∙ ap (λ (l : Lens). part_of l w c.args.e) stage.looks in
    event_done look w c.args.e part (after_adding held c.args.pieces.now.bytes) (after_adding held c.write_outcome.new.output.bytes) same
    done.admitted (gathered c.args.pieces.now.bytes c.write_outcome.new.output.bytes part held c.in-Ok-write_outcome.ensures.ok)

pub returns-clause-played : goal.returns-clause-played
returns-clause-played c = λ look header events held stage.
    let w = state_after world_course header events in
    let outcome = c.in-Ok.outcome in
    let lens = c.args.self.now.lens in
    let done = c.in-Ok.ensures.done w stage.stands in
    let part = shown_part lens c.turn_sink-sink.result outcome.effects outcome.stopped outcome.frames outcome.played in
    let same = ap (λ (sink : Option ℕ). shown_part lens sink outcome.effects outcome.stopped outcome.frames outcome.played) c.turn_sink-sink.ensures
    ∙ shown_is lens w c.args.e outcome.effects outcome.stopped outcome.frames outcome.played done.effects done.stopped done.frames done.played
    ∙ ap (λ (l : Lens). part_of l w c.args.e) stage.looks in
    inr (event_cut look w c.args.e part (after_adding held c.args.pieces.now.bytes) (after_adding held c.write_outcome.new.output.bytes) same
    done.admitted (gathered_front c.args.pieces.now.bytes c.write_outcome.new.output.bytes part held c.in-Err-write_outcome.ensures.err))

pub returns-in-Ok-write_outcome-clause-stands : goal.returns-in-Ok-write_outcome-clause-stands
returns-in-Ok-write_outcome-clause-stands c = λ look header events stage.
    let w = state_after world_course header events in
    let done = c.in-Ok.ensures.done w stage.stands in
    let old = c.args.self.now in
    stands_on old (record { header = old.header; lens = old.lens; world = c.used_text.new.self; tally = c.add.new.self }) look header events c.args.e stage refl refl
    (rw c.used_text.ensures (c.in-Ok.ensures.after w stage.stands))
    (c.add.ensures.value ∙ ap (tallied old.tally) (c.as_slice.ensures.items ∙ done.effects))
