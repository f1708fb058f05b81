use Rattle.std.proofs.Common.{◌≡◌, ◌++◌, take, drop, suc, sym, subst}
use Rattle.std.specs.List.{flat_map}
use Rattle.std.proofs.lemmas.Result.{err_from_is_err_and}
use Rattle.px_session.specs.declared.event.Event.{Event}
use Rattle.px_session.specs.Spelling.{event}
use Rattle.px_session.proofs.Added.{front_then, flat_map_around}
use Rattle.px_tape.specs.Tape.{form}
use Rattle.px_tape.proofs.events.write_events.Goals as goal

pub returns-in_err-write_event-clause-err : goal.returns-in_err-write_event-clause-err
returns-in_err-write_event-clause-err g c =
    let i = c.loop-event.event-index in
    let events = c.args.events.now in
    let this = c.event-item.result in
    let done = flat_map (event form) (take i events) in
    let more = flat_map (event form) (drop (suc i) events) in
    let whole = λ (e : Event). flat_map (event form) events ≡ done ++ (event form e ++ more) in
    let p = err_from_is_err_and c.from_residual.result c.from_residual.ensures.1 in
    rw (p.1) (front_then done (event form this) more (flat_map (event form) events) (g.K.Sink.held c.args.out.now) _ _ c.loop-event.invariant.added c.in_err-write_event.ensures.err (subst whole (sym c.event-item.is) (flat_map_around (event form) events i this c.loop-event-test.true)))
