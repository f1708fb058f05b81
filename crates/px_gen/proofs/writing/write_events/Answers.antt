use Rattle.std.proofs.Common.{◌≡◌, ◌++◌, take, drop, suc, sym, subst}
use Rattle.std.specs.List.{flat_map}
use Rattle.px_session.specs.declared.event.Event.{Event}
use Rattle.px_session.specs.Spelling.{event}
use Rattle.px_session.proofs.Added.{front_then, flat_map_around}
use Rattle.px_gen.specs.Generator.{form}
use Rattle.px_gen.proofs.writing.write_events.Goals as goal

pub returns-in-Err-clause-bytes : goal.returns-in-Err-clause-bytes
returns-in-Err-clause-bytes g c =
    let i = c.loop-e.e-index in
    let events = c.args.events.now in
    let this = c.e-item.result in
    let done = flat_map (event form) (take i events) in
    let more = flat_map (event form) (drop (suc i) events) in
    let whole = λ (e : Event). flat_map (event form) events ≡ done ++ (event form e ++ more) in
    front_then done (event form this) more (flat_map (event form) events) (g.K.Sink.held c.args.out.now) _ _ c.loop-e.invariant.added c.in-Err.ensures.err (subst whole (sym c.e-item.is) (flat_map_around (event form) events i this c.loop-e-test.true))
