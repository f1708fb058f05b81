use Rattle.std.proofs.Common.{◌≡◌, ℕ, [], refl, sym, subst, ◌∙◌, List, Option, Result, Ok, Err}
use Rattle.std.specs.List.{AllByRecursion}
use Rattle.px_session.specs.declared.event.Event.{Event}
use Rattle.px_session.specs.Writing.{FitsEvent}
use Rattle.px_gen.specs.declared.writing.Stop.{Stop}
use Rattle.px_gen.specs.Generator.{form, generated, opening}
use Rattle.px_gen.proofs.Fitting.{opening_fits}
use Rattle.px_gen.proofs.Gathering.{head, nothing, head_gathered, head_stopped, steps_end, steps_from, end_gathered, end_stopped}
use Rattle.px_gen.proofs.generator.write_session.Goals as goal

pub returns-in_default-opening-clause-bytes : goal.returns-in_default-opening-clause-bytes
returns-in_default-opening-clause-bytes g c = ([], generated c.args.number c.args.count, refl, nothing (g.K.Sink.held c.args.out.now) c.args.pieces.now.bytes c.requires)

pub returns-in_default-clause-bytes : goal.returns-in_default-clause-bytes
returns-in_default-clause-bytes g c = ([], generated c.args.number c.args.count, refl, nothing (g.K.Sink.held c.args.out.now) c.args.pieces.now.bytes c.requires)

pub write_front-requires-clause-events : goal.write_front-requires-clause-events
write_front-requires-clause-events g c = subst (λ (es : List Event). AllByRecursion (FitsEvent form) es) (sym (c.as_slice.ensures.value ∙ c.in-Ok-opening.ensures)) opening_fits

pub returns-in-Err-clause-bytes : goal.returns-in-Err-clause-bytes
returns-in-Err-clause-bytes g c =
    head_stopped c.args.number c.args.count c.in-Ok.header c.as_slice.result.now c.in-Ok.ensures (c.as_slice.ensures.value ∙ c.in-Ok-opening.ensures) (g.K.Sink.held c.args.out.now) c.args.pieces.now.bytes c.requires
    c.write_front.new.out.bytes c.in-Err.ensures.bytes

pub returns-in-Err-write_steps-clause-bytes : goal.returns-in-Err-write_steps-clause-bytes
returns-in-Err-write_steps-clause-bytes g c =
    let first : Option (List ℕ) = g.K.Sink.held c.args.out.now in
    let old : List ℕ = c.args.pieces.now.bytes in
    let events : c.as_slice.result.now ≡ opening = c.as_slice.ensures.value ∙ c.in-Ok-opening.ensures in
    steps_end c.args.number c.args.count c.in-Ok.header c.as_slice.result.now c.in-Ok.ensures events first old c.requires c.in-Err-write_steps.stop (g.K.Sink.held c.write_steps.new.out) c.write_steps.new.pieces.bytes
    (steps_from (let r : Result Unit Stop = Err c.in-Err-write_steps.stop in r) c.args.count c.args.number c.new-numbers.result.state head first (g.K.Sink.held c.write_steps.new.out) c.write_steps.new.pieces.bytes c.new-numbers.ensures
    (c.in-Err-write_steps.ensures.bytes first head
    (head_gathered c.args.number c.args.count c.in-Ok.header c.as_slice.result.now c.in-Ok.ensures events first old c.requires c.write_front.new.out.bytes c.in_default-write_front.ensures.bytes)))

pub returns-in-Ok-write_end-clause-bytes : goal.returns-in-Ok-write_end-clause-bytes
returns-in-Ok-write_end-clause-bytes g c =
    let first : Option (List ℕ) = g.K.Sink.held c.args.out.now in
    let old : List ℕ = c.args.pieces.now.bytes in
    let events : c.as_slice.result.now ≡ opening = c.as_slice.ensures.value ∙ c.in-Ok-opening.ensures in
    end_gathered c.args.number c.args.count c.in-Ok.header c.as_slice.result.now c.in-Ok.ensures events first old c.requires (g.K.Sink.held c.write_steps.new.out) c.write_steps.new.pieces.bytes c.write_end.new.out.bytes
    (steps_from (let r : Result Unit Stop = Ok c.in_default-write_steps.field-0 in r) c.args.count c.args.number c.new-numbers.result.state head first (g.K.Sink.held c.write_steps.new.out) c.write_steps.new.pieces.bytes c.new-numbers.ensures
    (c.in_default-write_steps.ensures.bytes first head
    (head_gathered c.args.number c.args.count c.in-Ok.header c.as_slice.result.now c.in-Ok.ensures events first old c.requires c.write_front.new.out.bytes c.in_default-write_front.ensures.bytes)))
    c.in-Ok-write_end.ensures.ok

pub returns-clause-bytes : goal.returns-clause-bytes
returns-clause-bytes g c =
    let first : Option (List ℕ) = g.K.Sink.held c.args.out.now in
    let old : List ℕ = c.args.pieces.now.bytes in
    let events : c.as_slice.result.now ≡ opening = c.as_slice.ensures.value ∙ c.in-Ok-opening.ensures in
    end_stopped c.args.number c.args.count c.in-Ok.header c.as_slice.result.now c.in-Ok.ensures events first old c.requires (g.K.Sink.held c.write_steps.new.out) c.write_steps.new.pieces.bytes c.write_end.new.out.bytes
    (steps_from (let r : Result Unit Stop = Ok c.in_default-write_steps.field-0 in r) c.args.count c.args.number c.new-numbers.result.state head first (g.K.Sink.held c.write_steps.new.out) c.write_steps.new.pieces.bytes c.new-numbers.ensures
    (c.in_default-write_steps.ensures.bytes first head
    (head_gathered c.args.number c.args.count c.in-Ok.header c.as_slice.result.now c.in-Ok.ensures events first old c.requires c.write_front.new.out.bytes c.in_default-write_front.ensures.bytes)))
    c.in-Err-write_end.ensures.err
