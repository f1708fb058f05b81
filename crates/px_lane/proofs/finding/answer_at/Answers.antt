use Rattle.std.proofs.Common.{◌+◌, ◌≤◌, ◌++◌, ◌∷◌, [], Option, length, ap, sym, ◌∙◌, subst, arith, append-nil}
use Rattle.px_model.specs.Stream.{Stream}
use Rattle.px_model.specs.Notice.{Notice}
use Rattle.px_model.specs.Turn.{notices_from, latency_of}
use Rattle.px_lane.proofs.Places.{at_stream, gap_stream}
use Rattle.px_lane.proofs.finding.answer_at.Goals as goal

pub push-requires : goal.push-requires
push-requires c =
    let noticed = λ (o : Option Stream). notices_from o (λ s. Notice.latency c.args.index.0 c.args.tag (latency_of c.args.mixed c.args.buffered s) ∷ []) in
    let room = subst (λ (o : Option Stream). length c.args.out.now.notices + length (noticed o) ≤ c.args.out.now.capacity)
    (at_stream c.args.index.0 c.in-Ok.place c.args.inputs.now c.index-inputs-place.result c.in-Ok.ensures.ok) c.requires.capacity in
    omega (arith, room)

pub returns-in-Err-clause-notices : goal.returns-in-Err-clause-notices
returns-in-Err-clause-notices c =
    let noticed = λ (o : Option Stream). notices_from o (λ s. Notice.latency c.args.index.0 c.args.tag (latency_of c.args.mixed c.args.buffered s) ∷ []) in
    sym (append-nil c.args.out.now.notices)
    ∙ ap (λ (o : Option Stream). c.args.out.now.notices ++ noticed o) (sym (gap_stream c.args.index.0 c.in-Err.field-0 c.args.inputs.now c.in-Err.ensures.err))

pub returns-in-Ok-clause-notices : goal.returns-in-Ok-clause-notices
returns-in-Ok-clause-notices c =
    let noticed = λ (o : Option Stream). notices_from o (λ s. Notice.latency c.args.index.0 c.args.tag (latency_of c.args.mixed c.args.buffered s) ∷ []) in
    c.push.ensures.value
    ∙ ap (λ (n : Notice Stream). c.args.out.now.notices ++ n ∷ []) c.latency.ensures
    ∙ ap (λ (o : Option Stream). c.args.out.now.notices ++ noticed o) (sym (at_stream c.args.index.0 c.in-Ok.place c.args.inputs.now c.index-inputs-place.result c.in-Ok.ensures.ok))
