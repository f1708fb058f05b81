use Rattle.std.proofs.Common.{ℕ, Result, Err, ap, subst, ◌∙◌}
use Rattle.px_types.specs.Faults.{Rose}
use Rattle.px_gen.specs.declared.writing.Stop.{Stop}
use Rattle.px_gen.specs.Writing.{Counts, GatheredBy}
use Rattle.px_gen.proofs.Gathering.{ends_all, ends_short, is_cut, short_cut}
use Rattle.px_gen.proofs.generator.finish.Goals as goal

pub returns-in-Ok-flush-clause-bytes : goal.returns-in-Ok-flush-clause-bytes
returns-in-Ok-flush-clause-bytes g c = λ first given gathered.
    ends_all given c.args.pieces.now.bytes first (g.K.Sink.held c.args.out.now) (g.K.Sink.held c.flush.new.output)
    (subst (λ (done : Result Unit Stop). GatheredBy done given first (g.K.Sink.held c.args.out.now) c.args.pieces.now.bytes) c.in-Ok.is gathered) c.in-Ok-flush.ensures.ok

pub returns-in-Ok-flush-clause-count : goal.returns-in-Ok-flush-clause-count
returns-in-Ok-flush-clause-count g c = λ before counted.
    c.in-Ok-flush.ensures.ok_count ∙ subst (λ (done : Result Unit Stop). Counts done before (g.K.Sink.faults c.args.out.now)) c.in-Ok.is counted

pub returns-in-Err-clause-bytes : goal.returns-in-Err-clause-bytes
returns-in-Err-clause-bytes g c = λ first given gathered.
    is_cut given c.args.pieces.now.bytes first (g.K.Sink.held c.args.out.now) (g.K.Sink.held c.flush.new.output)
    (subst (λ (done : Result Unit Stop). GatheredBy done given first (g.K.Sink.held c.args.out.now) c.args.pieces.now.bytes) c.in-Ok.is gathered) c.in-Err.ensures.err

pub returns-in-Err-clause-count : goal.returns-in-Err-clause-count
returns-in-Err-clause-count g c = λ before counted.
    subst (λ (n : ℕ). Rose n (g.K.Sink.faults c.flush.new.output)) (subst (λ (done : Result Unit Stop). Counts done before (g.K.Sink.faults c.args.out.now)) c.in-Ok.is counted) c.in-Err.ensures.err_count

pub returns-in-Ok-flush-2-clause-bytes : goal.returns-in-Ok-flush-2-clause-bytes
returns-in-Ok-flush-2-clause-bytes g c = λ first given gathered.
    ends_short given c.args.pieces.now.bytes first (g.K.Sink.held c.args.out.now) (g.K.Sink.held c.flush-in-Err-NoMemory.new.output)
    (subst (λ (done : Result Unit Stop). GatheredBy done given first (g.K.Sink.held c.args.out.now) c.args.pieces.now.bytes) (c.in-Err-NoMemory.is ∙ ap (λ (e : Stop). let r : Result Unit Stop = Err e in r) (rw c.in-Err-NoMemory.is at c.in-Err-NoMemory.field-0-is)) gathered)
    c.in-Ok-flush-2.ensures.ok

pub returns-in-Ok-flush-2-clause-count : goal.returns-in-Ok-flush-2-clause-count
returns-in-Ok-flush-2-clause-count g c = λ before counted.
    c.in-Ok-flush-2.ensures.ok_count
    ∙ subst (λ (done : Result Unit Stop). Counts done before (g.K.Sink.faults c.args.out.now)) (c.in-Err-NoMemory.is ∙ ap (λ (e : Stop). let r : Result Unit Stop = Err e in r) (rw c.in-Err-NoMemory.is at c.in-Err-NoMemory.field-0-is)) counted

pub returns-in-Err-flush-clause-bytes : goal.returns-in-Err-flush-clause-bytes
returns-in-Err-flush-clause-bytes g c = λ first given gathered.
    short_cut given c.args.pieces.now.bytes first (g.K.Sink.held c.args.out.now) (g.K.Sink.held c.flush-in-Err-NoMemory.new.output)
    (subst (λ (done : Result Unit Stop). GatheredBy done given first (g.K.Sink.held c.args.out.now) c.args.pieces.now.bytes) (c.in-Err-NoMemory.is ∙ ap (λ (e : Stop). let r : Result Unit Stop = Err e in r) (rw c.in-Err-NoMemory.is at c.in-Err-NoMemory.field-0-is)) gathered)
    c.in-Err-flush.ensures.err

pub returns-in-Err-flush-clause-count : goal.returns-in-Err-flush-clause-count
returns-in-Err-flush-clause-count g c = λ before counted.
    subst (λ (n : ℕ). Rose n (g.K.Sink.faults c.flush-in-Err-NoMemory.new.output))
    (subst (λ (done : Result Unit Stop). Counts done before (g.K.Sink.faults c.args.out.now)) (c.in-Err-NoMemory.is ∙ ap (λ (e : Stop). let r : Result Unit Stop = Err e in r) (rw c.in-Err-NoMemory.is at c.in-Err-NoMemory.field-0-is)) counted) c.in-Err-flush.ensures.err_count

pub returns-in-Err-Failed-clause-bytes : goal.returns-in-Err-Failed-clause-bytes
returns-in-Err-Failed-clause-bytes g c = λ first given gathered.
    subst (λ (done : Result Unit Stop). GatheredBy done given first (g.K.Sink.held c.args.out.now) c.args.pieces.now.bytes) (c.in-Err-Failed.is ∙ ap (λ (e : Stop). let r : Result Unit Stop = Err e in r) (rw c.in-Err-Failed.is at c.in-Err-Failed.field-0-is)) gathered

pub returns-in-Err-Failed-clause-count : goal.returns-in-Err-Failed-clause-count
returns-in-Err-Failed-clause-count g c = λ before counted.
    subst (λ (done : Result Unit Stop). Counts done before (g.K.Sink.faults c.args.out.now)) (c.in-Err-Failed.is ∙ ap (λ (e : Stop). let r : Result Unit Stop = Err e in r) (rw c.in-Err-Failed.is at c.in-Err-Failed.field-0-is)) counted
