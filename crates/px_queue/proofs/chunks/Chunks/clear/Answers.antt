use Rattle.std.proofs.Common.{ap, sym, ◌∙◌, List, arith}
use Rattle.px_queue.specs.Laid.{Chunked, TOP}
use Rattle.px_queue.specs.Pieces.{Piece, Rise, byte_at}
use Rattle.px_queue.proofs.Bytes.{at_left, at_right, none_low, none_high}
use Rattle.px_queue.proofs.chunks.Chunks.clear.Goals as goal

pub returns-then-not-goes_past-clause-before : goal.returns-then-not-goes_past-clause-before
returns-then-not-goes_past-clause-before g c =
    c.goes_past.ensures.no c.if-not-goes_past.true TOP c.requires.rising

pub returns-then-not-goes_past-clause-high : goal.returns-then-not-goes_past-clause-high
returns-then-not-goes_past-clause-high g c =
    let v : List Piece = c.args.self.now.before in
    let rise : Rise 0 c.args.from v = c.goes_past.ensures.no c.if-not-goes_past.true TOP c.requires.rising in
    λ i high. ap (λ (ps : List Piece). byte_at ps i) c.requires.rest ∙ sym (none_high 0 c.args.from v i rise (omega (arith, c.requires.order)))

pub returns-clause-low : goal.returns-clause-low
returns-clause-low g c =
    let x : Chunked = c.part.new.self in
    let y : Chunked = c.split.new.self in
    λ i low. c.cut.ensures.low i low ∙ c.drop_from.ensures.low i low
    ∙ sym (at_left y.before y.behind i (none_low c.args.to TOP y.behind i c.split.ensures.behind (omega (arith, c.requires.order))))
    ∙ c.split.ensures.bytes i ∙ ap (λ (ps : List Piece). byte_at ps i) c.part.ensures.all

pub returns-clause-high : goal.returns-clause-high
returns-clause-high g c =
    let y : Chunked = c.split.new.self in
    λ i high. ap (λ (ps : List Piece). byte_at ps i) (c.cut.ensures.behind ∙ c.drop_from.ensures.behind)
    ∙ sym (at_right y.before y.behind i (none_high 0 c.args.to y.before i c.split.ensures.before high))
    ∙ c.split.ensures.bytes i ∙ ap (λ (ps : List Piece). byte_at ps i) c.part.ensures.all
