use Rattle.std.proofs.Common.{◌≡◌, ◌≤◌, ℕ, List, ◌+◌, ◌++◌, ◌∙◌, sym, subst, inl, arith, length, take, length-take}
use Rattle.std.proofs.lemmas.List.{take_all}
use Rattle.px_frame.specs.Descriptor.{descriptor_bytes}
use Rattle.px_frame.specs.Stage.{IsStep, held_of}
use Rattle.px_frame.proofs.FeedingLemmas.{feeds-waiting, breaks-here, part-begun}
use Rattle.px_frame.proofs.stage.head_step.Goals as goal

pub returns-then-got-lt-DESCRIPTOR_SIZE : goal.returns-then-got-lt-DESCRIPTOR_SIZE
returns-then-got-lt-DESCRIPTOR_SIZE c =
    let fed = feeds-waiting c.args.start c.fill-count.result (take c.args.got c.args.bytes) c.args.piece.now (take (c.args.got + c.fill-count.result) c.fill-count.new.bytes)
    (omega arith) c.fill-count.ensures.bytes (inl (omega (arith, length-take (c.args.got + c.fill-count.result) c.fill-count.new.bytes))) in
    subst (IsStep c.args.start (take c.args.got c.args.bytes) c.args.piece.now) (sym c.waiting.ensures)
    (fed, (c.fill-count.array_long, omega arith), omega arith, omega arith)

-- the twenty bytes are those that were there and those that came
filled : (got count : ℕ) (all old new piece : List ℕ) → all ≡ new → length new ≡ 20 → 20 ≤ got + count → take (got + count) new ≡ take got old ++ take count piece
    → all ≡ take got old ++ take count piece
filled got count all old new piece e twenty full parts = e ∙ (sym (take_all (got + count) new (omega arith)) ∙ parts)

pub returns-in-Some : goal.returns-in-Some
returns-in-Some c =
    let all = filled c.args.got c.fill-count.result (descriptor_bytes c.from_bytes-descriptor.result) c.args.bytes c.fill-count.new.bytes c.args.piece.now
    c.from_bytes-descriptor.ensures.bytes c.fill-count.array_long c.if-got-lt-DESCRIPTOR_SIZE.false c.fill-count.ensures.bytes in
    let fault = breaks-here c.args.start c.in-Some.place c.fill-count.result (take c.args.got c.args.bytes) c.args.piece.now c.from_bytes-descriptor.result c.in-Some.fault
    c.from_bytes-descriptor.ensures.words (sym c.in-Some.ensures) all in
    rw c.saturating_add-at.ensures fault

pub returns : goal.returns
returns c =
    let all = filled c.args.got c.fill-count.result (descriptor_bytes c.from_bytes-descriptor.result) c.args.bytes c.fill-count.new.bytes c.args.piece.now
    c.from_bytes-descriptor.ensures.bytes c.fill-count.array_long c.if-got-lt-DESCRIPTOR_SIZE.false c.fill-count.ensures.bytes in
    let held = c.in_ok-part.ensures.held in
    let fed = feeds-waiting c.args.start c.fill-count.result (take c.args.got c.args.bytes) c.args.piece.now (held_of c.in_ok-part.part)
    (omega arith) (held ∙ all) (part-begun c.in_ok-part.part c.in_ok-part.ensures.part) in
    subst (IsStep c.args.start (take c.args.got c.args.bytes) c.args.piece.now) (sym c.waiting-2.ensures)
    (fed, c.in_ok-part.ensures.part, omega (arith, c.fill-count.ensures.count), omega (arith, c.fill-count.ensures.count))
