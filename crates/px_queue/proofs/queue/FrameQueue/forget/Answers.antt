use Rattle.std.proofs.Common.{◌≡◌, ◌≤◌, ℕ, ap, sym, subst, ◌∙◌, List, Option, arith}
use Rattle.px_model.specs.Frame.{Frame}
use Rattle.px_model.specs.Queue.{Queue, IsQueue}
use Rattle.px_queue.specs.HeldQueue.{HeldQueue}
use Rattle.px_queue.specs.Laid.{TOP}
use Rattle.px_queue.specs.Pieces.{Piece, byte_at}
use Rattle.px_queue.specs.Framed.{byte_index, held_from, queue_of}
use Rattle.px_queue.proofs.Bytes.{rise_lower}
use Rattle.px_queue.proofs.Framing.{held_length, same_held, same_ends}
use Rattle.px_queue.proofs.queue.FrameQueue.forget.Goals as goal

pub invariant_of-self : goal.invariant_of-self
invariant_of-self g c =
    let d = c.self.inside in
    let ps : List Piece = d.chunks.before in
    let q : Queue = queue_of d.frame ps d.read d.held d.write d.hold d.prebuf in
    let qs : List Piece = c.forget.new.self.before in
    let law : (j : ℕ) → byte_index d.frame d.read ≤ j → byte_at qs j ≡ byte_at ps j = λ j from. c.forget.ensures.bytes j (subst (λ (m : ℕ). m ≤ j) (sym c.byte_index.ensures.value) from) in
    let same : held_from d.frame qs d.read d.held ≡ held_from d.frame ps d.read d.held = same_held d.frame qs ps d.read d.held law in
    let made = λ (h : List (Option Frame)). let q : Queue = record { held = h; read = d.read; write = d.write; hold = d.hold; prebuf = d.prebuf } in q in
    let laid = c.self.invariant.2 in (
      sym (held_length d.frame qs d.read d.held),
      subst (λ (h : List (Option Frame)). IsQueue (made h)) (sym same) c.self.invariant.1,
      record {
        some = laid.some;
        rising = rise_lower c.byte_index.result 0 TOP qs (omega arith) c.forget.ensures.rising;
        rest = c.forget.ensures.behind ∙ laid.rest;
        ends = same_ends d.frame qs ps d.read d.held law laid.ends;
        room = omega (arith, laid.room, c.forget.ensures.room);
        block_room = omega (arith, laid.block_room, c.forget.ensures.block_room);
      },
    )

pub returns-clause-queue : goal.returns-clause-queue
returns-clause-queue g c =
    let d = c.self.inside in
    let ps : List Piece = d.chunks.before in
    let q : Queue = queue_of d.frame ps d.read d.held d.write d.hold d.prebuf in
    let qs : List Piece = c.forget.new.self.before in
    let law : (j : ℕ) → byte_index d.frame d.read ≤ j → byte_at qs j ≡ byte_at ps j = λ j from. c.forget.ensures.bytes j (subst (λ (m : ℕ). m ≤ j) (sym c.byte_index.ensures.value) from) in
    let same : held_from d.frame qs d.read d.held ≡ held_from d.frame ps d.read d.held = same_held d.frame qs ps d.read d.held law in
    let made = λ (h : List (Option Frame)). let q : Queue = record { held = h; read = d.read; write = d.write; hold = d.hold; prebuf = d.prebuf } in q in
    ap made same ∙ ap (λ (v : HeldQueue). v.queue) c.self.view_is
