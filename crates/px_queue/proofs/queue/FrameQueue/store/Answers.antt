use Rattle.std.proofs.Common.{◌≡◌, ◌+◌, ◌*◌, ◌≤◌, ℕ, max, ap, sym, subst, ◌∙◌, List, Option, arith, length}
use Rattle.std.specs.Prelude.{ℤ}
use Rattle.px_model.specs.Frame.{Frame, frames_of}
use Rattle.px_model.specs.Index.{onward}
use Rattle.px_model.specs.Held.{written_over}
use Rattle.px_model.specs.Queue.{Queue}
use Rattle.px_model.specs.Write.{stored, queue_with}
use Rattle.px_queue.specs.HeldQueue.{HeldQueue}
use Rattle.px_queue.specs.Laid.{TOP}
use Rattle.px_queue.specs.Pieces.{Piece, byte_at, byte_in, first_of}
use Rattle.px_queue.specs.Framed.{byte_index, held_from, queue_of, EndsBy}
use Rattle.px_queue.proofs.Bytes.{rise_lower}
use Rattle.px_queue.proofs.Framing.{held_length, place_onward}
use Rattle.px_queue.proofs.Storing.{length_frames, reach_of, stored_held, stored_ends, stored_keeps}
use Rattle.px_queue.proofs.queue.FrameQueue.store.Goals as goal

pub overflow_cast-brought : goal.overflow_cast-brought
overflow_cast-brought g c =
    omega (arith, c.count-brought.ensures, c.requires.block_room, ap (λ (v : HeldQueue). v.block_room) c.self.view_is, c.self.ranges)

pub write-requires-clause-end : goal.write-requires-clause-end
write-requires-clause-end g c =
    let d = c.self.inside in
    let ps : List Piece = d.chunks.before in
    let frame : d.frame ≡ c.args.self.now.frame = ap (λ (v : HeldQueue). v.frame) c.self.view_is in
    c.byte_index-2.ensures.value ∙ ap (byte_index d.frame) c.requires.end ∙ place_onward d.frame c.args.at c.args.frames c.requires.first.0
    ∙ ap (λ (m : ℕ). m + c.args.frames * d.frame) (sym c.byte_index.ensures.value)
    ∙ ap (λ (m : ℕ). c.byte_index.result + m) (ap (λ (m : ℕ). c.args.frames * m) frame ∙ sym c.requires.whole)

pub invariant_of-self : goal.invariant_of-self
invariant_of-self g c =
    let d = c.self.inside in
    let ps : List Piece = d.chunks.before in
    let q : Queue = queue_of d.frame ps d.read d.held d.write d.hold d.prebuf in
    let qs : List Piece = c.forget.new.self.before in
    let laid = c.self.invariant.2 in
    let frame : d.frame ≡ c.args.self.now.frame = ap (λ (v : HeldQueue). v.frame) c.self.view_is in
    let whole : length c.args.bytes ≡ c.args.frames * d.frame = c.requires.whole ∙ ap (λ (m : ℕ). c.args.frames * m) (sym frame) in
    let law : (j : ℕ) → byte_index d.frame d.read ≤ j → byte_at qs j ≡ first_of (byte_in (record { at = byte_index d.frame c.args.at; bytes = c.args.bytes }) j) (byte_at ps j) =
    λ j from. c.forget.ensures.bytes j (subst (λ (m : ℕ). m ≤ j) (sym c.byte_index-3.ensures.value) from) ∙ c.write.ensures.bytes j
    ∙ ap (λ (m : ℕ). first_of (byte_in (record { at = m; bytes = c.args.bytes }) j) (byte_at ps j)) c.byte_index.ensures.value in
    let reach : ℕ = reach_of c.args.frames (onward c.args.at c.args.frames) d.read in
    let count : c.max-self-inside.result ≡ max d.held reach =
    c.max-self-inside.ensures ∙ ap (λ (m : ℕ). max d.held m) (c.reach-reach.ensures ∙ ap (λ (i : ℤ). reach_of c.args.frames i d.read) c.requires.end) in
    let held : held_from d.frame qs d.read c.max-self-inside.result ≡ written_over d.read c.args.at (frames_of d.frame c.args.frames c.args.bytes) (held_from d.frame ps d.read d.held) =
    ap (λ (m : ℕ). held_from d.frame qs d.read m) count
    ∙ stored_held d.frame c.args.frames ps qs d.read c.args.at d.held c.args.bytes laid.some whole c.requires.first.0 c.self.invariant.1.read_in_range.0 law laid.ends in
    let m : ℕ = c.max-self-inside.result in (
      sym (held_length d.frame qs d.read m),
      stored_keeps d.frame ps d.read d.held d.write c.args.at c.args.end d.hold d.prebuf c.args.frames (frames_of d.frame c.args.frames c.args.bytes) (held_from d.frame qs d.read m) c.self.invariant.1 c.requires.last held
          (held_length d.frame qs d.read m ∙ count ∙ ap (λ (i : ℤ). max d.held (reach_of c.args.frames i d.read)) (sym c.requires.end)),
      record {
        some = laid.some;
        rising = rise_lower c.byte_index-3.result 0 TOP qs (omega arith) c.forget.ensures.rising;
        rest = c.forget.ensures.behind ∙ c.write.ensures.rest;
        ends = subst (EndsBy d.frame qs d.read) (sym count) (stored_ends d.frame c.args.frames ps qs d.read c.args.at d.held c.args.bytes laid.some whole c.requires.first.0 c.self.invariant.1.read_in_range.0 law laid.ends);
        room = omega (arith, laid.room, c.forget.ensures.room, c.write.ensures.room, c.count-brought.ensures, c.requires.room, c.requires.block_room, ap (λ (v : HeldQueue). v.room) c.self.view_is, ap (λ (v : HeldQueue). v.block_room) c.self.view_is);
        block_room = omega (arith, laid.block_room, c.forget.ensures.block_room, c.write.ensures.block_room, c.count-brought.ensures);
      },
    )

pub returns-clause-queue : goal.returns-clause-queue
returns-clause-queue g c =
    let d = c.self.inside in
    let ps : List Piece = d.chunks.before in
    let q : Queue = queue_of d.frame ps d.read d.held d.write d.hold d.prebuf in
    let qs : List Piece = c.forget.new.self.before in
    let laid = c.self.invariant.2 in
    let frame : d.frame ≡ c.args.self.now.frame = ap (λ (v : HeldQueue). v.frame) c.self.view_is in
    let whole : length c.args.bytes ≡ c.args.frames * d.frame = c.requires.whole ∙ ap (λ (m : ℕ). c.args.frames * m) (sym frame) in
    let law : (j : ℕ) → byte_index d.frame d.read ≤ j → byte_at qs j ≡ first_of (byte_in (record { at = byte_index d.frame c.args.at; bytes = c.args.bytes }) j) (byte_at ps j) =
    λ j from. c.forget.ensures.bytes j (subst (λ (m : ℕ). m ≤ j) (sym c.byte_index-3.ensures.value) from) ∙ c.write.ensures.bytes j
    ∙ ap (λ (m : ℕ). first_of (byte_in (record { at = m; bytes = c.args.bytes }) j) (byte_at ps j)) c.byte_index.ensures.value in
    let reach : ℕ = reach_of c.args.frames (onward c.args.at c.args.frames) d.read in
    let count : c.max-self-inside.result ≡ max d.held reach =
    c.max-self-inside.ensures ∙ ap (λ (m : ℕ). max d.held m) (c.reach-reach.ensures ∙ ap (λ (i : ℤ). reach_of c.args.frames i d.read) c.requires.end) in
    let held : held_from d.frame qs d.read c.max-self-inside.result ≡ written_over d.read c.args.at (frames_of d.frame c.args.frames c.args.bytes) (held_from d.frame ps d.read d.held) =
    ap (λ (m : ℕ). held_from d.frame qs d.read m) count
    ∙ stored_held d.frame c.args.frames ps qs d.read c.args.at d.held c.args.bytes laid.some whole c.requires.first.0 c.self.invariant.1.read_in_range.0 law laid.ends in
    let made = λ (h : List (Option Frame)). let q : Queue = record { held = h; read = d.read; write = c.args.end; hold = d.hold; prebuf = d.prebuf } in q in
    subst (λ (v : HeldQueue). made (held_from d.frame qs d.read c.max-self-inside.result) ≡ queue_with stored v.queue c.args.at (frames_of v.frame c.args.frames c.args.bytes)) c.self.view_is
    (ap made held ∙ ap (λ (i : ℤ). record q { held = written_over d.read c.args.at (frames_of d.frame c.args.frames c.args.bytes) (held_from d.frame ps d.read d.held); write = i })
    (c.requires.end ∙ ap (onward c.args.at) (sym (length_frames d.frame c.args.frames c.args.bytes))))
