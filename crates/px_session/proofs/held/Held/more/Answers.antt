use Rattle.std.proofs.Common.{ℕ, List, Option, ◌-◌, ◌≤◌, ◌∙◌, ◌++◌, ◌≡◌, length, take, ap, sym, subst, refl, arith, length-take}
use Rattle.std.proofs.lemmas.Result.{err_from_is_err_and}
use Rattle.px_ends.specs.Visible.{IsAtEnd}
use Rattle.px_session.proofs.Buffer.{stays, came, vec_whole, whole_length, fits_behind, none_came}
use Rattle.px_session.proofs.held.Held.more.Goals as goal

pub returns-in-Bytes-clause-gives : goal.returns-in-Bytes-clause-gives
returns-in-Bytes-clause-gives g c =
    let inside = c.self.inside in
    let k = inside.to - inside.from in
    let buffer = c.deref_mut-2.result.now in
    let part = c.read.new.buffer in
    let n = c.in-Bytes.n in
    let departs = c.in-Bytes.ensures.bytes in
    let moved = c.move_to_front.new.buffer in
    let moved_length : length moved ≡ length inside.buffer.items = c.move_to_front.auto.buffer ∙ ap (length {A = ℕ}) c.deref_mut.ensures.value in
    let held_bytes : take k buffer ≡ c.args.self.now =
    stays k inside.from inside.buffer.len buffer c.make_room.new.buffer.items moved c.deref_mut.result.now inside.buffer.items c.args.self.now moved_length inside.buffer.ok.0 c.deref_mut-2.ensures.value c.in_ok-make_room.ensures.same c.move_to_front.ensures c.deref_mut.ensures.value c.self.view_is in
    let fits : k ≤ length buffer = omega (arith, c.in_ok-make_room.ensures.size, ap (length {A = ℕ}) c.deref_mut-2.ensures.value) in
    record {
      bytes = take n part;
      some = omega (arith, departs.some, departs.fit, length-take n part);
      held = came k n c.make_room.new.buffer.len c.make_room.new.buffer.items buffer part fits departs.fit c.read.auto.buffer c.deref_mut-2.ensures.value c.make_room.new.buffer.ok.0
          ∙ ap (λ (bytes : List ℕ). bytes ++ take n part) held_bytes;
      departed = departs.left;
    }

pub returns-in-End-clause-gives : goal.returns-in-End-clause-gives
returns-in-End-clause-gives g c =
    let inside = c.self.inside in
    let k = inside.to - inside.from in
    let buffer = c.deref_mut-2.result.now in
    let moved = c.move_to_front.new.buffer in
    let moved_length : length moved ≡ length inside.buffer.items = c.move_to_front.auto.buffer ∙ ap (length {A = ℕ}) c.deref_mut.ensures.value in
    let held_bytes : take k buffer ≡ c.args.self.now =
    stays k inside.from inside.buffer.len buffer c.make_room.new.buffer.items moved c.deref_mut.result.now inside.buffer.items c.args.self.now moved_length inside.buffer.ok.0 c.deref_mut-2.ensures.value c.in_ok-make_room.ensures.same c.move_to_front.ensures c.deref_mut.ensures.value c.self.view_is in
    let fits : k ≤ length buffer = omega (arith, c.in_ok-make_room.ensures.size, ap (length {A = ℕ}) c.deref_mut-2.ensures.value) in
    let held = none_came k c.make_room.new.buffer.len c.make_room.new.buffer.items buffer c.read.new.buffer c.args.self.now fits c.read.auto.buffer c.deref_mut-2.ensures.value c.make_room.new.buffer.ok.0 held_bytes in
    (record { held = held; left = c.in-End.ensures.bytes.1 }, subst (λ (left : Option (List ℕ)). IsAtEnd left) (sym c.in-End.ensures.bytes.1) c.in-End.ensures.bytes.0)

pub returns-in-Failed-clause-gives : goal.returns-in-Failed-clause-gives
returns-in-Failed-clause-gives g c =
    let inside = c.self.inside in
    let k = inside.to - inside.from in
    let buffer = c.deref_mut-2.result.now in
    let moved = c.move_to_front.new.buffer in
    let moved_length : length moved ≡ length inside.buffer.items = c.move_to_front.auto.buffer ∙ ap (length {A = ℕ}) c.deref_mut.ensures.value in
    let held_bytes : take k buffer ≡ c.args.self.now =
    stays k inside.from inside.buffer.len buffer c.make_room.new.buffer.items moved c.deref_mut.result.now inside.buffer.items c.args.self.now moved_length inside.buffer.ok.0 c.deref_mut-2.ensures.value c.in_ok-make_room.ensures.same c.move_to_front.ensures c.deref_mut.ensures.value c.self.view_is in
    let fits : k ≤ length buffer = omega (arith, c.in_ok-make_room.ensures.size, ap (length {A = ℕ}) c.deref_mut-2.ensures.value) in
    let held = none_came k c.make_room.new.buffer.len c.make_room.new.buffer.items buffer c.read.new.buffer c.args.self.now fits c.read.auto.buffer c.deref_mut-2.ensures.value c.make_room.new.buffer.ok.0 held_bytes in
    record { held = held; left = c.in-Failed.ensures.bytes }

pub invariant_of-self-in-End : goal.invariant_of-self-in-End
invariant_of-self-in-End g c =
    let k = c.self.inside.to - c.self.inside.from in
    let buffer = c.deref_mut-2.result.now in
    let long = whole_length k c.make_room.new.buffer.len c.make_room.new.buffer.items buffer c.read.new.buffer c.read.auto.buffer c.deref_mut-2.ensures.value c.make_room.new.buffer.ok.0 in
    (omega arith, omega (arith, long, c.in_ok-make_room.ensures.size, ap (length {A = ℕ}) c.deref_mut-2.ensures.value))

pub invariant_of-self-in-Failed : goal.invariant_of-self-in-Failed
invariant_of-self-in-Failed g c =
    let k = c.self.inside.to - c.self.inside.from in
    let buffer = c.deref_mut-2.result.now in
    let long = whole_length k c.make_room.new.buffer.len c.make_room.new.buffer.items buffer c.read.new.buffer c.read.auto.buffer c.deref_mut-2.ensures.value c.make_room.new.buffer.ok.0 in
    (omega arith, omega (arith, long, c.in_ok-make_room.ensures.size, ap (length {A = ℕ}) c.deref_mut-2.ensures.value))

pub invariant_of-self-in-Bytes : goal.invariant_of-self-in-Bytes
invariant_of-self-in-Bytes g c =
    let k = c.self.inside.to - c.self.inside.from in
    let buffer = c.deref_mut-2.result.now in
    let long = whole_length k c.make_room.new.buffer.len c.make_room.new.buffer.items buffer c.read.new.buffer c.read.auto.buffer c.deref_mut-2.ensures.value c.make_room.new.buffer.ok.0 in
    let inside : k ≤ length buffer = omega (arith, c.in_ok-make_room.ensures.size, ap (length {A = ℕ}) c.deref_mut-2.ensures.value) in
    (omega arith, omega (arith, long, fits_behind k c.in-Bytes.n buffer c.read.new.buffer inside c.in-Bytes.ensures.bytes.fit c.read.auto.buffer))

pub invariant_of-self : goal.invariant_of-self
invariant_of-self g c = (omega arith, c.in_err-make_room.ensures.size)

pub make_room-requires : goal.make_room-requires
make_room-requires g c =
    let inside = c.self.inside in
    let moved = c.move_to_front.new.buffer in
    let moved_length : length moved ≡ length inside.buffer.items = c.move_to_front.auto.buffer ∙ ap (length {A = ℕ}) c.deref_mut.ensures.value in
    let whole = ap (length {A = ℕ}) (vec_whole inside.buffer.len moved inside.buffer.items moved_length inside.buffer.ok.0) in
    omega (arith, whole, moved_length, c.self.invariant.1)

pub returns-in_err-make_room-clause-gives : goal.returns-in_err-make_room-clause-gives
returns-in_err-make_room-clause-gives g c =
    let inside = c.self.inside in
    let k = inside.to - inside.from in
    let made = c.make_room.new.buffer.items in
    let moved = c.move_to_front.new.buffer in
    let moved_length : length moved ≡ length inside.buffer.items = c.move_to_front.auto.buffer ∙ ap (length {A = ℕ}) c.deref_mut.ensures.value in
    let count : k - 0 ≡ k = omega arith in
    let held_bytes : take k made ≡ c.args.self.now =
    stays k inside.from inside.buffer.len made made moved c.deref_mut.result.now inside.buffer.items c.args.self.now moved_length inside.buffer.ok.0 refl c.in_err-make_room.ensures.same c.move_to_front.ensures c.deref_mut.ensures.value c.self.view_is in
    let p = err_from_is_err_and c.from_residual.result c.from_residual.ensures.1 in
    rw (p.1) (record { held = ap (λ (m : ℕ). take m made) count ∙ held_bytes; left = refl })
