use Rattle.std.proofs.Common.{arith, ◌≡◌, ◌+◌, List, ◌∷◌, length, subst, sym, ◌∙◌, ap}
use Rattle.px_state.specs.Change.{committed}
use Rattle.px_state.specs.Tables.{state_of, HasRoom}
use Rattle.px_state.proofs.commit.commit.Goals as goal

one_longer : {A : Type 0} (x : A) (rest all : List A) → all ≡ x ∷ rest → length all ≡ length rest + 1
one_longer x rest all front = rw front (omega arith)

pub apply_first-requires : goal.apply_first-requires
apply_first-requires g c =
    let rest = c.pop_front.new.self.items in
    subst (λ n. HasRoom n c.loop-change.tables) (one_longer c.in-Some.change rest c.loop-change.changes.items c.in-Some.ensures.items) c.loop-change.invariant.room

pub loop-change-init : goal.loop-change-init
loop-change-init g c = record {
  state = ap (λ l. committed (state_of c.args.tables.now) l) c.from_vec-changes.ensures.items;
  room = subst (λ l. HasRoom (length l) c.args.tables.now) (sym c.from_vec-changes.ensures.items) c.requires;
}

pub loop-change-smaller : goal.loop-change-smaller
loop-change-smaller g c = omega (arith, c.apply_first.ensures.len, one_longer c.in-Some.change c.pop_front.new.self.items c.loop-change.changes.items c.in-Some.ensures.items)

pub loop-change-preserved : goal.loop-change-preserved
loop-change-preserved g c = record {
  state = c.apply_first.ensures.state ∙ ap (λ l. committed (state_of c.loop-change.tables) l) (sym c.in-Some.ensures.items) ∙ c.loop-change.invariant.state;
  room = c.apply_first.ensures.room;
}
