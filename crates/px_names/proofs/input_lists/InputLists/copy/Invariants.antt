use Rattle.std.proofs.Common.{◌≡◌, take}
use Rattle.px_names.proofs.input_lists.InputLists.copy.Given as goal

-- the lists up to the next one were copied
abbrev pub invariant-loop-one : goal.invariant-loop-one
invariant-loop-one l = l.lists.items ≡ take l.one-index l.self.items
