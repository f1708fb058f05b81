use Rattle.std.proofs.Common.{map}
use Rattle.px_core_cell.specs.Boxes.{boxes_of}
use Rattle.tests_core_cell.proofs.tests.threads.among_eight.Given as goal

abbrev pub ghosts-in_eight-L-Ledger : goal.ghosts-in_eight-L-Ledger
ghosts-in_eight-L-Ledger g a = record { name = a.blank.name; parts = a.blank.parts }

-- the seats of one test, over the core and the mailboxes of its scene
abbrev pub ghosts-in_eight-L-Seats : goal.ghosts-in_eight-L-Seats
ghosts-in_eight-L-Seats g a = record { all = a.blank.parts; began = a.core.state; boxes = map boxes_of a.ends.items }
