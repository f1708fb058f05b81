use Rattle.std.proofs.Common.{map, option_map}
use Rattle.px_state.specs.State.{new_state_with}
use Rattle.px_core_cell.specs.Boxes.{boxes_of}
use Rattle.px_server.proofs.call.serve_within.Given as goal

abbrev pub ghosts-serve_made-L-Ledger : goal.ghosts-serve_made-L-Ledger
ghosts-serve_made-L-Ledger g a = record { name = a.blank.name; parts = a.blank.parts }

-- the seats of one call, over the core of its header and the mailboxes of its sinks
abbrev pub ghosts-serve_made-L-Seats : goal.ghosts-serve_made-L-Seats
ghosts-serve_made-L-Seats g a = record { all = a.blank.parts; began = new_state_with (option_map (λ name. name.now) a.source) a.header.now; boxes = map boxes_of a.made.ends.items }
