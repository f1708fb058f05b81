use Rattle.px_lane_cell.proofs.turning.turn_unkept.Given as goal

abbrev pub ghosts-counted : goal.ghosts-counted
ghosts-counted g a = record { name = a.blank.name; parts = a.blank.parts }
