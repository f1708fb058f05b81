use Rattle.px_ramp_world.proofs.playing.RampPlaying.turn.Given as goal

abbrev pub ghosts-counted : goal.ghosts-counted
ghosts-counted a = record { name = a.blank.name; parts = a.blank.parts }
