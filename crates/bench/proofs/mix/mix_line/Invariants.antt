use Rattle.bench.proofs.mix.mix_line.Given as goal

abbrev pub ghosts-mix : goal.ghosts-mix
ghosts-mix a = record { name = a.blank.name; parts = a.blank.parts }
