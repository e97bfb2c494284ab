use Rattle.pocket_meter.proofs.main.Given as goal

abbrev pub ghosts-carry : goal.ghosts-carry
ghosts-carry a = record { name = a.blank.name; parts = a.blank.parts }
