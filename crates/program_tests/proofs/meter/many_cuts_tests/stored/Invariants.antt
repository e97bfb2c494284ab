use Rattle.program_tests.proofs.meter.many_cuts_tests.stored.Given as goal

abbrev pub ghosts-counted : goal.ghosts-counted
ghosts-counted a = record { name = a.blank.name; parts = a.blank.parts }
