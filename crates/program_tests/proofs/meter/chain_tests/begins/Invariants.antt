use Rattle.program_tests.proofs.meter.chain_tests.begins.Given as goal

abbrev pub ghosts-counted_beginning : goal.ghosts-counted_beginning
ghosts-counted_beginning a = record { name = a.blank.name; parts = a.blank.parts }
