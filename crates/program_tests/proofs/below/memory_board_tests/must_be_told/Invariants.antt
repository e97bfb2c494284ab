use Rattle.program_tests.proofs.below.memory_board_tests.must_be_told.Given as goal

abbrev pub ghosts-called : goal.ghosts-called
ghosts-called a = record { name = a.blank.name; parts = a.blank.parts }
