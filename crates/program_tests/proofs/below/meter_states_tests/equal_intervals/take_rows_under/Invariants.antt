use Rattle.program_tests.proofs.below.meter_states_tests.equal_intervals.take_rows_under.Given as goal

abbrev pub ghosts-take_rows : goal.ghosts-take_rows
ghosts-take_rows g a = record { name = a.blank.name; parts = a.blank.parts }
