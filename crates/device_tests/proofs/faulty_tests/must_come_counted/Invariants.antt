use Rattle.device_tests.proofs.faulty_tests.must_come_counted.Given as goal

abbrev pub ghosts-must_come : goal.ghosts-must_come
ghosts-must_come a = record { name = a.blank.name; parts = a.blank.parts }
