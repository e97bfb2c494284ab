use Rattle.device_tests.proofs.log_tests.writes_last_counted.Given as goal

abbrev pub ghosts-writes_last : goal.ghosts-writes_last
ghosts-writes_last a = record { name = a.blank.name; parts = a.blank.parts }
