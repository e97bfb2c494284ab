use Rattle.c_meter.proofs.c_meter_fare.Given as goal

abbrev pub ghosts-show_drive : goal.ghosts-show_drive
ghosts-show_drive a = record { name = a.blank.name; parts = a.blank.parts }
