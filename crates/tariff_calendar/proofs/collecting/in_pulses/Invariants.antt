use Rattle.std.proofs.Common.{◌≡◌, map, take}
use Rattle.tariff_calendar.specs.Lists.{pulses_for}
use Rattle.tariff_calendar.proofs.collecting.in_pulses.Given as goal

abbrev pub invariant-loop-decimetres : goal.invariant-loop-decimetres
invariant-loop-decimetres l = l.pulses.items ≡ map (pulses_for l.k) (take l.decimetres-index l.distances)
