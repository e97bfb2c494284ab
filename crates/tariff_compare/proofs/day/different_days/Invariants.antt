use Rattle.std.proofs.Common.{◌≡◌}
use Rattle.tariff_compare.specs.Grids.{days_until}
use Rattle.tariff_compare.proofs.day.different_days.Given as goal

abbrev pub invariant-loop-place : goal.invariant-loop-place
invariant-loop-place l = l.days.items ≡ days_until l.one l.other l.place
