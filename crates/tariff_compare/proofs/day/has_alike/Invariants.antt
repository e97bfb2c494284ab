use Rattle.std.{specs.List.{list_any}, proofs.Common.{◌≡◌, drop}}
use Rattle.tariff_compare.specs.Grids.{is_alike}
use Rattle.tariff_compare.proofs.day.has_alike.Given as goal

abbrev pub invariant-loop-other : goal.invariant-loop-other
invariant-loop-other l =
    list_any (λ d. is_alike d l.day) (drop l.other-index l.days) ≡ list_any (λ d. is_alike d l.day) l.days
