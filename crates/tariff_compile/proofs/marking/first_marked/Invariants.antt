use Rattle.std.{specs.List.{position_from}, proofs.Common.{◌≡◌, drop}}
use Rattle.tariff_compile.specs.Marks.{is_marked}
use Rattle.tariff_compile.proofs.marking.first_marked.Given as goal

abbrev pub invariant-loop-i : goal.invariant-loop-i
invariant-loop-i l = position_from (λ marks. is_marked marks l.place) l.i (drop l.i l.all)
    ≡ position_from (λ marks. is_marked marks l.place) 0 l.all
