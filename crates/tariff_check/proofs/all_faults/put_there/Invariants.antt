use Rattle.std.proofs.Common.{◌++◌, ◌≡◌, drop}
use Rattle.tariff_check.specs.AllFaults.{those_there}
use Rattle.tariff_check.proofs.all_faults.put_there.Given as goal

abbrev pub invariant-loop-fault : goal.invariant-loop-fault
invariant-loop-fault l =
    l.faults.items ++ those_there (drop l.fault-index l.some) ≡ l.initial.faults.items ++ those_there l.some
