use Rattle.std.proofs.Common.{◌++◌, ◌≡◌, drop, map}
use Rattle.tariff_commands.specs.{Common.{Unsound}, Faults.{refusal_lines}}
use Rattle.tariff_commands.proofs.faults.fault_lines.Given as goal

abbrev pub invariant-loop-fault : goal.invariant-loop-fault
invariant-loop-fault l =
    l.lines.items ++ refusal_lines (map Unsound (drop l.fault-index l.faults)) ≡ refusal_lines (map Unsound l.faults)
