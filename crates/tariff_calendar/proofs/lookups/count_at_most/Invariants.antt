use Rattle.std.proofs.Common.{◌≡◌, ◌≤◌, take}
use Rattle.tariff_calendar.specs.Lists.{count_at_most}
use Rattle.tariff_calendar.proofs.lookups.count_at_most.Given as goal

abbrev pub invariant-loop-number : goal.invariant-loop-number
invariant-loop-number l = record {
  counted : l.count ≡ count_at_most l.value (take l.number-index l.list);
  few : l.count ≤ l.number-index;
}
