use Rattle.std.proofs.Common.{◌*◌, ◌^◌, ◌≡◌, ◌≤◌}
use Rattle.taxi_units.proofs.decimal.scaled.Given as goal

abbrev pub invariant-loop : goal.invariant-loop
invariant-loop l = record {
  scaled : l.units ≡ l.number * 10 ^ l.counter;
  small : l.units ≤ 10 ^ 12;
}
