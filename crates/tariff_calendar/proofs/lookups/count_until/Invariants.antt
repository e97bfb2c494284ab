use Rattle.std.proofs.Common.{ℕ, ◌+◌, ◌-◌, ◌<◌, ◌^◌, ◌≤◌, get_or, length}
use Rattle.taxi_units.specs.Halving.{EndsWithin}
use Rattle.tariff_calendar.proofs.lookups.count_until.Given as goal

-- the numbers before `count` are at most the value, and the one at `end` is further away
abbrev pub invariant-loop-count : goal.invariant-loop-count
invariant-loop-count g l = record {
  order : l.count ≤ l.end;
  end : l.end ≤ length l.list;
  counted : (i : ℕ) → i < l.count → get_or l.list i 0 ≤ l.value;
  next : l.end < length l.list → l.value + l.further + 1 ≤ get_or l.list l.end 0;
  kept : l.fn.steps ≤ l.steps;
  most : (digits : ℕ) → length l.list < 2 ^ digits → EndsWithin l.steps (l.fn.steps + digits) (l.end - l.count);
}

abbrev pub decreases-loop-count : goal.decreases-loop-count
decreases-loop-count g l = l.end - l.count
