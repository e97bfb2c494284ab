use Rattle.std.proofs.Common.{ℕ, ◌+◌, ◌-◌, ◌<◌, ◌^◌, ◌≡◌, ◌≤◌, ◌⊎◌, MatchOption, false, get_or, length, true}
use Rattle.taxi_units.specs.{Counted.{IsLastOf}, Halving.{EndsWithin}}
use Rattle.taxi_units.proofs.counted.Counted.at_most.Given as goal

-- the elements before `count` are at most the key, those from `end` on aren't
abbrev pub invariant-loop-count : goal.invariant-loop-count
invariant-loop-count g l = record {
  order : l.count ≤ l.end;
  end : l.end ≤ length l.self;
  counted : (place : ℕ) (other : g.row.T.Denot) → place < l.count
      → g.T.Keyed.at_most (get_or l.self place other) l.key ≡ true;
  passed : (place : ℕ) (other : g.row.T.Denot) → l.end ≤ place → place < length l.self
      → g.T.Keyed.at_most (get_or l.self place other) l.key ≡ false;
  last : MatchOption l.last (l.count ≡ 0) (IsLastOf l.self l.count);
  most : (digits : ℕ) → length l.self < 2 ^ digits → EndsWithin l.steps (l.fn.steps + digits) (l.end - l.count);
  least : (l.end - l.count ≡ length l.self) × (l.steps ≡ l.fn.steps) ⊎ (l.fn.steps + 1 ≤ l.steps);
}

abbrev pub decreases-loop-count : goal.decreases-loop-count
decreases-loop-count g l = l.end - l.count
