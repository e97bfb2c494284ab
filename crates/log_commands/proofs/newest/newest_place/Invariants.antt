use Rattle.std.proofs.Common.{ℕ, ◌<◌, ◌≡◌, ◌⊎◌, None, get_or}
use Rattle.log_commands.specs.LogRow.{IsAtMost, IsPlaceOf}
use Rattle.log_commands.proofs.newest.newest_place.Given as goal

-- the greatest place of the entries so far
abbrev pub invariant-loop-slot : goal.invariant-loop-slot
invariant-loop-slot l = record {
  most : (slot : ℕ) → slot < l.slot → IsAtMost l.newest (get_or l.entries slot None);
  one : (l.newest ≡ 0) ⊎ ((slot : ℕ) × (slot < 256) × IsPlaceOf l.newest (get_or l.entries slot None));
}
