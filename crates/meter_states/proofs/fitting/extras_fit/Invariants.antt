use Rattle.std.proofs.Common.{◌+◌, ◌↔◌, ◌≤◌, drop}
use Rattle.meter_states.{specs.Supplements.{supplement_in}, proofs.Amounts.{AddUp}}
use Rattle.meter_states.proofs.fitting.extras_fit.Given as goal

abbrev pub invariant-loop-place : goal.invariant-loop-place
invariant-loop-place g l =
    (AddUp (supplement_in l.tables) 1 l.trip.extras l.trip.extras_sum
    ↔ AddUp (supplement_in l.tables) (l.place + 1) (drop l.place l.trip.extras) l.left)
    × (l.steps ≤ l.initial.steps + l.place)
