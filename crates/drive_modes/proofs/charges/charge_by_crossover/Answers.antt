use Rattle.{std.proofs.Common.{refl}, drive_modes.proofs.Crossover.{charge-above, charge-below, charge-greater}}
use Rattle.drive_modes.proofs.charges.charge_by_crossover.Goals as goal

pub returns : goal.returns
returns c = record { below = charge-below; above = charge-above; greater = charge-greater; both = λ w p. refl }
