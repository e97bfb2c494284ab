use Rattle.std.proofs.{Common.{arith, refl}, lemmas.Grind.{common_steps}}
use Rattle.meter_states.proofs.TableSupplements.{extras-few}
use Rattle.meter_states.proofs.records.entry.Goals as goal

pub returns-clause-range : goal.returns-clause-range
returns-clause-range c =
    let supplements = extras-few c.args.tables.now 8640000 c.args.trip.now c.requires.range.range in
    grind (arith, common_steps)

pub fare-requires : goal.fare-requires
fare-requires c = record { range = c.requires.range.range }

pub returns-clause-value : goal.returns-clause-value
returns-clause-value c = λ s t is saved.
    let fare = c.fare.ensures.value s t is saved in
    rw (c.distance.ensures.value, c.distance-2.ensures.value, fare, is.constant, saved) refl
