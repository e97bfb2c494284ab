use Rattle.{std.proofs.{Common.{ℕ, arith, subst}, lemmas.Grind.{common_steps}}, meter_states.specs.Acts.{StayLawful}}
use Rattle.meter_states.proofs.meter_state.State.drop_supply.Goals as goal

pub leave_interval-requires : goal.leave_interval-requires
leave_interval-requires g c = record { lawful = (c.args.tables.now, c.requires.lawful) }

pub hold_or_close-requires-clause-lawful : goal.hold_or_close-requires-clause-lawful
hold_or_close-requires-clause-lawful g c = c.leave_interval.ensures.lawful c.args.tables.now c.requires.lawful

pub returns-clause-ranges : goal.returns-clause-ranges
returns-clause-ranges g c =
    subst (λ (n : ℕ). StayLawful c.args.tables.now n c.args.acts.now.items c.hold_or_close.new.acts.items)
    c.leave_interval.ensures.same.1 c.hold_or_close.ensures.stage.ranges

pub returns-clause-done : goal.returns-clause-done
returns-clause-done g c = grind (arith, common_steps) steps 4000000
