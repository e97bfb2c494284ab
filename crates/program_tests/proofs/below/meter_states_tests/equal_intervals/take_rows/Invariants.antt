use Rattle.meter_states.specs.Lawful.{IsLawful}
use Rattle.program_tests.proofs.below.meter_states_tests.equal_intervals.take_rows.Given as goal

abbrev pub invariant-loop-events : goal.invariant-loop-events
invariant-loop-events g l = IsLawful l.tables l.seal l.core

abbrev pub invariant-loop-event : goal.invariant-loop-event
invariant-loop-event g l = IsLawful l.tables l.seal l.core
