use Rattle.meter_states.specs.Lawful.{IsLawful}
use Rattle.program_tests.proofs.below.meter_states_tests.equal_intervals.take_row.Given as goal

abbrev pub invariant-loop : goal.invariant-loop
invariant-loop g l = IsLawful l.tables l.seal l.core
