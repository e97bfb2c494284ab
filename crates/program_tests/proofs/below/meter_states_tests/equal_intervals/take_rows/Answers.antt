use Rattle.program_tests.proofs.below.meter_states_tests.equal_intervals.take_rows.Goals as goal

pub loop-events-init : goal.loop-events-init
loop-events-init g c = c.off-core.ensures.lawful _ _
