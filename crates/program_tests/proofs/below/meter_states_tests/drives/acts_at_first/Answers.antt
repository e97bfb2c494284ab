use Rattle.program_tests.proofs.below.meter_states_tests.drives.acts_at_first.Goals as goal

pub resume-resumed-requires-clause-fits : goal.resume-resumed-requires-clause-fits
resume-resumed-requires-clause-fits g c = c.first.ensures.fits c.args.tables.now
