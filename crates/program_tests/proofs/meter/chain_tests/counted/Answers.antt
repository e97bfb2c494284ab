use Rattle.program_tests.proofs.meter.chain_tests.counted.Goals as goal

pub chain-requires-clause-sealed : goal.chain-requires-clause-sealed
chain-requires-clause-sealed g c = c.may_begin.ensures.0 c.if-may_begin.true
