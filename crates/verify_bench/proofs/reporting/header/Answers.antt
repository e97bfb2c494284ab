use Rattle.verify_bench.proofs.reporting.header.Goals as goal

pub returns : goal.returns
returns c = c.row_with.ensures
