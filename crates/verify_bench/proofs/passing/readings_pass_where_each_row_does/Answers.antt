use Rattle.verify_bench.proofs.EachPasses.{each_passes}
use Rattle.verify_bench.proofs.passing.readings_pass_where_each_row_does.Goals as goal

pub returns : goal.returns
returns c = each_passes
