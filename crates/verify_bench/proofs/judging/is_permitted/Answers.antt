use Rattle.verify_bench.proofs.Permitted.{by_the_least}
use Rattle.verify_bench.proofs.judging.is_permitted.Goals as goal

pub returns-else-error-expected : goal.returns-else-error-expected
returns-else-error-expected c =
    by_the_least c.args.parts c.args.least c.args.expected c.args.read c.abs_diff-error.result c.abs_diff-error.ensures
    c.requires c.if-error-expected.false
