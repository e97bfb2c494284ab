use Rattle.{std.proofs.Common.{map}, tariff_check.{specs.Common.{line_of}, proofs.AllFaults.{not_great}}}
use Rattle.tariff_check.proofs.measure.has_great_measure.Goals as goal

pub returns-else-not-some_is_for_nothing : goal.returns-else-not-some_is_for_nothing
returns-else-not-some_is_for_nothing c =
    not_great (map line_of c.args.lines.now) c.some_is_for_nothing.result c.some_is_for_nothing.ensures
    c.if-not-some_is_for_nothing.false
