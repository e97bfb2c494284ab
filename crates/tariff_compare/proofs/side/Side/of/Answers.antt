use Rattle.{std.proofs.Common.{List, ap}, tariff_compare.specs.Common.{RateNumbers, tables_of, tree_of}}
use Rattle.tariff_compare.specs.Sides.{SideParts}
use Rattle.tariff_compare.proofs.side.Side.of.Goals as goal

pub returns : goal.returns
returns c =
    let t = tree_of c.args.checked.now in
    let side : List RateNumbers → SideParts = λ rates. record { tables = tables_of t c.args.k; rates = rates } in
    rw (c.in_ok-compile.ensures.value, c.in_ok-all_rates.ensures) (ap side c.rates.ensures.value.values)
