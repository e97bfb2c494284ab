use Rattle.std.proofs.Common.{◌∙◌, List, ap, get_or}
use Rattle.verify_bench.specs.Common.{RateNumbers}
use Rattle.verify_bench.proofs.lookups.rate_at.Goals as goal

pub returns-clause-value : goal.returns-clause-value
returns-clause-value c =
    c.value_at.ensures
    ∙ ap (λ (values : List RateNumbers). get_or values c.args.place (record { a = 0; b = 0; c = 0; e = 0 }))
    c.rates.ensures.value.values
