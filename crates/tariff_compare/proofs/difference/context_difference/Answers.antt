use Rattle.tariff_compare.proofs.difference.context_difference.Goals as goal

pub returns-clause-value : goal.returns-clause-value
returns-clause-value c = rw (c.in_ok-one.ensures, c.in_ok-other.ensures) at c.side_difference.ensures.value
