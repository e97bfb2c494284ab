use Rattle.tariff_compare.proofs.uses.line_uses.Goals as goal

pub returns-clause-value : goal.returns-clause-value
returns-clause-value c = rw (c.choice_lines.ensures, c.in_ok-side.ensures) at c.uses.ensures.value
