use Rattle.tariff_compare.proofs.difference_lines.line_of_difference.Goals as goal

pub returns-in-In : goal.returns-in-In
returns-in-In c = rw (c.in-In.is, ← c.context_of-x.ensures) c.line_in_force.ensures
