use Rattle.tariff_check.proofs.Amounts.{fit_initial, has_amounts}
use Rattle.tariff_check.proofs.soundness_laws.hirings_begin_with_first_lines.Goals as goal

pub returns : goal.returns
returns c = record { amounts = has_amounts; fit = fit_initial }
