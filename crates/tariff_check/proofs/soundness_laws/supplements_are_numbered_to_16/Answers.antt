use Rattle.tariff_check.proofs.Supplements.{none_of_other_numbers}
use Rattle.tariff_check.proofs.soundness_laws.supplements_are_numbered_to_16.Goals as goal

pub returns : goal.returns
returns c = none_of_other_numbers
