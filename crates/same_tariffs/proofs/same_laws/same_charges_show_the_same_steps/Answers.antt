use Rattle.same_tariffs.proofs.Money.{saved-same, steps-same}
use Rattle.same_tariffs.proofs.same_laws.same_charges_show_the_same_steps.Goals as goal

pub returns : goal.returns
returns c = record { saved = saved-same; steps = steps-same }
