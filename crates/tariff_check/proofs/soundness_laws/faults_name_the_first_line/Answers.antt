use Rattle.tariff_check.proofs.FirstLine.{first_line_is, nowhere_is, smallest_line}
use Rattle.tariff_check.proofs.soundness_laws.faults_name_the_first_line.Goals as goal

pub returns : goal.returns
returns c = record { named = first_line_is; smallest = smallest_line; none = nowhere_is }
