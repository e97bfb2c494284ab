use Rattle.drive_modes.proofs.Bursts.{gate_counts_the_sum}
use Rattle.drive_modes.proofs.gate.a_gate_counts_the_sum.Goals as goal

pub returns : goal.returns
returns c = gate_counts_the_sum
