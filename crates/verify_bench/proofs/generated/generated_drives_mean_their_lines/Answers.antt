use Rattle.verify_bench.proofs.GeneratedLaws.{generated_is_good, generated_is_short, generated_means_its_lines}
use Rattle.verify_bench.proofs.generated.generated_drives_mean_their_lines.Goals as goal

pub returns : goal.returns
returns c = record { good = generated_is_good; lines = generated_means_its_lines; short = generated_is_short }
