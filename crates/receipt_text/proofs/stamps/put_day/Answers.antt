use Rattle.receipt_text.proofs.Lengths.{day_len}
use Rattle.receipt_text.proofs.stamps.put_day.Goals as goal

pub returns-clause-size : goal.returns-clause-size
returns-clause-size c = day_len c.args.day c.requires.0 c.requires.1
