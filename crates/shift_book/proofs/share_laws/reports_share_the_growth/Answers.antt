use Rattle.shift_book.proofs.Reported.{reports_share_the_growth}
use Rattle.shift_book.proofs.share_laws.reports_share_the_growth.Goals as goal

pub returns : goal.returns
returns c = reports_share_the_growth
