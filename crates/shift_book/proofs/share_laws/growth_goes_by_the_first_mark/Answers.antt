use Rattle.shift_book.proofs.Reported.{growth_goes_by_the_first_mark}
use Rattle.shift_book.proofs.share_laws.growth_goes_by_the_first_mark.Goals as goal

pub returns : goal.returns
returns c = growth_goes_by_the_first_mark
