use Rattle.seal_record.proofs.PlainTexts.{comments_are_passed_over, comments_make_it_longer}
use Rattle.seal_record.proofs.plain_laws.comments_are_passed_over.Goals as goal

pub returns : goal.returns
returns c = record { read = comments_are_passed_over; short = comments_make_it_longer }
