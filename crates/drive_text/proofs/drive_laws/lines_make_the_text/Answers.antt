use Rattle.drive_text.proofs.Laws as law
use Rattle.drive_text.proofs.drive_laws.lines_make_the_text.Goals as goal

pub returns : goal.returns
returns c = law.lines_make_the_text
