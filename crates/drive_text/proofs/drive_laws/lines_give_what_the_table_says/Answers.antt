use Rattle.drive_text.proofs.Laws as law
use Rattle.drive_text.proofs.drive_laws.lines_give_what_the_table_says.Goals as goal

pub returns : goal.returns
returns c = law.lines_give_what_the_table_says
