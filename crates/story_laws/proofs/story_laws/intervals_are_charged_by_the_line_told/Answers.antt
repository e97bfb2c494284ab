use Rattle.story_laws.proofs.Lines.{lines_told}
use Rattle.story_laws.proofs.story_laws.intervals_are_charged_by_the_line_told.Goals as goal

pub returns : goal.returns
returns c = lines_told
