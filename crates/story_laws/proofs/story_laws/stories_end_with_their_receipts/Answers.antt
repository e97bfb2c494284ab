use Rattle.story_laws.proofs.Ends.{closings_have_receipts, stories_end}
use Rattle.story_laws.proofs.story_laws.stories_end_with_their_receipts.Goals as goal

pub returns : goal.returns
returns c = record { receipts = closings_have_receipts; ends = stories_end }
