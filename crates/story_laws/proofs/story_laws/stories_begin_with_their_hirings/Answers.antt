use Rattle.story_laws.proofs.Begins.{stories_begin}
use Rattle.story_laws.proofs.story_laws.stories_begin_with_their_hirings.Goals as goal

pub returns : goal.returns
returns c = stories_begin
