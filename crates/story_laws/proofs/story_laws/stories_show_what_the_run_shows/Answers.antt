use Rattle.story_laws.proofs.Shown.{stories_show}
use Rattle.story_laws.proofs.story_laws.stories_show_what_the_run_shows.Goals as goal

pub returns : goal.returns
returns c = stories_show
