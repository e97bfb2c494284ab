use Rattle.story_laws.proofs.Order.{stories_rise}
use Rattle.story_laws.proofs.story_laws.ticks_and_pulses_never_fall.Goals as goal

pub returns : goal.returns
returns c = stories_rise
