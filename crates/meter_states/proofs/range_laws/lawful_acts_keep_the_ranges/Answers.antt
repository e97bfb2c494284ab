use Rattle.meter_states.proofs.ActRanges.{act-keeps}
use Rattle.meter_states.proofs.range_laws.lawful_acts_keep_the_ranges.Goals as goal

pub returns : goal.returns
returns c = act-keeps
