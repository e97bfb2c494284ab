use Rattle.seal_record.proofs.ParamRanges.{said_in_ranges}
use Rattle.seal_record.proofs.text_laws.parameters_are_in_their_ranges.Goals as goal

pub returns : goal.returns
returns c = said_in_ranges
