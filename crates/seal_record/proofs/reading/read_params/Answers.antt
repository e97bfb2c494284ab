use Rattle.seal_record.proofs.ParamRanges.{ranges_of_answer}
use Rattle.seal_record.proofs.reading.read_params.Goals as goal

pub returns-clause-ranges : goal.returns-clause-ranges
returns-clause-ranges c = ranges_of_answer c.args.text.now c.read_text.result c.read_text.ensures
