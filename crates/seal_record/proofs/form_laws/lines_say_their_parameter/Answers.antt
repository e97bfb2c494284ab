use Rattle.seal_record.proofs.LineLaws.{lines_say_their_parameter}
use Rattle.seal_record.proofs.form_laws.lines_say_their_parameter.Goals as goal

pub returns : goal.returns
returns c = lines_say_their_parameter
