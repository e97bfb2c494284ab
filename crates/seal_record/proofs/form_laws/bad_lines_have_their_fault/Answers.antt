use Rattle.seal_record.proofs.FaultLaws.{bad_lines_have_their_fault}
use Rattle.seal_record.proofs.form_laws.bad_lines_have_their_fault.Goals as goal

pub returns : goal.returns
returns c = bad_lines_have_their_fault
