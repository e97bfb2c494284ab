use Rattle.std.proofs.Common.{refl}
use Rattle.drive_text.proofs.state.State.fail.Goals as goal

pub returns-clause-line : goal.returns-clause-line
returns-clause-line c = refl
