use Rattle.receipt_text.proofs.ShownApart.{displays_differ_by_their_fields}
use Rattle.receipt_text.proofs.grammar_laws.displays_differ_by_their_fields.Goals as goal

pub returns : goal.returns
returns c = displays_differ_by_their_fields
