use Rattle.receipt_text.proofs.Bytes.{all_bytes}
use Rattle.receipt_text.proofs.parts.recall.Goals as goal

pub returns : goal.returns
returns c = record { size = c.requires; bytes = all_bytes c.args.bytes.now c.type_inv.bytes }
