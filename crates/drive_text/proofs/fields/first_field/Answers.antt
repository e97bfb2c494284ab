use Rattle.drive_text.proofs.Blanks.{first_field_by}
use Rattle.drive_text.proofs.fields.first_field.Goals as goal

pub returns : goal.returns
returns c = first_field_by (λ r. r.now) c.args.bytes.now c.split_at_byte.result.0.now c.split_at_byte.result.1
    c.split_at_byte.ensures.before c.split_at_byte.ensures.after
