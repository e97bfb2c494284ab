use Rattle.{std.proofs.Common.{sym}, drive_text.proofs.Blanks.{too_many}}
use Rattle.drive_text.proofs.fields.run_of_fields.Goals as goal

pub returns-in-Some-rest-2 : goal.returns-in-Some-rest-2
returns-in-Some-rest-2 c =
    rw (
      c.first_field.ensures,
      c.in-Some.is,
      c.first_field-2.ensures,
      c.in-Some-rest.is,
      c.first_field-3.ensures,
      c.in-Some-rest-2.is,
    )
    (sym (too_many c.first_field.result.0.now c.first_field-2.result.0.now c.first_field-3.result.0.now
    c.in-Some-rest-2.field-0.now))
