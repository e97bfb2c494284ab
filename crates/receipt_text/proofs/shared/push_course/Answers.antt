use Rattle.{std.proofs.Common.{arith, rules}, receipt_text.proofs.Widths.{course_fits}}
use Rattle.receipt_text.proofs.shared.push_course.Goals as goal

pub returns-clause-most : goal.returns-clause-most
returns-clause-most c =
    course_fits c.args.receipt (search rules) (search rules) (search rules) (search rules) (search rules) (search rules)
    (search rules) (search rules) (search rules) (search rules)

pub unwrap-requires : goal.unwrap-requires
unwrap-requires c =
    let few = course_fits c.args.receipt (search rules) (search rules) (search rules) (search rules) (search rules)
    (search rules) (search rules) (search rules) (search rules) (search rules) in
    c.put_course.ensures.variant.1 (omega (arith, few, c.requires))
