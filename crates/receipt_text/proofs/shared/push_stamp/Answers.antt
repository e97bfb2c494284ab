use Rattle.{std.proofs.Common.{arith, rules}, receipt_text.proofs.Widths.{stamp_most}}
use Rattle.receipt_text.proofs.shared.push_stamp.Goals as goal

pub returns-clause-most : goal.returns-clause-most
returns-clause-most c =
    stamp_most c.args.stamp (search rules) (search rules) (search rules) (search rules)

pub unwrap-requires : goal.unwrap-requires
unwrap-requires c =
    let few = stamp_most c.args.stamp (search rules) (search rules) (search rules) (search rules) in
    c.put_stamp.ensures.variant.1 (omega (arith, few, c.requires))
