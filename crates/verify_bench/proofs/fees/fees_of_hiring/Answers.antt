use Rattle.{std.proofs.Common.{refl, subst, sym}, tariff_check.proofs.Laws.{hirings_begin_with_first_lines-fit}}
use Rattle.verify_bench.specs.{Common.{HiringFees, IsFitInitial, sound_of, tree_of}, Fees.{fees_of_hiring}}
use Rattle.verify_bench.proofs.fees.fees_of_hiring.Goals as goal

pub returns-clause-fees : goal.returns-clause-fees
returns-clause-fees c =
    let initials = c.initials-initials.ensures.value in
    let minimums = c.minimums-minimums.ensures.value in
    rw (
      c.value_at-fee.ensures,
      c.line_at.ensures,
      c.unwrap_or-initial.ensures,
      c.initial_of.ensures,
      initials.values,
      initials.numbers,
      c.amount_in.ensures,
      c.line_in.ensures,
      c.minimum_of-minimum.ensures,
      minimums.values,
      minimums.numbers,
    ) refl

pub returns-clause-fit : goal.returns-clause-fit
returns-clause-fit c =
    subst (λ (fees : HiringFees). IsFitInitial fees.amounts)
    {x = fees_of_hiring (sound_of (tree_of c.args.checked.now)) c.args.x.now} (sym (returns-clause-fees c))
    (hirings_begin_with_first_lines-fit (tree_of c.args.checked.now) c.args.x.now
    c.initials-initials.ensures.writable c.initials-initials.ensures.sound)
