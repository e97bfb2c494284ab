use Rattle.std.proofs.Common.{[], ℕ, ◌++◌, ◌∙◌, ◌≡◌, List, None, ap, arith, length, subst, sym}
use Rattle.shift_book.{specs.Common.{Numbers, Shift}, proofs.ReportLines.{text_is}}
use Rattle.shift_book.{specs.MarkOrder.{Fit, numbers_in}, proofs.Reported.{reports_share_the_growth}}
use Rattle.shift_book.specs.{Report.{IsReport, report_text, shift_lines}, ShareStages.{Rise, total_of, with_shifts}}
use Rattle.shift_book.proofs.{Fewer.{fewer_drivers, fewer_shifts}, GrowthSums.{rises, total_fit, unsigned_fit}}
use Rattle.shift_book.proofs.report.shifts.Goals as goal

pub unsigned_of-unsigned-requires-clause-rise : goal.unsigned_of-unsigned-requires-clause-rise
unsigned_of-unsigned-requires-clause-rise c =
    subst (λ (n : Numbers). Rise n c.args.marks.now) (sym c.numbers_in-now.ensures.numbers)
    (rises c.args.now.now None c.args.marks.now c.requires.book)

pub unsigned_of-unsigned-requires-clause-fit : goal.unsigned_of-unsigned-requires-clause-fit
unsigned_of-unsigned-requires-clause-fit c =
    let rise = subst (λ (n : Numbers). Rise n c.args.marks.now) (sym c.numbers_in-now.ensures.numbers)
    (rises c.args.now.now None c.args.marks.now c.requires.book) in
    unsigned_fit c.numbers_in-now.result c.args.marks.now rise c.numbers_in-now.ensures.fit

pub shifts_of-requires : goal.shifts_of-requires
shifts_of-requires c =
    subst (λ (n : Numbers). Rise n c.args.marks.now) (sym c.numbers_in-now.ensures.numbers)
    (rises c.args.now.now None c.args.marks.now c.requires.book)

pub sums_of-requires : goal.sums_of-requires
sums_of-requires c =
    let rise = subst (λ (n : Numbers). Rise n c.args.marks.now) (sym c.numbers_in-now.ensures.numbers)
    (rises c.args.now.now None c.args.marks.now c.requires.book) in
    let listed = c.as_slice.ensures.value ∙ c.in_ok-shifts.ensures in
    subst (λ (l : List Shift). Fit (total_of l)) (sym listed)
    (total_fit c.numbers_in-now.result c.args.marks.now rise c.numbers_in-now.ensures.fit)

pub returns-clause-text : goal.returns-clause-text
returns-clause-text c =
    text_is c.args.decimals c.numbers_in-now.result c.args.marks.now c.in_ok-shifts.shifts.items
    c.in_ok-sums.sums.entries
    c.unsigned_of-unsigned.result c.growth_of-growth.result
    c.new-report.result.items c.push_shifts.new.report.items c.push_drivers.new.report.items
    c.push_line.new.report.items c.push_line-2.new.report.items
    c.in_ok-shifts.ensures (c.in_ok-sums.ensures.entries ∙ ap (with_shifts []) c.as_slice.ensures.value)
    c.unsigned_of-unsigned.ensures c.growth_of-growth.ensures c.new-report.ensures.items
    (subst (λ (l : List Shift). c.push_shifts.new.report.items ≡ c.new-report.result.items
    ++ shift_lines c.args.decimals 1 l) c.as_slice-2.ensures.value c.in_ok-push_shifts.ensures.text)
    c.in_ok-push_drivers.ensures.text c.in_ok-push_line.ensures.text c.in_ok-push_line-2.ensures.text
    ∙ ap (λ (n : Numbers). report_text c.args.decimals n c.args.marks.now) c.numbers_in-now.ensures.numbers

pub returns-clause-meaning : goal.returns-clause-meaning
returns-clause-meaning c =
    subst (λ (text : List ℕ). IsReport c.args.decimals (numbers_in c.args.now.now) c.args.marks.now text)
    (sym (returns-clause-text c))
    (reports_share_the_growth c.args.decimals c.args.now.now c.args.marks.now c.requires.book)

pub returns-clause-short : goal.returns-clause-short
returns-clause-short c = omega (
  arith,
  ap length c.in_ok-shifts.ensures,
  ap length c.in_ok-sums.ensures.entries,
  ap length c.as_slice.ensures.value,
  ap length c.as_slice-2.ensures.value,
  fewer_drivers [] c.as_slice.result.now,
  fewer_shifts c.numbers_in-now.result c.args.marks.now,
  c.new-report.ensures.len,
  c.in_ok-push_shifts.ensures.most,
  c.in_ok-push_drivers.ensures.most,
  c.in_ok-push_line.ensures.most,
  c.in_ok-push_line-2.ensures.most,
)
