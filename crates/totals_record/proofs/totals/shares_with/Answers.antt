use Rattle.std.proofs.{Common.{◌+◌, ◌<◌, ◌^◌, ◌∙◌, arith, sym}, lemmas.Bool.{false≢true}}
use Rattle.totals_record.{specs.Common.{within}, proofs.Shares.{elsewhere, grown_fits, roams, shares_apart, shares_set}}
use Rattle.totals_record.proofs.totals.shares_with.Goals as goal

pub returns-then-not-closes : goal.returns-then-not-closes
returns-then-not-closes c =
    sym (shares_apart c.args.entry.now 1 c.args.shares.now
    (λ i inside. roams c.args.entry.now (1 + i) (sym c.closes.ensures ∙ c.if-not-closes.true)))

pub overflow_add-grown : goal.overflow_add-grown
overflow_add-grown c =
    let in_range =
    (within 1 c.args.entry.now.position 9).decides.0 (sym c.is_digit.ensures ∙ c.if-not-is_digit.false) in
    let below = grown_fits (λ share. share.hirings < 2 ^ 64) c.args.entry.now c.args.shares.now c.from-place.result
    (sym c.closes.ensures ∙ c.if-not-closes.false)
    (omega (arith, in_range.0, c.from-place.ensures))
    (omega (arith, in_range.0, in_range.1, c.from-place.ensures, c.told-shares)) c.requires.hirings in
    omega (arith, below)

pub overflow_add-grown-2 : goal.overflow_add-grown-2
overflow_add-grown-2 c =
    let in_range =
    (within 1 c.args.entry.now.position 9).decides.0 (sym c.is_digit.ensures ∙ c.if-not-is_digit.false) in
    let below =
    grown_fits (λ share. share.fare < 2 ^ 128) c.args.entry.now c.args.shares.now c.from-place.result
    (sym c.closes.ensures ∙ c.if-not-closes.false)
    (omega (arith, in_range.0, c.from-place.ensures))
    (omega (arith, in_range.0, in_range.1, c.from-place.ensures, c.told-shares)) c.requires.fare in
    omega (arith, below, c.from.ensures)

pub returns-then-not-is_digit : goal.returns-then-not-is_digit
returns-then-not-is_digit c =
    sym (shares_apart c.args.entry.now 1 c.args.shares.now (λ i inside. elsewhere c.args.entry.now (1 + i)
    (λ same. false≢true
    ((sym (sym c.is_digit.ensures ∙ c.if-not-is_digit.true)) ∙ (within 1 c.args.entry.now.position 9).decides.1
    (omega (arith, same), omega (arith, same, inside, c.told-shares))))))

pub returns : goal.returns
returns c =
    let in_range =
    (within 1 c.args.entry.now.position 9).decides.0 (sym c.is_digit.ensures ∙ c.if-not-is_digit.false) in
    rw c.from.ensures (sym (shares_set c.args.entry.now 1 c.args.shares.now c.from-place.result
    (sym c.closes.ensures ∙ c.if-not-closes.false)
    (omega (arith, in_range.0, c.from-place.ensures))
    (omega (arith, in_range.0, in_range.1, c.from-place.ensures, c.told-shares))))
