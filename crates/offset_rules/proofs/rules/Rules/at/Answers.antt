use Rattle.std.proofs.Common.{ℕ, ℤ, ◌∙◌, ◌≡◌, Bool, FitsSigned, ap, arith, false, if◌then◌else◌, negsuc, pos, sym, true}
use Rattle.std.proofs.{Common.{w32}, lemmas.Int.{fits_signed_from_abs, ints, to_z-of_z}}
use Rattle.offset_rules.specs.{Changes.{second_of_change}, declared.rules.Change.{Change}}
use Rattle.offset_rules.specs.{Common.{CalendarDate, IsOffset}, Rule.{Rule}, Summer.{is_summer, offset_by, year_of}}
use Rattle.offset_rules.proofs.rules.Rules.at.Goals as goal

fits : (offset : ℤ) → IsOffset offset → FitsSigned w32 offset
fits (pos n) is = fits_signed_from_abs w32 (pos n) (omega (arith, ints, is.1))
fits (negsuc n) is = fits_signed_from_abs w32 (negsuc n) (omega (arith, ints, is.0))

-- the offset is given by the two changes of the second's year
given : (rule : Rule) (second year begins ends : ℕ) (summer b : Bool) → year ≡ year_of second
    → begins ≡ second_of_change year rule.begin → ends ≡ second_of_change year rule.end
    → summer ≡ is_summer begins ends second → summer ≡ b
    → (if b then rule.summer else rule.standard) ≡ offset_by rule second
unfolding offset_by
given rule second year begins ends summer b years begin end is test =
    let changes : is_summer begins ends second
    ≡ is_summer (second_of_change (year_of second) rule.begin) (second_of_change (year_of second) rule.end) second =
    ap (λ (n : ℕ). is_summer n ends second) begin
    ∙ ap (λ (n : ℕ). is_summer (second_of_change year rule.begin) n second) end
    ∙ ap (λ (y : ℕ). is_summer (second_of_change y rule.begin) (second_of_change y rule.end) second) years in
    ap (λ (x : Bool). if x then rule.summer else rule.standard) (sym test ∙ (is ∙ changes))

-- a rule by its parts
abbrev of_parts : (standard summer : ℤ) (begin end : Change) → Rule
of_parts standard summer begin end = record { standard = standard; summer = summer; begin = begin; end = end }

pub returns-then-is_summer-clause-value : goal.returns-then-is_summer-clause-value
returns-then-is_summer-clause-value c =
    let inside = c.self.inside in
    let kept = to_z-of_z w32 inside.summer (fits inside.summer c.self.invariant.summer) in
    rw (← c.self.view_is) (kept ∙ given (of_parts inside.standard inside.summer inside.begin inside.end) c.args.second
    c.date_of_day-year.result.year c.second_of_change-begins.result c.second_of_change-ends.result c.is_summer.result
    true (ap (λ (d : CalendarDate). d.year) c.date_of_day-year.ensures.value) c.second_of_change-begins.ensures
    c.second_of_change-ends.ensures c.is_summer.ensures c.if-is_summer.true)

pub returns-else-is_summer-clause-value : goal.returns-else-is_summer-clause-value
returns-else-is_summer-clause-value c =
    let inside = c.self.inside in
    let kept = to_z-of_z w32 inside.standard (fits inside.standard c.self.invariant.standard) in
    rw (← c.self.view_is) (kept ∙ given (of_parts inside.standard inside.summer inside.begin inside.end) c.args.second
    c.date_of_day-year.result.year c.second_of_change-begins.result c.second_of_change-ends.result c.is_summer.result
    false (ap (λ (d : CalendarDate). d.year) c.date_of_day-year.ensures.value) c.second_of_change-begins.ensures
    c.second_of_change-ends.ensures c.is_summer.ensures c.if-is_summer.false)
