-- The drivers' sums that a report has, and the report.
use Rattle.std.proofs.Common.{[], ℕ, ◌∷◌, ◌≡◌, List, None, ap, refl}
use Rattle.shift_book.specs.{Common.{Durable, Numbers, Shift}, ShareStages.{sum_so_far, with_shift, with_shifts}}
use Rattle.shift_book.specs.{MarkOrder.{FollowOn, numbers_in}, Marks.{Signing}, Report.{IsReport, report_text}}
use Rattle.shift_book.specs.Shares.{AreOrdered, AreSums, Driver, driver_cmp, grown, growth_in, plus, shifts_in}
use Rattle.shift_book.proofs.{DriverSums.{SoFar, driver_total, none_left, none_yet, one_more}, ReportLines.{report_is}}
use Rattle.shift_book.proofs.{GrowthSums.{rises}, Inserted.{insert_found, insert_ordered, none_ordered}}

-- the sums stay in order
one_ordered : (sums : List (Driver × Numbers)) (s : Shift) → AreOrdered sums → AreOrdered (with_shift sums s)
one_ordered sums s ordered =
    insert_ordered driver_total s.driver (plus (sum_so_far s.driver sums) s.growth) sums ordered

all_ordered : (sums : List (Driver × Numbers)) (left : List Shift) → AreOrdered sums
    → AreOrdered (with_shifts sums left)
all_ordered sums [] ordered = ordered
all_ordered sums (s ∷ ss) ordered = all_ordered (with_shift sums s) ss (one_ordered sums s ordered)

-- and come to those of all shifts
all_shared : (sums : List (Driver × Numbers)) (left all : List Shift) → AreOrdered sums → SoFar sums left all
    → AreSums (with_shifts sums left) all
all_shared sums [] all ordered h = none_left sums all h
all_shared sums (s ∷ ss) all ordered h =
    all_shared (with_shift sums s) ss all (one_ordered sums s ordered)
    (one_more sums (with_shift sums s) s ss all ordered h refl
    (λ d. insert_found driver_total s.driver (plus (sum_so_far s.driver sums) s.growth) d sums))

pub reports_share_the_growth : (decimals : ℕ) (now : Durable) (marks : List Signing) → FollowOn now None marks
    → IsReport decimals (numbers_in now) marks (report_text decimals (numbers_in now) marks)
reports_share_the_growth decimals now marks follow =
    let listed = shifts_in (numbers_in now) marks in
    report_is decimals (numbers_in now) marks (all_ordered [] listed (none_ordered driver_cmp))
    (all_shared [] listed listed (none_ordered driver_cmp) (none_yet [] listed refl)) (rises now None marks follow)

pub growth_goes_by_the_first_mark : (now : Numbers) (mark other : Signing) (marks others : List Signing)
    → mark.numbers ≡ other.numbers
    → growth_in now (mark ∷ marks) ≡ growth_in now (other ∷ others)
growth_goes_by_the_first_mark now mark other marks others e = ap (λ (n : Numbers). grown n now) e
