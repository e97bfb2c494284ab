-- A report has no more shifts than marks, and no more drivers than shifts.
use Rattle.{std.specs.BTreeMap.{insert_entry}, shift_book.specs.ShareStages.{sum_so_far, with_shift, with_shifts}}
use Rattle.std.specs.{Ordering.{match_ordering}, declared.cmp.Ordering.{Ordering, TheVariants.{Equal, Greater, Less}}}
use Rattle.std.proofs.Common.{[], ◌+◌, ◌∷◌, ◌≤◌, Bool, List, arith, cond, false, length, length-append, true}
use Rattle.shift_book.specs.Common.{Numbers, Shift}
use Rattle.shift_book.specs.{Marks.{Signing}, Shares.{Driver, begun_by, driver_cmp, grown, next_point, plus, shifts_in}}

one_more : {K X : Type 0} (R : K → K → Ordering) (k : K) (v : X) (es : List (K × X))
    → length (insert_entry R es k v) ≤ length es + 1
one_more R k v [] = omega arith
one_more R k v (e ∷ es) = by (R k e.0) (one_more R k v es)
  where
    by : (r : Ordering) → length (insert_entry R es k v) ≤ length es + 1
        → length (match_ordering r ((k, v) ∷ e ∷ es) ((e.0, v) ∷ es) (e ∷ insert_entry R es k v)) ≤ length (e ∷ es) + 1
    by Less fewer = omega arith
    by Equal fewer = omega arith
    by Greater fewer = omega (arith, fewer)

pub fewer_drivers : (sums : List (Driver × Numbers)) (shifts : List Shift)
    → length (with_shifts sums shifts) ≤ length sums + length shifts
fewer_drivers sums [] = omega arith
fewer_drivers sums (s ∷ ss) =
    omega (
      arith,
      fewer_drivers (with_shift sums s) ss,
      one_more driver_cmp s.driver (plus (sum_so_far s.driver sums) s.growth) sums,
    )

begun_one : (mark : Signing) (next : Numbers) → length (begun_by mark next) ≤ 1
begun_one mark next = by mark.on
  where
    by : (b : Bool) → length (cond {A = List Shift} b
        ((record { driver = record { items = mark.driver }; growth = grown mark.numbers next }) ∷ []) []) ≤ 1
    by true = omega arith
    by false = omega arith

pub fewer_shifts : (now : Numbers) (marks : List Signing) → length (shifts_in now marks) ≤ length marks
fewer_shifts now [] = omega arith
fewer_shifts now (mark ∷ marks) =
    omega (
      arith,
      fewer_shifts now marks,
      begun_one mark (next_point now marks),
      length-append (begun_by mark (next_point now marks)) (shifts_in now marks),
    )
