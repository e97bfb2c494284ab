-- The dates of a leap year and their places.
use Rattle.std.proofs.Common.{[], ℕ, ◌+◌, ◌-◌, ◌<◌, ◌↔◌, ◌∙◌, ◌∷◌, ◌≡◌, ◌≤◌, ◌⊎◌, List, None, Some, ap, arith, get_or}
use Rattle.std.proofs.Common.{inl, inr, length, refl, subst, suc, sum, sym, take, true, zero}
use Rattle.std.proofs.lemmas.{Bool.{cases_lt, le-ltb, lt-ltb}, List.Sums.{sum_by-cons}}
use Rattle.taxi_units.specs.Calendar.{IsLeapYearDate, date_from, date_of_place, date_place, month_lengths}

-- the months from `month` on, which have these lengths, have this date, `days` days after the first of `month`
pub record IsFrom (month : ℕ) (lengths : List ℕ) (days : ℕ) (later date : ℕ) : Type 0 where
  pub months : ℕ
  pub later_is : later ≡ month + months
  pub within : months < length lengths
  pub date_in : (1 ≤ date) × (date ≤ get_or lengths months 0)
  pub days_are : sum (take months lengths) + (date - 1) ≡ days

sum-cons : (x : ℕ) (xs : List ℕ) → sum (x ∷ xs) ≡ x + sum xs
sum-cons x xs = sum_by-cons (λ n. n) x xs

-- a date in the first month, and one in a later month
from_first : (month x : ℕ) (xs : List ℕ) (days : ℕ) → days < x → date_from month (x ∷ xs) days ≡ Some (month, days + 1)
from_first month x xs days lt = rw (lt-ltb days x lt) refl

from_later : (month x : ℕ) (xs : List ℕ) (days : ℕ) → x ≤ days
    → date_from month (x ∷ xs) days ≡ date_from (month + 1) xs (days - x)
from_later month x xs days le = rw (le-ltb days x le) refl

same_pair : (a b : ℕ × ℕ) → Some a ≡ Some b → (a.0 ≡ b.0) × (a.1 ≡ b.1)
same_pair a b e =
    let same : a ≡ b = cc in
    (ap (λ (p : ℕ × ℕ). p.0) same, ap (λ (p : ℕ × ℕ). p.1) same)

one_later : (month x : ℕ) (xs : List ℕ) (days later date : ℕ) → x ≤ days → IsFrom (month + 1) xs (days - x) later date
    → IsFrom month (x ∷ xs) days later date
one_later month x xs days later date le h = record {
  months = suc h.months;
  later_is = omega (arith, h.later_is);
  within = omega (arith, h.within);
  date_in = h.date_in;
  days_are = omega (arith, h.days_are, sum-cons x (take h.months xs));
}

-- the date that is found lies the number of days later for which it was looked
from_sound : (month : ℕ) (lengths : List ℕ) (days later date : ℕ) → date_from month lengths days ≡ Some (later, date)
    → IsFrom month lengths days later date
from_sound month [] days later date e = absurd cc
from_sound month (x ∷ xs) days later date e =
    elim (cases_lt days x) [
      | inl lt ↦
          let same = same_pair (month, days + 1) (later, date) (sym (from_first month x xs days lt) ∙ e) in
          record {
            months = 0;
            later_is = omega (arith, same);
            within = omega arith;
            date_in = omega (arith, same);
            days_are = omega (arith, same);
          }
      | inr le ↦ one_later month x xs days later date le
          (from_sound (month + 1) xs (days - x) later date (sym (from_later month x xs days le) ∙ e))
    ]

-- and it is the one that lies there
from_complete : (month : ℕ) (lengths : List ℕ) (days later date months : ℕ) → later ≡ month + months
    → months < length lengths → (1 ≤ date) × (date ≤ get_or lengths months 0)
    → sum (take months lengths) + (date - 1) ≡ days → date_from month lengths days ≡ Some (later, date)
from_complete month [] days later date months is within date_in days_are = absurd (omega arith)
from_complete month (x ∷ xs) days later date zero is within date_in days_are =
    let here : days < x = omega (arith, date_in, days_are) in
    let later_is : month ≡ later = omega arith in
    let date_is : days + 1 ≡ date = omega (arith, date_in, days_are) in
    from_first month x xs days here ∙ rw (later_is, date_is) refl
from_complete month (x ∷ xs) days later date (suc months) is within date_in days_are =
    let sums = sum-cons x (take months xs) in
    let le : x ≤ days = omega (arith, sums, days_are) in
    from_later month x xs days le ∙ from_complete (month + 1) xs (days - x) later date months (omega arith)
    (omega arith) date_in (omega (arith, sums, days_are))

-- no date is found exactly beyond the last
from_none : (month : ℕ) (lengths : List ℕ) (days : ℕ) → sum lengths ≤ days → date_from month lengths days ≡ None
from_none month [] days beyond = refl
from_none month (x ∷ xs) days beyond =
    let sums = sum-cons x xs in
    from_later month x xs days (omega arith) ∙ from_none (month + 1) xs (days - x) (omega arith)

from_some : (month : ℕ) (lengths : List ℕ) (days : ℕ) → date_from month lengths days ≡ None → sum lengths ≤ days
from_some month [] days e = omega arith
from_some month (x ∷ xs) days e =
    elim (cases_lt days x) [
      | inl lt ↦ let found = from_first month x xs days lt in absurd cc
      | inr le ↦
          omega (arith, sum-cons x xs, from_some (month + 1) xs (days - x) (sym (from_later month x xs days le) ∙ e))
    ]

-- a date's place leads back to it
pub dates_have_places : (month date place : ℕ) → (date_of_place place ≡ Some (month, date))
    ↔ (IsLeapYearDate month date × (date_place month date ≡ place))
dates_have_places month date place = (
  λ e.
      let h = from_sound 1 (month_lengths true) place month date e in
      let back : month - 1 ≡ h.months = omega (arith, h.later_is) in
      let dates = rw (← back) at h.date_in in
      (((omega (arith, h.later_is), omega (arith, h.later_is, h.within)), dates.0, dates.1), rw (← back) at h.days_are),
  λ h.
      from_complete 1 (month_lengths true) place month date (month - 1) (omega (arith, h.0.0)) (omega (arith, h.0.0))
      (h.0.1, h.0.2) h.1,
)

-- a place has no date exactly beyond the 366 of a leap year
pub places_have_dates : (place : ℕ) → (date_of_place place ≡ None) ↔ (366 ≤ place)
places_have_dates place = (from_some 1 (month_lengths true) place, from_none 1 (month_lengths true) place)

-- the first months, and one more
sum-more : (xs : List ℕ) (months later : ℕ) → months < later → later ≤ length xs
    → sum (take months xs) + get_or xs months 0 ≤ sum (take later xs)
sum-more xs months zero lt le = absurd (omega arith)
sum-more [] months (suc later) lt le = absurd (omega arith)
sum-more (x ∷ xs) zero (suc later) lt le = omega (arith, sum-cons x (take later xs))
sum-more (x ∷ xs) (suc months) (suc later) lt le = omega (
  arith,
  sum-cons x (take months xs),
  sum-cons x (take later xs),
  sum-more xs months later (omega arith) (omega arith),
)

-- months in order have their dates in order
months_in_order : (month date later other : ℕ) → IsLeapYearDate month date → IsLeapYearDate later other → month < later
    → date_place month date < date_place later other
months_in_order month date later other h k lt =
    omega (
      arith,
      h.1,
      h.2,
      h.0,
      k.0,
      sum-more (month_lengths true) (month - 1) (later - 1) (omega (arith, h.0)) (omega (arith, k.0)),
    )

-- month and date are in the order of their places
pub dates_in_order : (month date later other : ℕ) → IsLeapYearDate month date → IsLeapYearDate later other
    → (date_place month date < date_place later other) ↔ ((month < later) ⊎ ((month ≡ later) × (date < other)))
dates_in_order month date later other h k = (
  λ lt.
      elim (cases_lt month later) [
        | inl before ↦ inl before
        | inr from ↦
            elim (cases_lt later month) [
              | inl after ↦ absurd (omega (arith, months_in_order later other month date k h after))
              | inr upto ↦
                  let same : month ≡ later = omega arith in
                  let lt₂ : date_place later date < date_place later other =
                  subst (λ (m : ℕ). date_place m date < date_place later other) same lt in
                  inr (same, omega arith)
            ]
      ],
  λ order.
      elim order [
        | inl before ↦ months_in_order month date later other h k before
        | inr there ↦
            subst (λ (m : ℕ). date_place month date < date_place m other) there.0 (omega (arith, there.1, h.1))
      ],
)
