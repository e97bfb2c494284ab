-- Months and dates compare as their places in a leap year do.
use Rattle.std.proofs.Common.{ℕ, ◌&&◌, ◌<◌, ◌||◌, ◌∙◌, ◌≡◌, ◌≤◌, ◌⊎◌, None, Option, Some, ap, arith, eqb, false, inl}
use Rattle.std.proofs.Common.{inr, leb, ltb, refl, sym, true}
use Rattle.std.proofs.lemmas.Bool.{cases_lt, cases_order, eq-eqb, le-leb, le-ltb, lt-leb, lt-ltb, ne_eqb}
use Rattle.taxi_units.specs.Calendar.{IsLeapYearDate, date_of_place, date_place}
use Rattle.taxi_units.proofs.Laws.{dates_have_places, dates_in_order, places_have_dates}
use Rattle.tariff_tree.specs.Meaning.{is_by, is_in_dates, is_on, is_within}

-- a date that isn't after another comes by it
by_where : (a b c d : ℕ) → ((c < a) ⊎ ((c ≡ a) × (d < b)) → ⊥) → (ltb a c || (eqb a c && leb b d)) ≡ true
by_where a b c d not_after =
    elim (cases_order a c) [
      | inl same ↦
          elim (cases_lt d b) [
            | inl later ↦ absurd (not_after (inr (sym same, later)))
            | inr by ↦ rw (le-ltb a c (omega arith), eq-eqb a c same, le-leb b d by) refl
          ]
      | inr (inl before) ↦ rw (lt-ltb a c before) refl
      | inr (inr after) ↦ absurd (not_after (inl after))
    ]

-- and one that is after it doesn't
not_by_where : (a b c d : ℕ) → (c < a) ⊎ ((c ≡ a) × (d < b)) → (ltb a c || (eqb a c && leb b d)) ≡ false
not_by_where a b c d (inl after) = rw (le-ltb a c (omega arith), ne_eqb a c (λ same. omega arith)) refl
not_by_where a b c d (inr (same, later)) = rw (le-ltb a c (omega arith), eq-eqb a c (sym same), lt-leb b d later) refl

-- so dates come by one another as their places do
by_places : (a b c d : ℕ) → IsLeapYearDate a b → IsLeapYearDate c d
    → is_by (a, b) (c, d) ≡ leb (date_place a b) (date_place c d)
by_places a b c d first second =
    let order = dates_in_order c d a b second first in
    elim (cases_lt (date_place c d) (date_place a b)) [
      | inl after ↦ not_by_where a b c d (order.0 after) ∙ sym (lt-leb (date_place a b) (date_place c d) after)
      | inr by ↦ by_where a b c d (λ after. let less = order.1 after in omega arith)
          ∙ sym (le-leb (date_place a b) (date_place c d) by)
    ]

-- a range of dates holds if one of its places does
in_dates : (from_month from_date to_month to_date month date : ℕ) → IsLeapYearDate from_month from_date
    → IsLeapYearDate to_month to_date → IsLeapYearDate month date
    → is_in_dates (from_month, from_date) (to_month, to_date) (month, date)
    ≡ is_within (date_place from_month from_date) (date_place to_month to_date) (date_place month date)
in_dates from_month from_date to_month to_date month date from to it =
    rw (
      by_places from_month from_date to_month to_date from to,
      by_places from_month from_date month date from it,
      by_places month date to_month to_date it to,
    )

on_by : (from_month from_date to_month to_date place : ℕ) (o : Option (ℕ × ℕ)) → date_of_place place ≡ o
    → IsLeapYearDate from_month from_date → IsLeapYearDate to_month to_date → place ≤ 365
    → is_on (from_month, from_date) (to_month, to_date) o
    ≡ is_within (date_place from_month from_date) (date_place to_month to_date) place
on_by from_month from_date to_month to_date place None is from to in_year =
    let beyond = (places_have_dates place).0 is in
    absurd (omega arith)
on_by from_month from_date to_month to_date place (Some date) is from to in_year =
    let here = (dates_have_places date.0 date.1 place).0 is in
    in_dates from_month from_date to_month to_date date.0 date.1 from to here.0
    ∙ ap (is_within (date_place from_month from_date) (date_place to_month to_date)) here.1

-- the dates of a year are told by their places
pub on_places : (from_month from_date to_month to_date place : ℕ) → IsLeapYearDate from_month from_date
    → IsLeapYearDate to_month to_date → place ≤ 365
    → is_on (from_month, from_date) (to_month, to_date) (date_of_place place)
    ≡ is_within (date_place from_month from_date) (date_place to_month to_date) place
on_places from_month from_date to_month to_date place from to in_year =
    on_by from_month from_date to_month to_date place (date_of_place place) refl from to in_year
