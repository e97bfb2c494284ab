-- The days of the grid: they are in order, and for each day there is one that is like it and no later.
use Rattle.{std.specs.List.{list_any}, tariff_compare.specs.Grids.{day_at, day_in, days_until, is_alike}}
use Rattle.std.proofs.Common.{[], ℕ, ◌++◌, ◌+◌, ◌-◌, ◌<◌, ◌||◌, ◌∷◌, ◌≡◌, ◌≤◌, ◌⊎◌, Bool, List, ap, arith, false}
use Rattle.std.proofs.Common.{get_or, if◌then◌else◌, inl, inr, length, length-append, map, refl, subst, suc, sym, true}
use Rattle.std.proofs.{Common.{zero}, lemmas.{Bool.{cases_lt, false≢true, Decides.{nat_tests}}, List.{length-map}}}
use Rattle.tariff_compare.{specs.Common.{Day, IsFromTo, TableParts}, proofs.Days.{days_none, next_day}}
use Rattle.tariff_compare.specs.Contexts.{day_place}

-- ---- places of days

pub day_at_place : (place : ℕ) → place < 73051 → IsFromTo 10956 84006 (day_at place)
day_at_place place lt = (grind (arith, nat_tests), grind (arith, nat_tests))

pub place_of_day : (day : ℕ) → IsFromTo 10956 84006 day → (place : ℕ) × (place < 73051) × (day_at place ≡ day)
place_of_day day within =
    elim (cases_lt day 20454) [
      | inl before ↦ (day + 52597, omega arith, grind (arith, nat_tests))
      | inr from ↦ (day - 20454, omega arith, grind (arith, nat_tests))
    ]

-- a later place is that of a later day in the order of days
pub places_rise : (place later : ℕ) → place < later → later < 73051
    → day_place (day_at place) < day_place (day_at later)
places_rise place later lt few =
    elim (cases_lt later 63553) [
      | inl early ↦ grind (arith, nat_tests)
      | inr late ↦
          elim (cases_lt place 63553) [ inl early ↦ grind (arith, nat_tests) | inr also ↦ grind (arith, nat_tests) ]
    ]

-- ---- the days that are kept

-- a day is among others
abbrev pub IsOneOfDays : Day → List Day → Type 0
IsOneOfDays d [] = ⊥
IsOneOfDays d (e ∷ es) = (d ≡ e) ⊎ IsOneOfDays d es

kept_left : (d : Day) (ds es : List Day) → IsOneOfDays d ds → IsOneOfDays d (ds ++ es)
kept_left d [] es h = absurd h
kept_left d (x ∷ ds) es (inl e) = inl e
kept_left d (x ∷ ds) es (inr h) = inr (kept_left d ds es h)

kept_end : (d : Day) (ds : List Day) → IsOneOfDays d (ds ++ d ∷ [])
kept_end d [] = inl refl
kept_end d (x ∷ ds) = inr (kept_end d ds)

kept_either : (d e : Day) (ds : List Day) → IsOneOfDays d (ds ++ e ∷ []) → IsOneOfDays d ds ⊎ (d ≡ e)
kept_either d e [] (inl h) = inr h
kept_either d e [] (inr h) = absurd h
kept_either d e (x ∷ ds) (inl h) = inl (inl h)
kept_either d e (x ∷ ds) (inr h) = elim (kept_either d e ds h) [ inl l ↦ inl (inr l) | inr r ↦ inr r ]

-- if one more day is put behind, those there stay, and no other comes
with_kept : (d e : Day) (ds : List Day) (b : Bool) → IsOneOfDays d ds → IsOneOfDays d (if b then ds else ds ++ e ∷ [])
with_kept d e ds true h = h
with_kept d e ds false h = kept_left d ds (e ∷ []) h

with_only : (d e : Day) (ds : List Day) (b : Bool) → IsOneOfDays d (if b then ds else ds ++ e ∷ [])
    → IsOneOfDays d ds ⊎ (d ≡ e)
with_only d e ds true h = inl h
with_only d e ds false h = kept_either d e ds h

-- each day that is kept is the one at an earlier place
pub kept_place : (one other : TableParts) (count : ℕ) (d : Day) → IsOneOfDays d (days_until one other count)
    → (place : ℕ) × (place < count) × (d ≡ day_in one other (day_at place))
kept_place one other zero d h = absurd (subst (IsOneOfDays d) (days_none one other) h)
kept_place one other (suc count) d h =
    let e = day_in one other (day_at count) in
    let ds = days_until one other count in
    elim (with_only d e ds (list_any (λ x. is_alike x e) ds) (subst (IsOneOfDays d) (next_day one other count) h)) [
      | inl there ↦ let is = kept_place one other count d there in (is.0, omega (arith, is.1), is.2)
      | inr same ↦ (count, omega arith, same)
    ]

alike_there : (e : Day) (ds : List Day) → list_any (λ x. is_alike x e) ds ≡ true
    → (d : Day) × IsOneOfDays d ds × (is_alike d e ≡ true)
alike_there e [] h = absurd (false≢true h)
alike_there e (x ∷ ds) h = by (is_alike x e) refl h (λ more. alike_there e ds more)
  where
    by : (b : Bool) → is_alike x e ≡ b → (b || list_any (λ x. is_alike x e) ds) ≡ true
        → (list_any (λ x. is_alike x e) ds ≡ true → (d : Day) × IsOneOfDays d ds × (is_alike d e ≡ true))
        → (d : Day) × IsOneOfDays d (x ∷ ds) × (is_alike d e ≡ true)
    by true is more later = (x, inl refl, is)
    by false is more later = let there = later more in (there.0, inr there.1, there.2)

-- a day is the one at a place, or is like it
abbrev pub IsLike : Day → Day → Type 0
IsLike d e = (d ≡ e) ⊎ (is_alike d e ≡ true)

-- for each place there is a day that is like the one there and no later
pub kept_like : (one other : TableParts) (count place : ℕ) → place < count → count ≤ 73051
    → (d : Day) × IsOneOfDays d (days_until one other count) × (day_place d.number ≤ day_place (day_at place))
    × IsLike d (day_in one other (day_at place))
kept_like one other zero place lt few = absurd (omega arith)
kept_like one other (suc count) place lt few =
    let e = day_in one other (day_at count) in
    let ds = days_until one other count in
    elim (cases_lt place count) [
      | inl before ↦
          let is = kept_like one other count place before (omega arith) in (
            is.0,
            subst (IsOneOfDays is.0) (sym (next_day one other count))
                (with_kept is.0 e ds (list_any (λ x. is_alike x e) ds) is.1),
            is.2,
            is.3,
          )
      | inr from ↦
          let here : place ≡ count = omega arith in
          let last = at_count (list_any (λ x. is_alike x e) ds) refl in (
            last.0,
            subst (IsOneOfDays last.0) (sym (next_day one other count)) last.1,
            subst (λ (p : ℕ). day_place last.0.number ≤ day_place (day_at p)) (sym here) last.2,
            subst (λ (p : ℕ). IsLike last.0 (day_in one other (day_at p))) (sym here) last.3,
          )
    ]
  where
    at_count : (b : Bool)
        → list_any (λ x. is_alike x (day_in one other (day_at count))) (days_until one other count) ≡ b
        → (d : Day) × IsOneOfDays d
        (if b then days_until one other count else days_until one other count ++ day_in one other (day_at count) ∷ [])
        × (day_place d.number ≤ day_place (day_at count)) × IsLike d (day_in one other (day_at count))
    at_count true is =
        let there = alike_there (day_in one other (day_at count)) (days_until one other count) is in
        let place = kept_place one other count there.0 there.1 in
        let number : there.0.number ≡ day_at place.0 = ap (λ (d : Day). d.number) place.2 in
        let less : day_place there.0.number < day_place (day_at count) =
        rw number (places_rise place.0 count place.1 (omega arith)) in
        (there.0, there.1, omega (arith, less), inr there.2)
    at_count false is = (
      day_in one other (day_at count),
      kept_end (day_in one other (day_at count)) (days_until one other count),
      omega arith,
      inl refl,
    )

-- ---- in order

-- days are in the order of days if each comes after those before it
abbrev pub AreRisingDays : List ℕ → Type 0
AreRisingDays days = (i j : ℕ) → i < j → j < length days → day_place (get_or days i 0) < day_place (get_or days j 0)

-- a day is below each of some
abbrev IsBelowAll : Day → List Day → Type 0
IsBelowAll d [] = Unit {0}
IsBelowAll d (e ∷ es) = (day_place d.number < day_place e.number) × IsBelowAll d es

-- each day is below those after it
abbrev Rises : List Day → Type 0
Rises [] = Unit {0}
Rises (d ∷ ds) = IsBelowAll d ds × Rises ds

below_end : (d e : Day) (ds : List Day) → IsBelowAll d ds → day_place d.number < day_place e.number
    → IsBelowAll d (ds ++ e ∷ [])
below_end d e [] all lt = (lt, tt)
below_end d e (x ∷ ds) all lt = (all.0, below_end d e ds all.1 lt)

rises_end : (e : Day) (ds : List Day) → Rises ds
    → ((d : Day) → IsOneOfDays d ds → day_place d.number < day_place e.number) → Rises (ds ++ e ∷ [])
rises_end e [] rises all = (tt, tt)
rises_end e (x ∷ ds) rises all =
    (below_end x e ds rises.0 (all x (inl refl)), rises_end e ds rises.1 (λ d there. all d (inr there)))

rises_with : (e : Day) (ds : List Day) (b : Bool) → Rises ds
    → ((d : Day) → IsOneOfDays d ds → day_place d.number < day_place e.number) → Rises (if b then ds else ds ++ e ∷ [])
rises_with e ds true rises all = rises
rises_with e ds false rises all = rises_end e ds rises all

days_rise : (one other : TableParts) (count : ℕ) → count ≤ 73051 → Rises (days_until one other count)
days_rise one other zero few = subst Rises (sym (days_none one other)) tt
days_rise one other (suc count) few =
    let e = day_in one other (day_at count) in
    let ds = days_until one other count in
    subst Rises (sym (next_day one other count))
    (rises_with e ds (list_any (λ x. is_alike x e) ds) (days_rise one other count (omega arith))
    (λ d there.
    let place = kept_place one other count d there in
    let number : d.number ≡ day_at place.0 = ap (λ (d : Day). d.number) place.2 in
    rw number (places_rise place.0 count place.1 (omega arith))))

above_at : (d : Day) (ds : List Day) (i : ℕ) → IsBelowAll d ds → i < length ds
    → day_place d.number < day_place (get_or (map (λ (x : Day). x.number) ds) i 0)
above_at d [] i below within = absurd (omega arith)
above_at d (e ∷ ds) zero below within = below.0
above_at d (e ∷ ds) (suc i) below within = above_at d ds i below.1 (omega arith)

rising_at : (ds : List Day) → Rises ds → AreRisingDays (map (λ (x : Day). x.number) ds)
rising_at [] rises i j lt within = absurd (omega arith)
rising_at (d ∷ ds) rises i zero lt within = absurd (omega arith)
rising_at (d ∷ ds) rises zero (suc j) lt within =
    above_at d ds j rises.0 (omega (arith, within, length-map ds (λ (x : Day). x.number)))
rising_at (d ∷ ds) rises (suc i) (suc j) lt within = rising_at ds rises.1 i j (omega arith) (omega arith)

-- the days of the grid are in the order of days
pub days_rising : (one other : TableParts) → AreRisingDays (map (λ (x : Day). x.number) (days_until one other 73051))
days_rising one other = rising_at (days_until one other 73051) (days_rise one other 73051 (omega arith))

-- they are no more than there are places
pub days_few : (one other : TableParts) (count : ℕ) → length (days_until one other count) ≤ count
days_few one other zero = rw (days_none one other) (omega arith)
days_few one other (suc count) =
    let e = day_in one other (day_at count) in
    let ds = days_until one other count in
    rw (next_day one other count) (by (list_any (λ x. is_alike x e) ds) (days_few one other count))
  where
    by : (b : Bool) → length (days_until one other count) ≤ count → length
        (if b then days_until one other count else days_until one other count ++ day_in one other (day_at count) ∷ [])
        ≤ suc count
    by true few = omega (arith, few)
    by false few =
        omega (arith, few, length-append (days_until one other count) (day_in one other (day_at count) ∷ []))
