-- What a look-up finds in numbers that don't fall.
use Rattle.{std.specs.List.{list_any}, tariff_check.specs.Cuts.{most_cuts}}
use Rattle.std.proofs.Common.{ℕ, ◌+◌, ◌-◌, ◌<◌, ◌^◌, ◌∙◌, ◌≡◌, ◌≤◌, List, arith, eqb, false, get_or, inl, inr, length}
use Rattle.std.proofs.{Common.{min, suc, sym, zero}, lemmas.Bool.{cases_eq, cases_lt, eq-eqb, ne_eqb}}
use Rattle.std.proofs.lemmas.List.{Elements.{All-from_get_or}, Folds.{list_any_at, list_any_none}}
use Rattle.tariff_calendar.specs.{Common.{Dimension, MonthDay}, Lists.{IsNotFalling, count_at_most, most_reads}}
use Rattle.tariff_calendar.proofs.Counts.{IsNotFalling-le, count_at_most-above, count_at_most-below}
use Rattle.tariff_calendar.proofs.Counts.{count_at_most-le-length}

-- if none is at most the value, it isn't among them
pub none_found : (v : ℕ) (xs : List ℕ) → IsNotFalling xs → count_at_most v xs ≡ 0 → list_any (λ x. eqb x v) xs ≡ false
none_found v xs ordered none =
    list_any_none (λ x. eqb x v) xs (All-from_get_or (λ x. eqb x v ≡ false) xs 0
    (λ i within. ne_eqb (get_or xs i 0) v
    (λ same. let after = count_at_most-above v xs i ordered (omega arith) within in omega arith)))

-- and if some are, it is among them exactly if the last of them is it
pub last_found : (v last : ℕ) (xs : List ℕ) → IsNotFalling xs → 0 < count_at_most v xs
    → last ≡ get_or xs (count_at_most v xs - 1) 0 → eqb last v ≡ list_any (λ x. eqb x v) xs
last_found v last xs ordered some is =
    let place = count_at_most v xs - 1 in
    let within : place < length xs = omega (arith, count_at_most-le-length v xs) in
    let at_most : get_or xs place 0 ≤ v = count_at_most-below v xs place ordered (omega arith) in
    elim (cases_eq last v) [
      | inl same ↦ eq-eqb last v same
          ∙ sym (list_any_at (λ x. eqb x v) xs place 0 within (eq-eqb (get_or xs place 0) v (sym is ∙ same)))
      | inr other ↦
          ne_eqb last v other ∙ sym (list_any_none (λ x. eqb x v) xs (All-from_get_or (λ x. eqb x v ≡ false) xs 0
          (λ i inside.
          elim (cases_lt place i) [
            | inl later ↦ let after = count_at_most-above v xs i ordered (omega arith) inside in
                ne_eqb (get_or xs i 0) v (λ same. omega arith)
            | inr earlier ↦ let before = IsNotFalling-le xs i place ordered (omega arith) within in
                ne_eqb (get_or xs i 0) v (λ same. other (omega arith))
          ])))
    ]

-- the reads of a look-up are enough for as many cuts as there may be
pub enough_reads : (dimension : Dimension) (width : ℕ) → width ≤ most_cuts dimension → width < 2 ^ most_reads dimension
enough_reads MonthDay width few = omega arith
enough_reads dimension width few = omega arith

-- a look-up that reads a list at all reads once at least if there is something to read
pub at_least : (n old new : ℕ) → old ≤ new → (0 < n → old + 1 ≤ new) → old + min 1 n ≤ new
at_least zero old new kept least = omega arith
at_least (suc n) old new kept least = let read = least (omega arith) in omega arith
