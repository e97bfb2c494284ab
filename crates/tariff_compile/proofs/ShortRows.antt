-- Texts that fit into an empty line: numbers, amounts, and the rows of sections.
use Rattle.std.{specs.List.{AllByRecursion}, proofs.lemmas.{Bool.{ltb-false, ltb-true}, Fmt.{length-decimal-le_wide}}}
use Rattle.std.proofs.Common.{[], ℕ, ◌%◌, ◌++◌, ◌+◌, ◌-◌, ◌/◌, ◌<◌, ◌^◌, ◌∷◌, ◌≡◌, ◌≤◌, Bool, List, arith, codes}
use Rattle.std.proofs.Common.{decimal, false, if◌then◌else◌, length, length-append, ltb, max, refl, suc, true, zero}
use Rattle.{std.proofs.Math.Nat.{div-le_self, mod-le}, taxi_units.proofs.Laws.{padded_numbers_fill_the_width}}
use Rattle.{taxi_units.specs.Number.{padded_text}, tariff_compile.specs.Rows.{Section, count_of, row_in}}
use Rattle.tariff_compile.specs.Common.{money_text}

-- some text, of at most 512 bytes
pub record IsShort (text : List ℕ) : Type 0 where
  pub some : 0 < length text
  pub few : length text ≤ 512

pub decimal_short : (n : ℕ) → n < 2 ^ 128 → length (decimal n) ≤ 39
decimal_short n h = length-decimal-le_wide 39 n (omega arith) (omega arith) (omega arith)

padded_short : (width n : ℕ) → n < 2 ^ 64 → length (padded_text width n) ≤ max width 20
padded_short width n h =
    let digits : length (decimal n) ≤ 20 = length-decimal-le_wide 20 n (omega arith) (omega arith) (omega arith) in
    omega (arith, padded_numbers_fill_the_width width n)

-- the text of an amount of money
pub money_short : (decimals n : ℕ) → decimals ≤ 3 → n < 2 ^ 64 → length (money_text decimals n) ≤ 60
money_short zero n few h = omega (arith, decimal_short n (omega arith))
money_short (suc d) n few h =
    let whole : length (decimal (n / 10 ^ suc d)) ≤ 39 =
    decimal_short (n / 10 ^ suc d) (omega (arith, div-le_self n (10 ^ suc d))) in
    let parts : length (padded_text (suc d) (n % 10 ^ suc d)) ≤ max (suc d) 20 =
    padded_short (suc d) (n % 10 ^ suc d) (omega (arith, mod-le n (10 ^ suc d))) in
    omega (arith, length-append (decimal (n / 10 ^ suc d)) (46 ∷ padded_text (suc d) (n % 10 ^ suc d)), whole, parts)

-- a word in front, and a text behind it
pub joined_short : (word text : List ℕ) (most : ℕ) → 0 < length word → length word ≤ 10 → length text ≤ most
    → (0 < length (word ++ text)) × (length (word ++ text) ≤ 10 + most)
joined_short word text most some few h = omega (arith, length-append word text, some, few, h)

pub joined : (a b : List ℕ) (m n : ℕ) → length a ≤ m → length b ≤ n → length (a ++ b) ≤ m + n
joined a b m n h k = omega (arith, length-append a b, h, k)

-- a blank and a number, and more behind them
pub blank_number : (n : ℕ) (rest : List ℕ) (most : ℕ) → n < 2 ^ 128 → length rest ≤ most
    → length (codes " " ++ (decimal n ++ rest)) ≤ 40 + most
blank_number n rest most h k =
    omega (arith, length-append (codes " ") (decimal n ++ rest), length-append (decimal n) rest, decimal_short n h, k)

pub blank_money : (decimals n : ℕ) (rest : List ℕ) (most : ℕ) → decimals ≤ 3 → n < 2 ^ 64 → length rest ≤ most
    → length (codes " " ++ (money_text decimals n ++ rest)) ≤ 61 + most
blank_money decimals n rest most few h k =
    omega (
      arith,
      length-append (codes " ") (money_text decimals n ++ rest),
      length-append (money_text decimals n) rest,
      money_short decimals n few h,
      k,
    )

-- a section has short rows if each of its rows is short
abbrev pub HasShortRows : Section → Type 0
HasShortRows section = (place : ℕ) → place < section.count → place < 2 ^ 64 → IsShort (section.row place)

section_short : (section : Section) (other : List ℕ) (row : ℕ) → HasShortRows section → row < 2 ^ 64
    → (section.count ≤ row → IsShort other) → IsShort (if ltb row section.count then section.row row else other)
section_short section other row short wide next = by_place (ltb row section.count) refl
  where
    by_place : (b : Bool) → ltb row section.count ≡ b → IsShort (if b then section.row row else other)
    by_place true e = short row (ltb-true _ _ e) wide
    by_place false e = next (ltb-false _ _ e)

pub row_in-short : (all : List Section) (row : ℕ) → AllByRecursion HasShortRows all → row < count_of all → row < 2 ^ 64
    → IsShort (row_in all row)
row_in-short [] row short h wide = absurd (omega arith)
row_in-short (section ∷ more) row short h wide =
    section_short section (row_in more (row - section.count)) row short.0 wide
    (λ past. row_in-short more (row - section.count) short.1 (omega (arith, h, past)) (omega (arith, wide)))
