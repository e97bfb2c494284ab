-- The rows of sections, one after another.
use Rattle.{std.specs.List.{range_with_len, slice_get}, tariff_compile.specs.Tables.{TableParts}}
use Rattle.std.proofs.Common.{[], ℕ, ◌++◌, ◌-◌, ◌<◌, ◌∙◌, ◌∷◌, ◌≡◌, ◌≤◌, Bool, List, Some, ap, arith, false, get_or}
use Rattle.std.proofs.Common.{if◌then◌else◌, length, length-append, ltb, map, refl, suc, true, zero}
use Rattle.std.proofs.lemmas.{Bool.{ltb-false, ltb-true}, Option.{slice_get-get_or}}
use Rattle.std.proofs.lemmas.List.FromFn.{get_or-map-range_with_len, length-map-range_with_len}
use Rattle.tariff_compile.specs.Rows.{Section, all_rows, count_of, row_count, row_in, row_text, rows_of, sections}

-- a row among some, or among those after them
at_front : (xs ys : List (List ℕ)) (i : ℕ) → i < length xs → get_or (xs ++ ys) i [] ≡ get_or xs i []
at_front [] ys i h = absurd (omega arith)
at_front (x ∷ xs) ys zero h = refl
at_front (x ∷ xs) ys (suc i) h = at_front xs ys i (omega arith)

at_back : (xs ys : List (List ℕ)) (i : ℕ) → length xs ≤ i → get_or (xs ++ ys) i [] ≡ get_or ys (i - length xs) []
at_back [] ys i h = ap (λ n. get_or ys n []) (omega arith)
at_back (x ∷ xs) ys zero h = absurd (omega arith)
at_back (x ∷ xs) ys (suc i) h = at_back xs ys i (omega arith) ∙ ap (λ n. get_or ys n []) (omega arith)

-- there are as many rows as their sections have
length-rows_of : (all : List Section) → length (rows_of all) ≡ count_of all
length-rows_of [] = refl
length-rows_of (section ∷ more) =
    omega (
      arith,
      length-append (map section.row (range_with_len 0 section.count)) (rows_of more),
      length-map-range_with_len section.row 0 section.count,
      length-rows_of more,
    )

-- a row is one of a section, or the one at its place among those of the sections behind it
section_found : (section : Section) (rest : List (List ℕ)) (other : List ℕ) (i : ℕ)
    → (section.count ≤ i → get_or rest (i - section.count) [] ≡ other)
    → get_or (map section.row (range_with_len 0 section.count) ++ rest) i []
    ≡ (if ltb i section.count then section.row i else other)
section_found section rest other i next = by_place (ltb i section.count) refl
  where
    by_place : (b : Bool) → ltb i section.count ≡ b
        → get_or (map section.row (range_with_len 0 section.count) ++ rest) i [] ≡ (if b then section.row i else other)
    by_place true e =
        let here = ltb-true _ _ e in
        at_front (map section.row (range_with_len 0 section.count)) rest i
        (omega (arith, here, length-map-range_with_len section.row 0 section.count))
        ∙ get_or-map-range_with_len section.row 0 section.count i i [] here (omega arith)
    by_place false e =
        let past = ltb-false _ _ e in
        let size = length-map-range_with_len section.row 0 section.count in
        at_back (map section.row (range_with_len 0 section.count)) rest i (omega (arith, past, size))
        ∙ (ap (λ n. get_or rest (i - n) []) size ∙ next past)

-- each is the row that is found section by section
row_found : (all : List Section) (i : ℕ) → i < count_of all → get_or (rows_of all) i [] ≡ row_in all i
row_found [] i within = absurd (omega arith)
row_found (section ∷ more) i within =
    section_found section (rows_of more) (row_in more (i - section.count)) i
    (λ past. row_found more (i - section.count) (omega (arith, within, past)))

pub length-all_rows : (tables : TableParts) → length (all_rows tables) ≡ row_count tables
length-all_rows tables = length-rows_of (sections tables)

-- and so a row is the one at its place among all
pub row_text-at : (tables : TableParts) (i : ℕ) → i < row_count tables
    → slice_get (all_rows tables) i ≡ Some (row_text tables i)
row_text-at tables i within =
    slice_get-get_or (all_rows tables) i [] (omega (arith, length-all_rows tables))
    ∙ ap Some (row_found (sections tables) i within)
