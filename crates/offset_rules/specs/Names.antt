-- Rules: the words of changes.
use Rattle.std.specs.Prelude.{[], ℕ, ◌-◌, ◌∷◌, ◌≡◌, ◌≤◌, List, codes, length, slice_index_or}

-- the names of the numbers 1 to 5 of a change are `first`, `second`, `third`, `fourth` and `last`, which say which of
-- its weekdays in the month is meant
abbrev pub number_names : List (List ℕ)
number_names = codes "first" ∷ codes "second" ∷ codes "third" ∷ codes "fourth" ∷ codes "last" ∷ []

-- the names of the months 1 to 12, January to December, are their first three letters, `jan` to `dec`
abbrev pub month_names : List (List ℕ)
month_names =
    codes "jan" ∷ codes "feb" ∷ codes "mar" ∷ codes "apr" ∷ codes "may" ∷ codes "jun"
    ∷ codes "jul" ∷ codes "aug" ∷ codes "sep" ∷ codes "oct" ∷ codes "nov" ∷ codes "dec" ∷ []

-- the name of a number is the one at its place in a list of names, counted from 1
abbrev pub name_of : (names : List (List ℕ)) → (number : ℕ) → List ℕ
name_of names number = slice_index_or names (number - 1) []

-- a text is the name of a number if the list has a name for the number, and that is the text
abbrev pub IsName : (names : List (List ℕ)) → (number : ℕ) → (text : List ℕ) → Type 0
IsName names number text = (1 ≤ number) × (number ≤ length names) × (text ≡ name_of names number)
