-- Rules: the short names of the weekdays.
use Rattle.std.specs.{List.{slice_index_or}, Prelude.{[], ℕ, ◌-◌, ◌∷◌, List, codes}}

-- the short names of the weekdays, from Monday to Sunday, are `mon`, `tue`, `wed`, `thu`, `fri`, `sat` and `sun`
abbrev pub day_names : List (List ℕ)
day_names = codes "mon" ∷ codes "tue" ∷ codes "wed" ∷ codes "thu" ∷ codes "fri" ∷ codes "sat" ∷ codes "sun" ∷ []

-- a weekday, from 1 for Monday, has the short name at its place in the list, counted from 1
abbrev pub day_name : (weekday : ℕ) → List ℕ
day_name weekday = slice_index_or day_names (weekday - 1) []
