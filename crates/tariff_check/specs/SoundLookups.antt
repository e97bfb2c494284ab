-- Rules: what is looked up in a sound tariff.
use Rattle.std.specs.{List.{list_any}, Option.{unwrap_or}, Prelude.{ℕ, ◌&&◌, ◌==◌, Bool, List, Option, get_or}}
use Rattle.tariff_check.specs.{Common.{Context}, SoundTariff.{Choice, SoundTariff, conditions_of, place_of, values_of}}
use Rattle.tariff_check.specs.Parts.{DateNumbers, RateNumbers}

-- the place in force in a context among choices is that of the first that holds in it, counted from 0, if one does
abbrev pub place_in_force : {V : Type 0} → List (Choice V) → Context → Option ℕ
place_in_force all x = place_of x (conditions_of all)

-- the rate in force in a context is the first that holds in it
abbrev pub rate_in_force : SoundTariff → Context → RateNumbers
rate_in_force tariff x =
    get_or (values_of tariff.rates) (unwrap_or (place_in_force tariff.rates x) 0)
    (record { a = 0; b = 0; c = 0; e = 0 })

-- the test `has_date` is true if one of some dates has a year, a month and a date of the month
abbrev pub has_date : List DateNumbers → (year month date : ℕ) → Bool
has_date dates year month date =
    list_any (λ (d : DateNumbers). (d.year == year) && ((d.month == month) && (d.date == date))) dates
