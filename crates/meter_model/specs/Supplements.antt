-- Rules: the supplements of a trip, and how often each was added.
use Rattle.std.specs.Prelude.{[], ℕ, ◌*◌, ◌+◌, ◌==◌, ◌∷◌, List, None, Option, Some, count_by, map, suc, sum, zero}
use Rattle.taxi_units.specs.Test.{◌&◌, Test, at_most, no_test}
use Rattle.meter_model.specs.Common.{SoundTariff, Supplement, supplement_numbered}

-- the amount of a supplement that may be none is its own, and 0 for none
abbrev pub amount_in : Option Supplement → ℕ
amount_in None = 0
amount_in (Some supplement) = supplement.amount

-- a hiring may have a supplement, which may be none, as often as the supplement says, and 0 times for none
abbrev pub most_in : Option Supplement → ℕ
most_in None = 0
most_in (Some supplement) = supplement.max

-- the amount of a list of supplements, told by their numbers, is the sum of what the tariff says of each
abbrev pub amounts_of : SoundTariff → List ℕ → ℕ
amounts_of tariff numbers = sum (map (λ number. amount_in (supplement_numbered tariff.supplements number)) numbers)

-- the times of a number in a list are how often it stands there
abbrev pub times : ℕ → List ℕ → ℕ
times number numbers = count_by (λ n. n == number) numbers

-- the counts of `many` numbers, from `first` on, are how often each of them stands in a list
unfoldable pub counts_from : (many first : ℕ) → List ℕ → List ℕ
counts_from zero first numbers = []
counts_from (suc many) first numbers = times first numbers ∷ counts_from many (first + 1) numbers

-- the counts of a list are how often each of the numbers 1 to 16 stands in it
abbrev pub counts_of : List ℕ → List ℕ
counts_of numbers = counts_from 16 1 numbers

-- the test of counts of the numbers from `first` on is that none is above what a hiring may have of its supplement
abbrev pub allowed_test : (supplement : ℕ → Option Supplement) → (first : ℕ) → (counts : List ℕ) → Test
allowed_test supplement first [] = no_test
allowed_test supplement first (count ∷ counts) =
    at_most count (most_in (supplement first)) & allowed_test supplement (first + 1) counts

-- counts of the numbers from `first` on are allowed if what `allowed_test` says holds
abbrev pub AreAllowed : (supplement : ℕ → Option Supplement) → (first : ℕ) → (counts : List ℕ) → Type 0
AreAllowed supplement first counts = (allowed_test supplement first counts).Fact

-- the amounts of counts, the first of which is that of the number `first`, are added up: each count times its
-- supplement's amount
abbrev pub amounts_from : (supplement : ℕ → Option Supplement) → (first : ℕ) → (counts : List ℕ) → ℕ
amounts_from supplement first [] = 0
amounts_from supplement first (count ∷ counts) =
    count * amount_in (supplement first) + amounts_from supplement (first + 1) counts
