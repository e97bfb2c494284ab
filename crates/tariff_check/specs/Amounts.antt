-- Rules: what a hiring begins with.
use Rattle.{std.specs.List.{slice_get}, tariff_check.specs.Parts.{InitialNumbers, initials_of, minimums_of}}
use Rattle.std.specs.{Option.{unwrap_or}, Prelude.{ℕ, ◌+◌, ◌∷◌, ◌≡◌, ◌≤◌, MatchOption, None, Option, Some, get_or}}
use Rattle.tariff_check.specs.Common.{Context, Tree, at_hiring, initial_place, largest_amount, minimum_place}
use Rattle.tariff_check.specs.SoundLookups.{place_in_force}
use Rattle.tariff_check.specs.{SoundTariff.{SoundTariff, sound_of, values_of}, declared.values.Initial.{Initial}}

-- the number of a place that may be none is one more than the place, and 0 for none
abbrev pub place_number : Option ℕ → ℕ
place_number None = 0
place_number (Some place) = place + 1

-- a hiring begins with an initial hire fee and a minimum fare
abbrev pub initial_with : InitialNumbers → (minimum : ℕ) → Initial
initial_with fee minimum = record { amount = fee.amount; covers = fee.covers; minimum = minimum }

-- the fees in force at a hiring in a context are the initial hire fee and the minimum fare that hold first at it; the
-- minimum fare is 0 if none holds
abbrev pub fees_in_force : SoundTariff → Context → Initial
fees_in_force tariff x =
    initial_with
    (get_or (values_of tariff.initials) (unwrap_or (place_in_force tariff.initials (at_hiring x)) 0)
    (record { amount = 0; covers = 0 }))
    (get_or (0 ∷ values_of tariff.minimums) (place_number (place_in_force tariff.minimums (at_hiring x))) 0)

-- by a tariff's tree, a hiring in a context begins with the fees in force at it
abbrev pub initial_by : Tree → Context → Initial
initial_by t x = fees_in_force (sound_of t) x

-- amounts are those of a context if they are of the initial hire fee and of the minimum fare that hold first at its
-- hiring; the minimum fare is 0 if none holds
pub record HasAmountsOf (t : Tree) (x : Context) (i : Initial) : Type 0 where
  pub place : ℕ
  pub fee : InitialNumbers
  pub first : initial_place t x ≡ Some place
  pub there : slice_get (initials_of t.lines) place ≡ Some fee
  pub amount : i.amount ≡ fee.amount
  pub covers : i.covers ≡ fee.covers
  pub minimum : MatchOption (minimum_place t x) (i.minimum ≡ 0)
      (λ n. slice_get (minimums_of t.lines) n ≡ Some i.minimum)

-- what a hiring begins with is fit if its fee, its cover and its minimum fare are at most 99,999,999
pub record IsFitInitial (i : Initial) : Type 0 where
  pub amount : i.amount ≤ largest_amount
  pub covers : i.covers ≤ largest_amount
  pub minimum : i.minimum ≤ largest_amount
