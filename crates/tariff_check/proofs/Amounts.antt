-- What a hiring begins with is what the lines that hold first say.
use Rattle.std.{specs.List.{slice_get}, proofs.{Common.{length, refl}, lemmas.Option.{slice_get-get_or}}}
use Rattle.std.proofs.Common.{ℕ, ◌<◌, ◌∷◌, ◌≡◌, ◌≤◌, All, List, MatchOption, None, Option, Some, add-one, arith, get_or}
use Rattle.tariff_check.specs.{Amounts.{HasAmountsOf, IsFitInitial, initial_by, place_number}, Common.{minimum_place}}
use Rattle.tariff_check.specs.Common.{Context, Initial, IsWritable, Minimum, Tree, at_hiring, largest_amount}
use Rattle.tariff_check.specs.{Faults.{IsSound}, Sound.{IsSoundInitial}}
use Rattle.tariff_check.specs.Parts.{InitialNumbers, initial_part, initials_of, minimum_part, minimums_of}
use Rattle.tariff_check.proofs.{DefaultLines.{choice_always, choice_there, default_initial}, SoundParts.{sound_parts}}

no_fee : InitialNumbers
no_fee = record { amount = 0; covers = 0 }

minimum_said : (minimums : List ℕ) (o : Option ℕ) → ((place : ℕ) → o ≡ Some place → place < length minimums)
    → MatchOption o (get_or (0 ∷ minimums) (place_number o) 0 ≡ 0)
    (λ n. slice_get minimums n ≡ Some (get_or (0 ∷ minimums) (place_number o) 0))
minimum_said minimums None there = refl
minimum_said minimums (Some place) there = rw add-one (slice_get-get_or minimums place 0 (there place refl))

pub has_amounts : (t : Tree) (x : Context) → IsSound t → HasAmountsOf t x (initial_by t x)
unfolding no_fee
has_amounts t x sound =
    let always = choice_always initial_part t (at_hiring x) (default_initial t sound) in
    record {
      place = always.0;
      fee = get_or (initials_of t.lines) always.0 no_fee;
      first = always.1;
      there = slice_get-get_or (initials_of t.lines) always.0 no_fee always.2;
      amount = rw always.1 refl;
      covers = rw always.1 refl;
      minimum = minimum_said (minimums_of t.lines) (minimum_place t x) (choice_there minimum_part t (at_hiring x));
    }

few_by : (minimums : List ℕ) (o : Option ℕ) → All (λ amount. amount ≤ largest_amount) minimums
    → ((place : ℕ) → o ≡ Some place → place < length minimums)
    → get_or (0 ∷ minimums) (place_number o) 0 ≤ largest_amount
few_by minimums None all there = omega arith
few_by minimums (Some place) all there = rw add-one (all place 0 (there place refl))

pub fit_initial : (t : Tree) (x : Context) → IsWritable t → IsSound t → IsFitInitial (initial_by t x)
unfolding no_fee
fit_initial t x writable sound =
    let parts = sound_parts t writable sound in
    let always = choice_always initial_part t (at_hiring x) (default_initial t sound) in
    let fee : IsSoundInitial (get_or (initials_of t.lines) always.0 no_fee) =
    parts.choices Initial always.0 no_fee always.2 in
    record {
      amount = rw always.1 fee.amount;
      covers = rw always.1 fee.covers;
      minimum = few_by (minimums_of t.lines) (minimum_place t x) (parts.choices Minimum)
          (choice_there minimum_part t (at_hiring x));
    }
