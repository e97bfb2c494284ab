-- Rules: the choices of a kind among lines, such as rates.
use Rattle.std.specs.{List.{filter_map}, Option.{option_map}, Prelude.{ℕ, List, None, Option, Some, map}}
use Rattle.tariff_tree.specs.{Condition.{Condition}, Tree.{Entry, Line, initial, minimum, rate, when_part}}
use Rattle.tariff_tree.specs.declared.tariff.InitialNumbers as initials
use Rattle.tariff_tree.specs.declared.tariff.RateNumbers as rates

-- a rate has an amount `a` for each `b` decimetres, and an amount `c` for each `e` tenths of a second
abbrev pub RateNumbers : Type 0
RateNumbers = rates.RateNumbers

-- an initial hire fee has an amount and what it covers
abbrev pub InitialNumbers : Type 0
InitialNumbers = initials.InitialNumbers

-- the rate part of an entry is its amounts and its measures if it is a rate, and none otherwise
abbrev pub rate_part : Entry → Option RateNumbers
rate_part (rate a b c e when) = Some (record { a = a; b = b; c = c; e = e })
rate_part _ = None

-- the initial part of an entry is its amount and its cover if it is an initial hire fee, and none otherwise
abbrev pub initial_part : Entry → Option InitialNumbers
initial_part (initial amount covers when) = Some (record { amount = amount; covers = covers })
initial_part _ = None

-- the minimum part of an entry is its amount if it is a minimum fare, and none otherwise
abbrev pub minimum_part : Entry → Option ℕ
minimum_part (minimum amount when) = Some amount
minimum_part _ = None

-- a choice has a value, the condition in which it holds, or none, and the number of its line in the text
pub record Choice (V : Type 0) : Type 0 where
  pub value : V
  pub when : Option Condition
  pub line : ℕ

-- the choice that a line gives, if it is of the kind of a part, has that part, the line's condition and its number
abbrev pub choice_in : {V : Type 0} → (Entry → Option V) → Line → Option (Choice V)
choice_in {V} part l =
    option_map (λ (value : V). record { value = value; when = when_part l.entry; line = l.line }) (part l.entry)

-- the choices of a kind among lines are those that the lines give, in order
abbrev pub choices : {V : Type 0} → (Entry → Option V) → List Line → List (Choice V)
choices part lines = filter_map (choice_in part) lines

-- the values of choices are that of each, in order
abbrev pub values_of : {V : Type 0} → List (Choice V) → List V
values_of {V} all = map (λ (c : Choice V). c.value) all

-- the conditions of choices are that of each, or none if it has none, in order
abbrev pub conditions_of : {V : Type 0} → List (Choice V) → List (Option Condition)
conditions_of {V} all = map (λ (c : Choice V). c.when) all
