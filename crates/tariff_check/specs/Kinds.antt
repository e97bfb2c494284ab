-- Rules: what is said of each kind of line.
use Rattle.{std.specs.Option.{is_some}, tariff_check.specs.Common.{supplement, values_of}}
use Rattle.std.specs.Prelude.{[], ℕ, ◌^◌, ◌||◌, ◌∷◌, ◌≤◌, Bool, List, None, Option, Some, false, nat_lt, true}
use Rattle.tariff_check.specs.Common.{ChoiceKind, Choices, Condition, Entry, Initial, IsFromTo, Line, Minimum, Rate}
use Rattle.tariff_check.specs.Common.{choices, initial, largest_amount, largest_display_step, minimum, rate, step}
use Rattle.tariff_check.specs.declared.choice.Choice as program
pub use Rattle.tariff_tree.specs.Choices.{InitialNumbers, RateNumbers, initial_part, minimum_part, rate_part}

-- what a line of a kind says is the amounts and the measures of a rate, the amount and the cover of an initial hire
-- fee, or the amount of a minimum fare
abbrev pub Said : ChoiceKind → Type 0
Said Rate = RateNumbers
Said Initial = InitialNumbers
Said Minimum = ℕ

-- the part of an entry that is of a kind is what it says, and none if it is of another kind
abbrev pub part_of : (kind : ChoiceKind) → Entry → Option (Said kind)
part_of Rate = rate_part
part_of Initial = initial_part
part_of Minimum = minimum_part

-- the entry of a kind is made of what it says and of its condition
abbrev pub entry_with : (kind : ChoiceKind) → Said kind → Option Condition → Entry
entry_with Rate r when = rate r.a r.b r.c r.e when
entry_with Initial i when = initial i.amount i.covers when
entry_with Minimum amount when = minimum amount when

-- the kind of an entry, if it is of one whose first line that holds counts
abbrev pub kind_of : Entry → Option ChoiceKind
kind_of (rate a b c e when) = Some Rate
kind_of (initial amount covers when) = Some Initial
kind_of (minimum amount when) = Some Minimum
kind_of _ = None

-- the test `is_of` is true if an entry is of a kind
abbrev pub is_of : ChoiceKind → Entry → Bool
is_of Rate (rate a b c e when) = true
is_of Initial (initial amount covers when) = true
is_of Minimum (minimum amount when) = true
is_of kind entry = false

-- the test `is_asked_amid` is true if a line of a kind can count amid a trip, and not at a hiring alone
abbrev pub is_asked_amid : ChoiceKind → Bool
is_asked_amid Rate = true
is_asked_amid kind = false

-- a fact holds of each kind if it holds of rates, of initial hire fees and of minimum fares
abbrev pub EachKind : (ChoiceKind → Type 0) → Type 0
EachKind P = P Rate × P Initial × P Minimum

-- the tests of an entry, one for each kind, are true if it has the part of that kind
abbrev pub tests_of_kinds : Entry → List Bool
tests_of_kinds entry =
    is_some (part_of Rate entry) ∷ is_some (part_of Initial entry) ∷ is_some (part_of Minimum entry) ∷ []

-- a rate is sound if its amounts are at most 1,000,000 and its measures 1 to 10^12
pub record IsSoundRate (r : RateNumbers) : Type 0 where
  pub distance_amount : r.a ≤ 10 ^ 6
  pub distance : IsFromTo 1 (10 ^ 12) r.b
  pub time_amount : r.c ≤ 10 ^ 6
  pub time : IsFromTo 1 (10 ^ 12) r.e

-- an initial hire fee is sound if its amount and its cover are at most 99,999,999
pub record IsSoundInitial (i : InitialNumbers) : Type 0 where
  pub amount : i.amount ≤ largest_amount
  pub covers : i.covers ≤ largest_amount

-- what a line of a kind says is sound if a rate or an initial hire fee is, or if a minimum fare is at most 99,999,999
abbrev pub IsSoundSaid : (kind : ChoiceKind) → Said kind → Type 0
IsSoundSaid Rate r = IsSoundRate r
IsSoundSaid Initial i = IsSoundInitial i
IsSoundSaid Minimum amount = amount ≤ largest_amount

-- the test `is_great` is true if a line has an amount that is too great: a step, an amount of a rate or a supplement
-- above 1,000,000, or an initial hire fee, its cover or a minimum fare above 99,999,999
abbrev pub is_great : Entry → Bool
is_great (step amount rounding) = nat_lt largest_display_step amount
is_great (supplement number amount most) = nat_lt (10 ^ 6) amount
is_great (rate a b c e when) = nat_lt (10 ^ 6) a || nat_lt (10 ^ 6) c
is_great (initial amount covers when) = nat_lt largest_amount amount || nat_lt largest_amount covers
is_great (minimum amount when) = nat_lt largest_amount amount
is_great entry = false

-- the lines of a kind say what each of them does, in order
abbrev pub said_by : (kind : ChoiceKind) → List Line → List (Said kind)
said_by kind lines = values_of (choices (part_of kind) lines)

-- the initial hire fees of lines are the amount and the cover of each `initial` line, in order
abbrev pub initials_of : List Line → List InitialNumbers
initials_of lines = said_by Initial lines

-- the rates of lines are the amounts and the measures of each `rate` line, in order
abbrev pub rates_of : List Line → List RateNumbers
rates_of lines = said_by Rate lines

-- the minimum fares of lines are the amount of each `minimum` line, in order
abbrev pub minimums_of : List Line → List ℕ
minimums_of lines = said_by Minimum lines

-- the choices of a kind that the program keeps
abbrev pub kept_of : (kind : ChoiceKind) → Choices → List (program.Choice (Said kind))
kept_of Rate kept = kept.rates.items
kept_of Initial kept = kept.initials.items
kept_of Minimum kept = kept.minimums.items
