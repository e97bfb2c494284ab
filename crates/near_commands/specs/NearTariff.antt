-- Rules: the tariff that has nearly the rates of another one, and a common measure.
use Rattle.std.specs.{List.{filter_map, list_all, list_any}, Prelude.{find, if◌then◌else◌, map, max, nat_le, not}}
use Rattle.{std.specs.Option.{option_map, unwrap_or}, near_commands.specs.Common.{rate_part}}
use Rattle.std.specs.Prelude.{[], ℕ, ◌&&◌, ◌++◌, ◌==◌, ◌^◌, ◌||◌, ◌∷◌, Bool, Err, List, None, Ok, Option, Result, Some}
use Rattle.tariff_check.specs.Faults.{default_faults, faults_from_cuts, line_faults, number_faults, step_faults}
use Rattle.tariff_check.specs.declared.fault.CheckFault.TheVariants.{AmountTooBig, NoCommonMeasure}
use Rattle.near_commands.specs.Common.{CheckFault, Entry, Line, Measures, RateNumbers, Tree, first_some, rate}
use Rattle.near_commands.specs.{Nearest.{measures_at, near_rate, share_for}, declared.rates.NumberedRate.{NumberedRate}}

-- an entry with other numbers, if it is a rate, keeps its condition
abbrev pub with_rate : (RateNumbers → RateNumbers) → Entry → Entry
with_rate change (rate a b c e when) =
    let r = change (record { a = a; b = b; c = c; e = e }) in rate r.a r.b r.c r.e when
with_rate change entry = entry

-- lines with other rates keep their order, their numbers and all else
abbrev pub with_rates : (RateNumbers → RateNumbers) → List Line → List Line
with_rates change lines = map (λ (l : Line). record { line = l.line; entry = with_rate change l.entry }) lines

-- the near tariff of a tariff, for measures, has near rates, and all else as it is
abbrev pub near_tariff : Measures → Tree → Tree
near_tariff m t = record { decimals = t.decimals; lines = with_rates (near_rate m) t.lines }

-- the faults of a tariff but for NoCommonMeasure, each there or not, in their order
abbrev pub other_faults : List Line → List (Option CheckFault)
other_faults ls =
    step_faults ls ++ (line_faults ls ++ (default_faults ls ++ (number_faults ls ++ faults_from_cuts ls)))

-- the test `is_moderate` is true of a rate if its amounts are at most 1,000,000
abbrev pub is_moderate : RateNumbers → Bool
is_moderate r = nat_le r.a (10 ^ 6) && nat_le r.c (10 ^ 6)

-- the test `fit` is true of rates if their near amounts for measures are all at most 1,000,000
abbrev pub fit : Measures → List RateNumbers → Bool
fit m rates = list_all (λ (r : RateNumbers). is_moderate (near_rate m r)) rates

-- the exponent of rates is the greatest of 7, 6, .. 2 at whose measures they fit, if there is one
abbrev pub exponent_of : List RateNumbers → Option ℕ
exponent_of rates = find (λ j. fit (measures_at j) rates) (7 ∷ 6 ∷ 5 ∷ 4 ∷ 3 ∷ 2 ∷ [])

-- the test `is_great` is true of a rate if one of its near amounts is above 1,000,000 at the exponent 2
abbrev pub is_great : NumberedRate → Bool
is_great r = not (is_moderate (near_rate (measures_at 2) r.rate))

-- the great line of rates is the number of the first one that is great, and 0 if none is; if they have no exponent, one
-- is, since 2 is the last that is tried
abbrev pub great_line : List NumberedRate → ℕ
great_line rates = unwrap_or (option_map (λ (r : NumberedRate). r.line) (find is_great rates)) 0

-- the test `is_lost` is true of a rate if one of its amounts isn't 0 and the near amount for measures is
abbrev pub is_lost : Measures → RateNumbers → Bool
is_lost m r =
    (not (r.a == 0) && (near_rate m r).a == 0) || (not (r.c == 0) && (near_rate m r).c == 0)

-- the rate that a line says, if it says one, has the number of the line
abbrev pub rate_in : Line → Option NumberedRate
rate_in l = option_map (λ (r : RateNumbers). record { line = l.line; rate = r }) (rate_part l.entry)

abbrev pub numbered_rates : List Line → List NumberedRate
numbered_rates lines = filter_map rate_in lines

abbrev pub numbers_of : List NumberedRate → List RateNumbers
numbers_of rates = map (λ (r : NumberedRate). r.rate) rates

-- rates are told for the measures of their exponent, unless they have none, or an amount is lost there
abbrev pub measures_by : List NumberedRate → Option ℕ → Result Measures CheckFault
measures_by rates None = Err (AmountTooBig (great_line rates))
measures_by rates (Some j) =
    if list_any (is_lost (measures_at j)) (numbers_of rates) then Err NoCommonMeasure else Ok (measures_at j)

abbrev pub measures_of_rates : List NumberedRate → Result Measures CheckFault
measures_of_rates rates = measures_by rates (exponent_of (numbers_of rates))

-- a tariff is told for the measures of its rates, unless it has another fault than NoCommonMeasure, which comes first
abbrev pub measures_unless : Option CheckFault → Result Measures CheckFault → Result Measures CheckFault
measures_unless (Some fault) measures = Err fault
measures_unless None measures = measures

abbrev pub near_measures : Tree → Result Measures CheckFault
near_measures t = measures_unless (first_some (other_faults t.lines)) (measures_of_rates (numbered_rates t.lines))

-- the share of rates for measures is the greatest one of them, and 0 if there is no rate
abbrev pub greatest_share : Measures → List RateNumbers → ℕ
greatest_share m [] = 0
greatest_share m (r ∷ rates) = max (share_for r (near_rate m r)) (greatest_share m rates)
