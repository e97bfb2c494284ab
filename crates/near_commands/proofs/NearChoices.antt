-- What a near tariff chooses in a context.
use Rattle.{std.specs.{List.{cons_option}, Option.{option_map}}, tariff_tree.specs.declared.context.Context.{Context}}
use Rattle.std.proofs.Common.{[], ℕ, ◌∙◌, ◌∷◌, ◌≡◌, List, None, Option, Some, ap, map, refl, sym}
use Rattle.tariff_tree.specs.{Choices.{minimum_part}, Meaning.{at_hiring, initial_place, minimum_place, place_of}}
use Rattle.{tariff_check.specs.Kinds.{initials_of, minimums_of}, near_commands.specs.Common.{values_of}}
use Rattle.near_commands.specs.Common.{Entry, Line, Measures, RateNumbers, Tree, choice_in, choices, conditions_of}
use Rattle.near_commands.specs.Common.{initial, initial_part, minimum, rate, rate_part, rate_place, rates_of, step_of}
use Rattle.near_commands.specs.{NearTariff.{near_tariff, with_rate, with_rates}, Nearest.{near_rate}}
use Rattle.near_commands.proofs.{AlikeEntries.{initial_when_same, rate_when_same, when_same}, OtherFaults.{alike_step}}
use Rattle.near_commands.proofs.AlikeLines.{condition_part, conditions_are_parts, parts_alike}
use Rattle.near_commands.proofs.PlainFaults.{Same, copies_alike}

pub near_rates : (t : Tree) (m : Measures) → rates_of (near_tariff m t).lines ≡ map (near_rate m) (rates_of t.lines)
near_rates t m = of_lines t.lines
  where
    of_lines : (ls : List Line) → rates_of (with_rates (near_rate m) ls) ≡ map (near_rate m) (rates_of ls)
    of_lines [] = refl
    of_lines (l ∷ ls) = by l.entry (of_lines ls)
      where
        by : (x : Entry) → rates_of (with_rates (near_rate m) ls) ≡ map (near_rate m) (rates_of ls)
            → rates_of (record { line = l.line; entry = with_rate (near_rate m) x } ∷ with_rates (near_rate m) ls)
            ≡ map (near_rate m) (rates_of (record { line = l.line; entry = x } ∷ ls))
        by (rate a b c e when) rest =
            ap (λ (rs : List RateNumbers). near_rate m (record { a = a; b = b; c = c; e = e }) ∷ rs) rest
        by x rest = rest

minimum_when_same : (f : RateNumbers → RateNumbers) (x : Entry)
    → condition_part minimum_part (with_rate f x) ≡ condition_part minimum_part x
minimum_when_same f (rate a b c e when) = refl
minimum_when_same f x = refl

-- the conditions of a kind stay
conditions_same : {V : Type 0} (f : RateNumbers → RateNumbers) (part : Entry → Option V)
    → ((x : Entry) → condition_part part (with_rate f x) ≡ condition_part part x) → (ls : List Line)
    → conditions_of (choices part (with_rates f ls)) ≡ conditions_of (choices part ls)
conditions_same f part same ls =
    conditions_are_parts part (with_rates f ls)
    ∙ parts_alike f Same (condition_part part) same ls (with_rates f ls) (copies_alike f ls)
    ∙ sym (conditions_are_parts part ls)

pub near_place : (t : Tree) (m : Measures) (x : Context) → rate_place (near_tariff m t) x ≡ rate_place t x
near_place t m x = ap (place_of x) (conditions_same (near_rate m) rate_part (rate_when_same (near_rate m)) t.lines)

pub near_initial : (t : Tree) (m : Measures) (x : Context) → initial_place (near_tariff m t) x ≡ initial_place t x
near_initial t m x =
    ap (place_of (at_hiring x)) (conditions_same (near_rate m) initial_part (initial_when_same (near_rate m)) t.lines)

pub near_minimum : (t : Tree) (m : Measures) (x : Context) → minimum_place (near_tariff m t) x ≡ minimum_place t x
near_minimum t m x =
    ap (place_of (at_hiring x)) (conditions_same (near_rate m) minimum_part (minimum_when_same (near_rate m)) t.lines)

pub near_step : (t : Tree) (m : Measures) → step_of (near_tariff m t).lines ≡ step_of t.lines
near_step t m =
    alike_step (near_rate m) Same t.lines (with_rates (near_rate m) t.lines) (copies_alike (near_rate m) t.lines)

initials_same : (f : RateNumbers → RateNumbers) (ls : List Line) → initials_of (with_rates f ls) ≡ initials_of ls
initials_same f [] = refl
initials_same f (l ∷ ls) = by l.entry (initials_same f ls)
  where
    by : (x : Entry) → initials_of (with_rates f ls) ≡ initials_of ls
        → initials_of (record { line = l.line; entry = with_rate f x } ∷ with_rates f ls)
        ≡ initials_of (record { line = l.line; entry = x } ∷ ls)
    by (rate a b c e when) rest = rest
    by (initial amount covers when) rest = ap (λ xs. record { amount = amount; covers = covers } ∷ xs) rest
    by x rest = rest

minimums_same : (f : RateNumbers → RateNumbers) (ls : List Line) → minimums_of (with_rates f ls) ≡ minimums_of ls
minimums_same f [] = refl
minimums_same f (l ∷ ls) = by l.entry (minimums_same f ls)
  where
    by : (x : Entry) → minimums_of (with_rates f ls) ≡ minimums_of ls
        → minimums_of (record { line = l.line; entry = with_rate f x } ∷ with_rates f ls)
        ≡ minimums_of (record { line = l.line; entry = x } ∷ ls)
    by (rate a b c e when) rest = rest
    by (minimum amount when) rest = ap (λ xs. amount ∷ xs) rest
    by x rest = rest

pub near_fees : (t : Tree) (m : Measures) → (initials_of (near_tariff m t).lines ≡ initials_of t.lines)
    × (minimums_of (near_tariff m t).lines ≡ minimums_of t.lines)
near_fees t m = (initials_same (near_rate m) t.lines, minimums_same (near_rate m) t.lines)
