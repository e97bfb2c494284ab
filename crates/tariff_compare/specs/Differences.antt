-- Rules: what differs first between two tariffs.
use Rattle.{std.specs.{Option.{option_or}, Prelude.{option_map, true}}, tariff_compare.specs.Common.{zones_of}}
use Rattle.std.specs.Prelude.{[], ℕ, ◌==◌, ◌∷◌, Bool, List, None, Option, Some, false, find, if◌then◌else◌, not}
use Rattle.drive_modes.specs.declared.meterage.Rounding.{Rounding, TheVariants.{Ahead, Behind}}
use Rattle.tariff_compare.specs.Common.{ChoiceKind, Decimals, Difference, Differs, In, MeterContext, Positions, Rounded}
use Rattle.tariff_compare.specs.Common.{Step, Supplement, Tree, Zones, display_step, positions_of, supplement_of}
use Rattle.tariff_compare.specs.{Searches.{first_met_by}, Sides.{SideParts, difference_by, side_of}}
use Rattle.tariff_check.specs.declared.values.Supplement as supplements

-- two roundings are the same if both are behind or both ahead
abbrev pub is_same_rounding : Rounding → Rounding → Bool
is_same_rounding Behind Behind = true
is_same_rounding Ahead Ahead = true
is_same_rounding one other = false

-- two supplements are the same if there are none, or both have the same amount and may be had as often
abbrev pub is_same_supplement : Option supplements.Supplement → Option supplements.Supplement → Bool
is_same_supplement None None = true
is_same_supplement (Some s) (Some r) = if s.amount == r.amount then s.max == r.max else false
is_same_supplement one other = false

-- supplements have the numbers 1 to 16
abbrev pub supplement_numbers : List ℕ
supplement_numbers = 1 ∷ 2 ∷ 3 ∷ 4 ∷ 5 ∷ 6 ∷ 7 ∷ 8 ∷ 9 ∷ 10 ∷ 11 ∷ 12 ∷ 13 ∷ 14 ∷ 15 ∷ 16 ∷ []

-- the first supplement that differs is that of the lowest number
abbrev pub other_supplement : (t u : Tree) → Option ℕ
other_supplement t u =
    find (λ number. not (is_same_supplement (supplement_of t.lines number) (supplement_of u.lines number)))
    supplement_numbers

-- what differs first in the frame of two tariffs is the decimals, the display step, its rounding, the positions, the
-- zones, the supplement of the lowest number, or nothing
abbrev pub frame_difference : (t u : Tree) → Option Difference
frame_difference t u =
    if not (t.decimals == u.decimals) then Some Decimals
    else (if not ((display_step t).0 == (display_step u).0) then Some Step
    else (if not (is_same_rounding (display_step t).1 (display_step u).1) then Some Rounded
    else (if not (positions_of t.lines == positions_of u.lines) then Some Positions
    else (if not (zones_of t.lines == zones_of u.lines) then Some Zones
    else option_map Supplement (other_supplement t u)))))

-- what differs in a context that was found is told by the tables
abbrev pub part_in : (one other : SideParts) → Option MeterContext → Option Difference
part_in one other None = None
part_in one other (Some m) = option_map (λ (kind : ChoiceKind). In kind m) (difference_by one other m)

-- what differs first in the contexts of a meter, by the tables of the tariffs; the law `differences_are_first` says
-- that nothing differs in an earlier one
abbrev pub context_difference : (one other : SideParts) → Option Difference
context_difference one other = part_in one other (first_met_by one other Differs)

-- what differs first between two tariffs under a constant is what does in their frame, or else in a context
abbrev pub difference_of : (t u : Tree) (k : ℕ) → Option Difference
difference_of t u k = option_or (frame_difference t u) (context_difference (side_of t k) (side_of u k))
