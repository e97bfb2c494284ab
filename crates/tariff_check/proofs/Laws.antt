-- The laws of the public empty functions.
use Rattle.std.proofs.Common.{ℕ, ◌<◌, ◌↔◌, ◌≡◌, All, List, None, Some, length}
use Rattle.tariff_check.specs.Common.{ChoiceKind, Context, Line, Tree, at_hiring, choice_place, initial_place}
use Rattle.tariff_check.specs.{Common.{rate_place}, Measure.{IsLeastCommonMultiple, measure_of, measures_of}}
use Rattle.tariff_check.specs.Faults.{IsSound, fault_of}
use Rattle.tariff_check.specs.Kinds.{initial_part, initials_of, part_of, rate_part, rates_of, said_by}
use Rattle.tariff_check.proofs.{CommonMeasure.{least_of_some}, FaultStages.{none_if_sound, sound_if_none}}
use Rattle.tariff_check.proofs.DefaultLines.{choice_always, choice_there, default_initial, default_rate}
pub use Rattle.tariff_check.proofs.AllFaults.{first_named as all_faults_begin_with_the_first-first}
pub use Rattle.tariff_check.proofs.Amounts.{fit_initial as hirings_begin_with_first_lines-fit}
pub use Rattle.tariff_check.proofs.Amounts.{has_amounts as hirings_begin_with_first_lines-amounts}
pub use Rattle.tariff_check.proofs.CommonMeasure.{sound_measures as measures_are_least-sound}
pub use Rattle.tariff_check.proofs.CutOrder.{each_in_order as cuts_are_in_order-numbers}
pub use Rattle.tariff_check.proofs.RateMeasures.{of_rate_in_force as measures_are_least-in_force}
pub use Rattle.tariff_check.proofs.SoundParts.{sound_parts as sound_tariffs_have_sound_parts-parts}
pub use Rattle.tariff_check.proofs.Supplements.{none_of_other_numbers as supplements_are_numbered_to_16}

pub sound_tariffs_have_sound_parts-none : (t : Tree) → (fault_of t ≡ None) ↔ IsSound t
sound_tariffs_have_sound_parts-none t = (sound_if_none t, none_if_sound t)

pub measures_are_least-least : (lines : List Line) → All (λ n. 0 < n) (measures_of lines)
    → IsLeastCommonMultiple (measures_of lines) (measure_of lines)
measures_are_least-least lines some = least_of_some (measures_of lines) some

pub lines_that_hold_are_there-rate : (t : Tree) (x : Context) → IsSound t
    → (place : ℕ) × (rate_place t x ≡ Some place) × (place < length (rates_of t.lines))
lines_that_hold_are_there-rate t x sound = choice_always rate_part t x (default_rate t sound)

pub lines_that_hold_are_there-initial : (t : Tree) (x : Context) → IsSound t
    → (place : ℕ) × (initial_place t x ≡ Some place) × (place < length (initials_of t.lines))
lines_that_hold_are_there-initial t x sound = choice_always initial_part t (at_hiring x) (default_initial t sound)

pub lines_that_hold_are_there-there : (kind : ChoiceKind) (t : Tree) (x : Context) (place : ℕ)
    → choice_place (part_of kind) t x ≡ Some place → place < length (said_by kind t.lines)
lines_that_hold_are_there-there kind = choice_there (part_of kind)
