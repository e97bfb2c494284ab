-- The laws of the public empty functions.
use Rattle.std.proofs.Common.{ℕ, ◌<◌, ◌≡◌}
use Rattle.tariff_check.{specs.Kinds.{part_of}, proofs.Laws.{sound_tariffs_have_sound_parts-parts}}
use Rattle.tariff_check.specs.declared.choice.ChoiceKind.{ChoiceKind}
use Rattle.tariff_calendar.specs.Common.{Context, IsSound, IsWritable, Tree, at_hiring, choice_place}
use Rattle.tariff_calendar.specs.{Lists.{count_at_most, lists_of}, Range.{IsInRangeOf, IsSameCell}}
use Rattle.tariff_calendar.proofs.{Lists.{no_distance_at_hiring, no_time_at_hiring}, SameCell.{same_cell_first}}
pub use Rattle.tariff_calendar.proofs.Counts.{count_at_most-above as counts_are_places-after}
pub use Rattle.tariff_calendar.proofs.Counts.{count_at_most-below as counts_are_places-before}
pub use Rattle.tariff_calendar.proofs.Counts.{count_at_most-le-length as counts_are_places-few}
pub use Rattle.tariff_calendar.proofs.Holidays.{days_are_dates as holidays_are_dates-dates}
pub use Rattle.tariff_calendar.proofs.Holidays.{some_days as holidays_are_dates-some}
pub use Rattle.tariff_calendar.proofs.Insertions.{length-with_each as lists_are_ordered-few}
pub use Rattle.tariff_calendar.proofs.Lists.{lists_ordered as lists_are_ordered-ordered}

pub cuts_decide_conditions-first : (kind : ChoiceKind) (t : Tree) (k : ℕ) (x y : Context) → IsWritable t → IsSound t
    → IsInRangeOf t k x → IsInRangeOf t k y → IsSameCell (lists_of t k) x y
    → (choice_place (part_of kind) t x ≡ choice_place (part_of kind) t y)
    × (choice_place (part_of kind) t (at_hiring x) ≡ choice_place (part_of kind) t (at_hiring y))
cuts_decide_conditions-first kind = same_cell_first (part_of kind)

pub lists_are_ordered-hiring : (t : Tree) (k : ℕ) → IsWritable t → IsSound t → 0 < k
    → (count_at_most 0 (lists_of t k).distances ≡ 0) × (count_at_most 0 (lists_of t k).times ≡ 0)
lists_are_ordered-hiring t k writable sound some =
    let parts = sound_tariffs_have_sound_parts-parts t writable sound in
    (no_distance_at_hiring t k parts some, no_time_at_hiring t k parts)
