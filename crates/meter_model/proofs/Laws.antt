-- The lemmas that the crates above cite.
use Rattle.std.proofs.Common.{[], ◌↔◌, ◌≡◌, Some, true}
use Rattle.meter_model.specs.{Common.{Display, Durable, Event, ForHire}, Display.{display_of, same_display, shown}}
use Rattle.meter_model.specs.{KeptTrip.{HoldFits, IsTripKept}, Meter.{Meter}, Run.{opened}, Step.{step}}
use Rattle.meter_model.{specs.Setting.{Setting}, proofs.ShownDisplays.{hire-shows, same-equal, shows-none}}
pub use Rattle.meter_model.proofs.{Fares.{above-more}, KeptTrips.{kept-step}, Runs.{kept-run, kept-whole, run-append}}
pub use Rattle.meter_model.proofs.Resumed.{begins}

pub the_store_keeps_the_trip-begins : (s : Setting) (durable : Durable) → HoldFits s durable.hold
    → IsTripKept s (opened s durable)
the_store_keeps_the_trip-begins s durable fits = begins s durable.hold fits

pub the_store_keeps_the_trip-step : (s : Setting) (event : Event) (m : Meter) → IsTripKept s m
    → IsTripKept s (step s event m).next
the_store_keeps_the_trip-step = kept-step

pub displays_are_compared_by_their_fields-same : (a b : Display) → (same_display a b ≡ true) ↔ (a ≡ b)
displays_are_compared_by_their_fields-same = same-equal

pub displays_are_compared_by_their_fields-shows : (s : Setting) (m : Meter)
    → ((shown s m).acts ≡ []) ↔ (m.shown ≡ Some (display_of s m))
displays_are_compared_by_their_fields-shows s m = shows-none m.shown (display_of s m)

pub displays_are_compared_by_their_fields-hire : (s : Setting) (m : Meter) → IsTripKept s m → m.operating ≡ ForHire
    → ((display_of s m).fare ≡ 0) × ((display_of s m).supplements ≡ 0)
displays_are_compared_by_their_fields-hire = hire-shows
