-- The laws of the public empty functions.
use Rattle.std.proofs.Common.{◌++◌, ◌≡◌, List, None, length}
use Rattle.meter_model.{specs.{KeptTrip.{IsTripKept}, Run.{actions_of, run_both}}, proofs.Laws.{kept-run, run-append}}
use Rattle.meter_states.specs.Common.{Durable, Event, FitsSetting, Meter, Setting, TableParts, Trip, after_all, run}
use Rattle.meter_states.{specs.{Common.{step, whole_run}, Fits.{Fits}}, proofs.Stages.{commits-step, commits-whole}}
use Rattle.meter_states.{specs.{Pairs.{ArePaired, commits_of}, Setting.{IsTariffOf}}, proofs.HeldFits.{fits-setting}}
pub use Rattle.meter_model.proofs.Laws.{the_store_keeps_the_trip-begins, the_store_keeps_the_trip-step}
pub use Rattle.meter_states.proofs.Charges.{by_numbers as charges_by_weights_are_by_the_rates}
pub use Rattle.meter_states.proofs.Charges.{charge-at as tables_charge_by_the_rate_in_force}

pub receipts_follow_their_entries-run : (s : Setting) (durable : Durable) (events : List Event)
    → ArePaired durable.number None (actions_of s durable events)
receipts_follow_their_entries-run s durable events = (commits-whole s durable events).pairs

pub the_store_has_what_the_acts_commit-event : (s : Setting) (event : Event) (m : Meter)
    → (step s event m).next.durable ≡ after_all m.durable (commits_of (step s event m).acts)
the_store_has_what_the_acts_commit-event s event m = (commits-step s event m).store

pub the_store_has_what_the_acts_commit-run : (s : Setting) (durable : Durable) (events : List Event)
    → (whole_run s durable events).next.durable ≡ after_all durable (commits_of (actions_of s durable events))
the_store_has_what_the_acts_commit-run s durable events = (commits-whole s durable events).store

pub runs_add_up : (s : Setting) (first second : List Event) (m : Meter)
    → run s (first ++ second) m ≡ run_both s first second m
runs_add_up = run-append

pub the_store_keeps_the_trip-run : (s : Setting) (events : List Event) (m : Meter) → IsTripKept s m
    → IsTripKept s (run s events m).next
the_store_keeps_the_trip-run = kept-run

pub the_store_keeps_the_trip-fits : (s : Setting) (tables : TableParts) (trip : Trip) → IsTariffOf s tables
    → Fits tables trip → length trip.extras ≡ 16 → FitsSetting s trip
the_store_keeps_the_trip-fits = fits-setting
