-- The lines of events, and the drive of all of them.
use Rattle.std.proofs.Common.{[], ℕ, ◌++◌, ◌+◌, ◌<◌, ◌^◌, ◌∙◌, ◌∷◌, ◌≡◌, ◌≤◌, All, List, None, ap, append_assoc, arith}
use Rattle.std.proofs.{Common.{decimal, flat_map, length, length-append, refl, sym}, lemmas.Grind.{flat_map-append}}
use Rattle.std.proofs.lemmas.List.{append-nil, Elements.{All-head, All-tail}}
use Rattle.{taxi_units.proofs.Laws.{numbers_are_short}, drive_text.specs.Drive.{bad_at_end, events_in, runs_in}}
use Rattle.drive_text.{specs.Common.{Clock, Event, Extra, Position, Pulses, Up, Zone}, proofs.Ends.{whole_drive_ends}}
use Rattle.drive_text.specs.{Ending.{ReachesEnd, Whole, drive_end, events_of, stream_limit}, Ranges.{IsInRange}}
use Rattle.drive_text.{specs.Runs.{run_events}, proofs.ReadBack.{bad_at_end-event_text, runs_in-event_text}}
use Rattle.drive_text.specs.{Written.{drive_of, event_fields, event_text, key_text}, declared.run.Run.TheVariants.{One}}
use Rattle.taxi_units.specs.declared.event.Event.TheVariants as events

-- a number below a power of ten, and one byte behind it
number_line : (places value byte : ℕ) → 0 < places → places ≤ 64 → value < 10 ^ places
    → length (decimal value ++ byte ∷ []) ≤ places + 1
number_line places value byte some few small =
    let short = numbers_are_short places value some few small in
    omega (arith, length-append (decimal value) (byte ∷ []), short.1)

-- the line of an event has at most 13 bytes
pub event-short : (event : Event) → IsInRange event → length (event_text event) ≤ 13
unfolding event_fields key_text
event-short (Up second) range = let short =
    number_line 10 second 10 (omega arith) (omega arith) (omega arith) in omega arith
event-short (Pulses pulses) range = let short =
    number_line 5 pulses 10 (omega arith) (omega arith) (omega arith) in omega arith
event-short (Clock second) range = let short =
    number_line 10 second 10 (omega arith) (omega arith) (omega arith) in omega arith
event-short (events.Key (Position number)) range = let short =
    number_line 2 number 10 (omega arith) (omega arith) (omega arith) in omega arith
event-short (events.Key (Zone number)) range = let short =
    number_line 2 number 10 (omega arith) (omega arith) (omega arith) in omega arith
event-short (events.Key (Extra number)) range = let short =
    number_line 2 number 10 (omega arith) (omega arith) (omega arith) in omega arith
event-short event range = omega arith

-- the lines of events behind other lines add these events
record Adds (b : List ℕ) (events : List Event) : Type 0 where
  pub good : bad_at_end (b ++ drive_of events) ≡ None
  pub gives : events_in (b ++ drive_of events) ≡ events_in b ++ events

lines-add : (events : List Event) (b : List ℕ) → All IsInRange events → bad_at_end b ≡ None → Adds b events
lines-add [] b range good = record {
  good = ap bad_at_end (append-nil b) ∙ good;
  gives = ap events_in (append-nil b) ∙ sym (append-nil (events_in b));
}
lines-add (event ∷ events) b range good =
    let line = event_text event in
    let first = All-head IsInRange event events range in
    let rest = lines-add events (b ++ line) (All-tail IsInRange event events range)
    (bad_at_end-event_text b event first good) in
    let bytes : b ++ (line ++ drive_of events) ≡ (b ++ line) ++ drive_of events =
    sym (append_assoc b line (drive_of events)) in
    let here : events_in (b ++ line) ≡ events_in b ++ event ∷ [] =
    ap (flat_map run_events) (runs_in-event_text b event first good)
    ∙ flat_map-append run_events (runs_in b) (One event ∷ []) in
    record {
      good = ap bad_at_end bytes ∙ rest.good;
      gives = ap events_in bytes ∙ (rest.gives ∙ (ap (λ (es : List Event). es ++ events) here
          ∙ append_assoc (events_in b) (event ∷ []) events));
    }

drive-whole : (events : List Event) → All IsInRange events → length (drive_of events) < stream_limit
    → ReachesEnd (drive_of events) (drive_of events) [] Whole
drive-whole events range few = whole_drive_ends (drive_of events) few (lines-add events [] range refl).good

pub written_drive_ends : (events : List Event) → All IsInRange events → length (drive_of events) < stream_limit
    → drive_end (drive_of events) ≡ Whole
written_drive_ends events range few = (drive-whole events range few).ends.end_is

pub written_drive_means : (events : List Event) → All IsInRange events → length (drive_of events) < stream_limit
    → events_of (drive_of events) ≡ events
written_drive_means events range few =
    (drive-whole events range few).given_is ∙ (lines-add events [] range refl).gives
