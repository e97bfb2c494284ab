-- The trips of a generated drive, one after another.
use Rattle.std.proofs.{Common.{[], ℕ, ◌+◌, ◌-◌, ◌<◌, ◌≡◌, arith, drop, length, refl, suc, zero}, Math.Seq.{drop-length}}
use Rattle.{arrayvec.specs.ArrayVec.{array_vec_len}, drive_text.specs.Written.{event_fields}}
use Rattle.verify_bench.specs.{AddedText.{lines_events, place_of}, declared.remaining.Remaining.{Remaining}}
use Rattle.verify_bench.specs.Generated.{Place, and_then, beginning, generated_lines, in_turn, line_text, lines_text}
use Rattle.verify_bench.{specs.Generated.{trip, trips_from}, proofs.Adds.{lines_events-append, lines_text-append}}
use Rattle.verify_bench.specs.Left.{bytes_left}

-- the first of some trips, and the others
pub trips_split : (count : ℕ) (place : Place) → 0 < count
    → trips_from count place ≡ and_then (trip place) (trips_from (count - 1))
unfolding in_turn
trips_split zero place some = absurd (omega arith)
trips_split (suc count) place some =
    let fewer : suc count - 1 ≡ count = omega arith in
    rw fewer refl

-- the text of a trip isn't empty
pub trip_has_text : (place : Place) → 0 < length (lines_text (trip place).lines)
unfolding in_turn line_text event_fields
trip_has_text place = omega arith

-- what is left stays the same when the next trip is written
pub left_after_trip : (old new : Remaining) → old.given ≡ array_vec_len old.writing.text → 0 < old.trips → new.given ≡ 0
    → new.trips ≡ old.trips - 1
    → new.writing.text.items ≡ lines_text (trip (place_of old.writing)).lines
    → place_of new.writing ≡ (trip (place_of old.writing)).next → bytes_left new ≡ bytes_left old
left_after_trip old new all some given trips text place =
    let none : drop old.given old.writing.text.items ≡ [] = rw all (drop-length old.writing.text.items) in
    let split = trips_split old.trips (place_of old.writing) some in
    let first = (trip (place_of old.writing)).lines in
    let others = (trips_from (old.trips - 1) (trip (place_of old.writing)).next).lines in
    rw (given, trips, text, place, none, split, lines_text-append first others) refl

-- nothing is left if all was given and no trip is to come
pub none_left : (r : Remaining) → r.given ≡ array_vec_len r.writing.text → r.trips ≡ 0 → bytes_left r ≡ []
unfolding in_turn
none_left r all none = rw (all, drop-length r.writing.text.items, none) refl

-- the events of the trips that are left
pub trips_events : (count : ℕ) (place : Place) → 0 < count → lines_events (trips_from count place).lines
    ≡ lines_events (trip place).lines + lines_events (trips_from (count - 1) (trip place).next).lines
trips_events count place some =
    let others = (trips_from (count - 1) (trip place).next).lines in
    rw (trips_split count place some) (lines_events-append (trip place).lines others)

pub no_events : (place : Place) → lines_events (trips_from 0 place).lines ≡ 0
unfolding in_turn
no_events place = refl

-- the events of a drive, before its first trip
pub events_before : (events left : ℕ) (place : Place) (seed trips : ℕ) → events ≡ 1 → place ≡ beginning seed
    → left ≡ trips → events + lines_events (trips_from left place).lines ≡ lines_events (generated_lines seed trips)
events_before events left place seed trips one same whole = rw (one, same, whole) (omega arith)

-- and behind a trip more
pub events_behind : (total events after left less : ℕ) (place next : Place)
    → events + lines_events (trips_from left place).lines ≡ total → 0 < left → less ≡ left - 1
    → after ≡ events + lines_events (trip place).lines → next ≡ (trip place).next
    → after + lines_events (trips_from less next).lines ≡ total
events_behind total events after left less place next all some fewer more same =
    let split = trips_events left place some in
    rw (fewer, same) (omega (arith, split, all, more))

-- and behind all
pub events_of_all : (total events left : ℕ) (place : Place)
    → events + lines_events (trips_from left place).lines ≡ total → left ≡ 0 → events ≡ total
events_of_all total events left place all none =
    let whole : events + lines_events (trips_from 0 place).lines ≡ total = rw none at all in
    omega (arith, whole, no_events place)
