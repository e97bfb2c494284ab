-- The numbers of a generated drive are those that a line of a drive may have, and its bytes are few.
use Rattle.std.{specs.Prelude.{if◌then◌else◌, replicate}, proofs.{Math.Nat.{mod-lt}, lemmas.List.{append-nil}}}
use Rattle.std.proofs.Common.{[], ℕ, ◌*◌, ◌+◌, ◌/◌, ◌<◌, ◌^◌, ◌∷◌, ◌≤◌, All, Bool, List, ap, arith, eqb, false, length}
use Rattle.std.proofs.{Common.{length-append, suc, true, zero}, lemmas.List.Elements.{All-append, All-cons, All-nil}}
use Rattle.{taxi_units.specs.declared.event.Event.TheVariants.{Clock}, drive_text.proofs.Laws.{written_line_is_short}}
use Rattle.{drive_text.specs.Ranges.{IsKeyInRange}, verify_bench.{specs.Common.{Zone}, proofs.Adds.{lines_text-append}}}
use Rattle.verify_bench.specs.Common.{Clear, Down, Extra, Hire, IsRunInRange, Key, Many, One, Position, Run, Stop, Up}
use Rattle.verify_bench.specs.Generated.{Place, Written, away, beginning, came_back, clock_read, drawn, driven}
use Rattle.verify_bench.specs.Generated.{drop_perhaps, extra_chosen, extra_perhaps, in_turn, intervals, key_pressed}
use Rattle.verify_bench.specs.Generated.{leg, line, line_text, lines_text, nothing, position_chosen, road, roamed}
use Rattle.verify_bench.specs.Generated.{second_of, supply_away, trip, trips_from, value, way, zone_chosen}
use Rattle.verify_bench.proofs.Lines.{intervals_are_short, intervals_line}
use Rattle.taxi_units.specs.declared.event.Event.TheVariants as events

-- the lines are in range, and they take no more than the given tenths of a second and bytes
record IsRanged (start : ℕ) (written : Written) (tenths bytes : ℕ) : Type 0 where
  range : All IsRunInRange written.lines
  time : written.next.tenths ≤ start + tenths
  short : length (lines_text written.lines) ≤ bytes

-- a part is ranged wherever it is written in the first 10^9 tenths of a second
abbrev IsPart : (Place → Written) → (tenths bytes : ℕ) → Type 0
IsPart part tenths bytes = (place : Place) → place.tenths + tenths ≤ 1000000000
    → IsRanged place.tenths (part place) tenths bytes

is_below : (below : ℕ) (place : Place) → 0 < below → value below place < below
is_below below place some = mod-lt (place.state / 2 ^ 33) some

one_run : (run : Run) → IsRunInRange run → All IsRunInRange (run ∷ [])
one_run run range = All-cons IsRunInRange run [] range (All-nil IsRunInRange)

within : (start : ℕ) (written : Written) (t b t' b' : ℕ) → t ≤ t' → b ≤ b' → IsRanged start written t b
    → IsRanged start written t' b'
within start written t b t' b' time bytes ranged =
    record { range = ranged.range; time = omega (arith, ranged.time); short = omega (arith, ranged.short) }

none_ranged : (place : Place) → IsRanged place.tenths (nothing place) 0 0
none_ranged place = record { range = All-nil IsRunInRange; time = omega arith; short = omega arith }

-- two parts
both_ranged : (part : Place → Written) (parts : List (Place → Written)) (t b t' b' : ℕ) → IsPart part t b
    → IsPart (in_turn parts) t' b' → IsPart (in_turn (part ∷ parts)) (t + t') (b + b')
unfolding in_turn
both_ranged part parts t b t' b' one others place small =
    let first = one place (omega arith) in
    let next = (part place).next in
    let second = others next (omega (arith, first.time)) in
    record {
      range = All-append IsRunInRange (part place).lines (in_turn parts next).lines first.range second.range;
      time = omega (arith, first.time, second.time);
      short = omega (
        arith,
        first.short,
        second.short,
        ap length (lines_text-append (part place).lines (in_turn parts next).lines),
        length-append (lines_text (part place).lines) (lines_text (in_turn parts next).lines),
      );
    }

no_parts : IsPart (in_turn []) 0 0
unfolding in_turn
no_parts place small = none_ranged place

one_part : (part : Place → Written) (t b : ℕ) → IsPart part t b → IsPart (in_turn (part ∷ [])) (t + 0) (b + 0)
one_part part t b one = both_ranged part [] t b 0 0 one no_parts

-- a number of equal parts
all_ranged : (part : Place → Written) (t b count : ℕ) → IsPart part t b
    → IsPart (in_turn (replicate count part)) (count * t) (count * b)
all_ranged part t b zero one place small =
    within place.tenths _ 0 0 _ _ (omega arith) (omega arith) (no_parts place (omega arith))
all_ranged part t b (suc count) one place small =
    let rest = both_ranged part (replicate count part) t b (count * t) (count * b) one
    (all_ranged part t b count one) place (omega arith) in
    within place.tenths _ (t + count * t) (b + count * b) _ _ (omega arith) (omega arith) rest

line_part : (run : Run) (b : ℕ) → IsRunInRange run → length (line_text run) ≤ b → IsPart (line run) 0 b
line_part run b range short place small = record {
  range = one_run run range;
  time = omega arith;
  short = omega (arith, ap length (append-nil (line_text run)), short);
}

event_length : (event : _) → IsRunInRange (One event) → length (line_text (One event)) ≤ 13
unfolding line_text
event_length event range = written_line_is_short event range

clock_part : IsPart clock_read 0 13
clock_part place small =
    let range : IsRunInRange (One (Clock (second_of place))) = (omega arith, omega arith) in
    line_part (One (Clock (second_of place))) 13 range (event_length (Clock (second_of place)) range) place small

intervals_ranged : (pulses count : ℕ) (place : Place) → pulses ≤ 16 → 1 ≤ count → count ≤ 1049
    → IsRanged place.tenths (intervals pulses count place) count 10
intervals_ranged pulses count place slow some few = record {
  range = one_run (Many pulses count) (omega arith, some, omega arith);
  time = omega arith;
  short = omega (arith, ap length (intervals_line pulses count), intervals_are_short pulses count slow few);
}

quiet_part : IsPart (intervals 0 1) 1 10
quiet_part place small = intervals_ranged 0 1 place (omega arith) (omega arith) (omega arith)

key_part : (key : Key) → IsKeyInRange key → IsPart (key_pressed key) 1 23
key_part key range =
    let press = line_part (One (events.Key key)) 13 range (event_length (events.Key key) range) in
    both_ranged (line (One (events.Key key))) (intervals 0 1 ∷ []) 0 13 1 10 press
    (one_part (intervals 0 1) 1 10 quiet_part)

way_part : IsPart way 999 10
way_part place small =
    let few = is_below 900 (drawn place) (omega arith) in
    let count = 100 + value 900 (drawn place) in
    within place.tenths _ count 10 999 10 (omega arith) (omega arith)
    (intervals_ranged 10 count (drawn place) (omega arith) (omega arith) (omega arith))

roamed_part : IsPart roamed 999 23
roamed_part = both_ranged clock_read (way ∷ []) 0 13 999 10 clock_part (one_part way 999 10 way_part)

position_part : IsPart position_chosen 1 23
position_part place small =
    let few = is_below 2 (drawn place) (omega arith) in
    key_part (Position (1 + value 2 (drawn place))) (omega arith) (drawn place) small

zone_part : IsPart zone_chosen 1 23
zone_part place small =
    let few = is_below 2 (drawn place) (omega arith) in
    key_part (Zone (1 + value 2 (drawn place))) (omega arith) (drawn place) small

extra_part : IsPart extra_chosen 1 23
extra_part place small =
    let few = is_below 3 (drawn place) (omega arith) in
    key_part (Extra (1 + value 3 (drawn place))) (omega arith) (drawn place) small

road_part : IsPart road 1049 10
road_part place small =
    let slow = is_below 17 (drawn place) (omega arith) in
    let few = is_below 1000 (drawn (drawn place)) (omega arith) in
    let count = 50 + value 1000 (drawn (drawn place)) in
    within place.tenths _ count 10 1049 10 (omega arith) (omega arith)
    (intervals_ranged (value 17 (drawn place)) count (drawn (drawn place)) (omega arith) (omega arith) (omega arith))

leg_part : IsPart leg 1049 23
leg_part = both_ranged road (clock_read ∷ []) 1049 10 0 13 road_part (one_part clock_read 0 13 clock_part)

driven_part : IsPart driven 5245 115
driven_part place small =
    let few = is_below 5 (drawn place) (omega arith) in
    let count = 1 + value 5 (drawn place) in
    within place.tenths _ (count * 1049) (count * 23) 5245 115 (omega arith) (omega arith)
    (all_ranged leg 1049 23 count leg_part (drawn place) (omega arith))

-- a part that is written or not
perhaps_part : (part : Place → Written) (t b : ℕ) (chosen : Bool) → IsPart part t b
    → IsPart (λ place. if chosen then part place else nothing place) t b
perhaps_part part t b true one place small = one place small
perhaps_part part t b false one place small =
    within place.tenths _ 0 0 t b (omega arith) (omega arith) (none_ranged place)

extra_perhaps_part : IsPart extra_perhaps 1 23
extra_perhaps_part place small =
    perhaps_part extra_chosen 1 23 (eqb (value 4 (drawn place)) 0) extra_part (drawn place) small

back_part : IsPart came_back 1190 13
back_part place small =
    let few = is_below 120 (drawn place) (omega arith) in
    let range : IsRunInRange (One (Up (second_of (away place)))) = (omega arith, omega arith) in
    let came = line_part (One (Up (second_of (away place)))) 13 range (event_length (Up (second_of (away place))) range)
    (away place) (omega arith) in
    record { range = came.range; time = omega arith; short = came.short }

away_part : IsPart supply_away 1190 26
away_part =
    let down = line_part (One Down) 13 tt (event_length Down tt) in
    both_ranged (line (One Down)) (came_back ∷ []) 0 13 1190 13 down (one_part came_back 1190 13 back_part)

drop_part : IsPart drop_perhaps 1190 26
drop_part place small = perhaps_part supply_away 1190 26 (eqb (value 5 (drawn place)) 0) away_part (drawn place) small

trip_part : IsPart trip 7440 302
trip_part =
    both_ranged roamed _ 999 23 6441 279 roamed_part
    (both_ranged position_chosen _ 1 23 6440 256 position_part
    (both_ranged zone_chosen _ 1 23 6439 233 zone_part
    (both_ranged (key_pressed Hire) _ 1 23 6438 210 (key_part Hire tt)
    (both_ranged driven _ 5245 115 1193 95 driven_part
    (both_ranged extra_perhaps _ 1 23 1192 72 extra_perhaps_part
    (both_ranged drop_perhaps _ 1190 26 2 46 drop_part
    (both_ranged (key_pressed Stop) _ 1 23 1 23 (key_part Stop tt)
    (one_part (key_pressed Clear) 1 23 (key_part Clear tt)))))))))

-- the trips of a drive
pub trips_in_range : (seed trips : ℕ) → trips ≤ 1000 → All IsRunInRange (trips_from trips (beginning seed)).lines
    × (length (lines_text (trips_from trips (beginning seed)).lines) ≤ 302000)
trips_in_range seed trips few =
    let ranged = within 0 _ (trips * 7440) (trips * 302) 7440000 302000 (omega arith) (omega arith)
    (all_ranged trip 7440 302 trips trip_part (beginning seed) (omega arith)) in
    (ranged.range, ranged.short)
