-- The events that lead to a context are ones that a drive can have, and their lines are within the limit.
use Rattle.std.proofs.Common.{[], ℕ, ◌%◌, ◌*◌, ◌++◌, ◌+◌, ◌/◌, ◌<◌, ◌∷◌, ◌≡◌, ◌≤◌, All, List, arith, length}
use Rattle.std.proofs.{Common.{length-append, replicate, suc, zero}, Math.Nat.{div-add-mod}}
use Rattle.std.proofs.lemmas.List.{length-replicate, Elements.{All-append, All-cons, All-head, All-nil, All-tail}}
use Rattle.drive_text.{specs.{Ending.{stream_limit}, Written.{event_text}}, proofs.Laws.{written_line_is_short}}
use Rattle.{drive_text.specs.Ranges.{IsInRange}, same_tariffs.specs.Common.{drive_of, last_tick, most_pulses}}
use Rattle.same_tariffs.specs.Common.{Down, Event, Hire, IsSecond, MeterContext, Position, Pulses, Tick, Up, Zone}
use Rattle.same_tariffs.specs.Drives.{drop, drops, events_to, hire}
use Rattle.taxi_units.specs.declared.event.Event.TheVariants as events

all-append : (xs ys : List Event) → All IsInRange xs → All IsInRange ys → All IsInRange (xs ++ ys)
all-append xs ys one other = All-append IsInRange xs ys one other

three-in : (second p : ℕ) → IsSecond second → 1 ≤ p → p ≤ 2000 → All IsInRange (Pulses p ∷ Down ∷ Up second ∷ [])
three-in second p is some few =
    All-cons IsInRange (Pulses p) (Down ∷ Up second ∷ []) (some, omega (arith, few))
    (All-cons IsInRange Down (Up second ∷ []) tt (All-cons IsInRange (Up second) [] is (All-nil IsInRange)))

drops-in : (second many : ℕ) → IsSecond second → All IsInRange (drops second many)
drops-in second zero is = All-nil IsInRange
drops-in second (suc many) is = all-append (Pulses 2000 ∷ Down ∷ Up second ∷ []) (drops second many)
    (three-in second 2000 is (omega arith) (omega arith)) (drops-in second many is)

drop-in : (second p : ℕ) → IsSecond second → p ≤ 2000 → All IsInRange (drop second p)
drop-in second zero is few = All-nil IsInRange
drop-in second (suc p) is few = three-in second (suc p) is (omega arith) few

ticks-in : (many : ℕ) → All IsInRange (replicate many Tick)
ticks-in zero = All-nil IsInRange
ticks-in (suc many) = All-cons IsInRange Tick (replicate many Tick) tt (ticks-in many)

hire-in : (second position zone : ℕ) → IsSecond second → position ≤ 99 → zone ≤ 99
    → All IsInRange (hire second position zone)
hire-in second position zone is one other =
    let last = All-cons IsInRange (events.Key Hire) (Tick ∷ []) tt
    (All-cons IsInRange Tick [] tt (All-nil IsInRange)) in
    let set = All-cons IsInRange (events.Key (Zone zone)) (Tick ∷ events.Key Hire ∷ Tick ∷ []) other
    (All-cons IsInRange Tick (events.Key Hire ∷ Tick ∷ []) tt last) in
    let first = All-cons IsInRange (events.Key (Position position)) (Tick ∷ events.Key (Zone zone) ∷ Tick ∷ events.Key
    Hire ∷ Tick ∷ []) one
    (All-cons IsInRange Tick (events.Key (Zone zone) ∷ Tick ∷ events.Key Hire ∷ Tick ∷ []) tt set) in
    All-cons IsInRange (Up second) (events.Key (Position position) ∷ Tick ∷ events.Key (Zone zone) ∷ Tick ∷ events.Key
    Hire ∷ Tick ∷ []) is first

pub events-in : (second : ℕ) (c : MeterContext) → IsSecond second → c.position ≤ 99 → c.zone ≤ 99
    → All IsInRange (events_to second c)
events-in second c is one other =
    all-append (hire second c.position c.zone)
    (drops second (c.pulses / 2000) ++ (drop second (c.pulses % 2000) ++ replicate c.ticks Tick))
    (hire-in second c.position c.zone is one other)
    (all-append (drops second (c.pulses / 2000)) (drop second (c.pulses % 2000) ++ replicate c.ticks Tick)
    (drops-in second (c.pulses / 2000) is)
    (all-append (drop second (c.pulses % 2000)) (replicate c.ticks Tick)
    (drop-in second (c.pulses % 2000) is (omega arith)) (ticks-in c.ticks)))

-- ---- their lines

lines-short : (events : List Event) → All IsInRange events → length (drive_of events) ≤ 13 * length events
lines-short [] range = omega arith
lines-short (event ∷ events) range = omega (
  arith,
  length-append (event_text event) (drive_of events),
  written_line_is_short event (All-head IsInRange event events range),
  lines-short events (All-tail IsInRange event events range),
)

drops-count : (second many : ℕ) → length (drops second many) ≡ 3 * many
drops-count second zero = omega arith
drops-count second (suc many) = omega (arith, drops-count second many)

drop-count : (second p : ℕ) → length (drop second p) ≤ 3
drop-count second zero = omega arith
drop-count second (suc p) = omega arith

way-count : (second : ℕ) (c : MeterContext) → c.ticks ≤ last_tick → c.pulses ≤ most_pulses
    → length (events_to second c) ≤ 30008640009
way-count second c short few =
    let many = c.pulses / 2000 in
    let last = replicate c.ticks Tick in
    let behind = drop second (c.pulses % 2000) ++ last in
    omega (
      arith,
      length-append (hire second c.position c.zone) (drops second many ++ behind),
      length-append (drops second many) behind,
      length-append (drop second (c.pulses % 2000)) last,
      length-replicate {A = Event} c.ticks Tick,
      drops-count second many,
      drop-count second (c.pulses % 2000),
      div-add-mod c.pulses 2000,
      short,
      few,
    )

-- three events for 2,000 pulses are few enough; three for each pulse would be too many
pub way-short : (second : ℕ) (c : MeterContext) → All IsInRange (events_to second c) → c.ticks ≤ last_tick
    → c.pulses ≤ most_pulses → length (drive_of (events_to second c)) < stream_limit
way-short second c range short few =
    omega (arith, lines-short (events_to second c) range, way-count second c short few)
