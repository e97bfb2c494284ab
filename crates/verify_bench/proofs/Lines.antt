-- The lines of a generated drive: their lengths, their events, and their texts.
use Rattle.{std.specs.Prelude.{decimal}, drive_text.proofs.Laws.{written_line_is_short}}
use Rattle.std.proofs.Common.{[], ℕ, ◌*◌, ◌++◌, ◌+◌, ◌<◌, ◌^◌, ◌∙◌, ◌∷◌, ◌≡◌, ◌≢◌, ◌≤◌, ap, arith, length}
use Rattle.std.proofs.{Common.{length-append, refl, suc, sym, zero}, lemmas.{Bool.{ne_eqb}, List.{append-nil}}}
use Rattle.verify_bench.specs.{AddedText.{lines_events}, Generated.{line_text, lines_text}}
use Rattle.verify_bench.specs.Common.{Event, Many, One, Up, event_text, interval_events, intervals_events}
use Rattle.taxi_units.proofs.Laws as units

-- a number below a power of ten, and one byte behind it
number_line : (places value : ℕ) (byte : ℕ) → 0 < places → places ≤ 64 → value < 10 ^ places
    → length (decimal value ++ byte ∷ []) ≤ places + 1
number_line places value byte some few small =
    let short = units.numbers_are_short places value some few small in
    omega (arith, length-append (decimal value) (byte ∷ []), short.1)

-- the text of the line of an event
pub event_line : (event : Event) → lines_text (One event ∷ []) ≡ event_text event
unfolding line_text
event_line event = append-nil (event_text event)

-- the text of the line of intervals
pub intervals_line : (pulses count : ℕ) → lines_text (Many pulses count ∷ []) ≡ line_text (Many pulses count)
intervals_line pulses count = append-nil (line_text (Many pulses count))

-- it has at most 10 bytes if the numbers are small
pub intervals_are_short : (pulses count : ℕ) → pulses ≤ 16 → count ≤ 1049 → length (line_text (Many pulses count)) ≤ 10
unfolding line_text
intervals_are_short pulses count slow few =
    let first = units.numbers_are_short 2 pulses (omega arith) (omega arith) (omega arith) in
    let second = number_line 4 count 10 (omega arith) (omega arith) (omega arith) in
    omega (arith, length-append (decimal pulses) (32 ∷ (decimal count ++ 10 ∷ [])), first.1, second)

-- how many events intervals have
events_of_each : (pulses count : ℕ) → length (intervals_events pulses count) ≡ count * length (interval_events pulses)
events_of_each pulses zero = omega arith
events_of_each pulses (suc count) =
    let rest = events_of_each pulses count in
    length-append (interval_events pulses) (intervals_events pulses count) ∙ grind (arith, rest)

-- one without pulses, two with pulses
pub quiet_events : (pulses count : ℕ) → pulses ≡ 0 → count ≡ lines_events (Many pulses count ∷ [])
quiet_events pulses count none =
    let one : length (interval_events pulses) ≡ 1 = rw none refl in
    let each = events_of_each pulses count in
    let all : lines_events (Many pulses count ∷ []) ≡ length (intervals_events pulses count) =
    ap length (append-nil (intervals_events pulses count)) in
    sym (all ∙ (each ∙ rw one (omega arith)))

pub loud_events : (pulses count : ℕ) → pulses ≢ 0 → 2 * count ≡ lines_events (Many pulses count ∷ [])
loud_events pulses count some =
    let two : length (interval_events pulses) ≡ 2 = rw (ne_eqb pulses 0 some) refl in
    let each = events_of_each pulses count in
    let all : lines_events (Many pulses count ∷ []) ≡ length (intervals_events pulses count) =
    ap length (append-nil (intervals_events pulses count)) in
    sym (all ∙ (each ∙ rw two (omega arith)))

-- the first line
pub first_is_short : length (line_text (One (Up 1772406000))) ≤ 13
unfolding line_text
first_is_short = written_line_is_short (Up 1772406000) (omega arith, omega arith)
