-- How long the lines of a receipt are at most, whatever it says.
use Rattle.{std.specs.Fmt.{decimal}, receipt_text.specs.Receipts.{supplements_text, time_text, total_text}}
use Rattle.std.proofs.Common.{ℕ, ◌%◌, ◌++◌, ◌+◌, ◌/◌, ◌<◌, ◌^◌, ◌≡◌, ◌≤◌, List, arith, length, length-append}
use Rattle.taxi_units.proofs.Laws.{amounts_are_short, numbers_are_short, padded_numbers_fill_the_width}
use Rattle.receipt_text.specs.AmountLines.{total_of}
use Rattle.receipt_text.specs.Common.{Aborted, Closed, Expired, Kind, Receipt, Roam, Stamp, money_text, padded_text}
use Rattle.receipt_text.specs.Receipts.{calculation_text, course_text, date_text, fare_text, kind_text, stamp_text}

-- two pieces together are as long as both
pub length-joined : (a b : List ℕ) → length (a ++ b) ≡ length a + length b
length-joined = length-append

-- for `omega`: how long texts in pieces are
pub ruleset lengths = (arith, length-joined)

padded_most : (width places value : ℕ) → 0 < places → places ≤ 64 → width ≤ places → value < 10 ^ places
    → length (padded_text width value) ≤ places
padded_most width places value some few wide small =
    omega (arith, padded_numbers_fill_the_width width value, numbers_are_short places value some few small)

pub number_most : (places value : ℕ) → 0 < places → places ≤ 64 → value < 10 ^ places → length (decimal value) ≤ places
number_most places value some few small = (numbers_are_short places value some few small).1

pub amount_most : (decimals places units : ℕ) → decimals < places → places ≤ 64 → units < 10 ^ places
    → length (money_text decimals units) ≤ places + 1
amount_most decimals places units more few small = (amounts_are_short decimals places units more few small).1

-- the word of a kind
pub kind_fits : (kind : Kind) → length (kind_text kind) ≤ 7
kind_fits Closed = omega arith
kind_fits Aborted = omega arith
kind_fits Expired = omega arith
kind_fits Roam = omega arith

date_most : (year month date : ℕ) → year < 2 ^ 16 → month < 2 ^ 8 → date < 2 ^ 8
    → length (date_text year month date) ≤ 13
date_most year month date hy hm hd =
    let years = padded_most 4 5 year (omega arith) (omega arith) (omega arith) (omega arith) in
    let months = padded_most 2 3 month (omega arith) (omega arith) (omega arith) (omega arith) in
    let dates = padded_most 2 3 date (omega arith) (omega arith) (omega arith) (omega arith) in
    omega (lengths, years, months, dates)

time_most : (second : ℕ) → second < 2 ^ 32 → length (time_text second) ≤ 13
time_most second small =
    let hours = padded_most 2 7 (second / 3600) (omega arith) (omega arith) (omega arith) (omega arith) in
    let minutes = padded_most 2 2 (second / 60 % 60) (omega arith) (omega arith) (omega arith) (omega arith) in
    let seconds = padded_most 2 2 (second % 60) (omega arith) (omega arith) (omega arith) (omega arith) in
    omega (lengths, hours, minutes, seconds)

pub stamp_most : (stamp : Stamp) → stamp.year < 2 ^ 16 → stamp.month < 2 ^ 8 → stamp.date < 2 ^ 8 → stamp.second < 2 ^ 32
    → length (stamp_text stamp) ≤ 27
unfolding stamp_text
stamp_most stamp hy hm hd hs =
    omega (lengths, date_most stamp.year stamp.month stamp.date hy hm hd, time_most stamp.second hs)

-- the lines of a trip
pub course_fits : (r : Receipt) → r.start.year < 2 ^ 16 → r.start.month < 2 ^ 8 → r.start.date < 2 ^ 8
    → r.start.second < 2 ^ 32
    → r.finish.year < 2 ^ 16 → r.finish.month < 2 ^ 8 → r.finish.date < 2 ^ 8 → r.finish.second < 2 ^ 32
    → r.position < 2 ^ 8 → r.hired_mm < 2 ^ 128 → length (course_text r) ≤ 140
unfolding course_text
course_fits r sy sm sd ss fy fm fd fs hp hh =
    let position = number_most 3 r.position (omega arith) (omega arith) (omega arith) in
    let distance = amount_most 3 39 r.hired_mm (omega arith) (omega arith) (omega arith) in
    omega (lengths, stamp_most r.start sy sm sd ss, stamp_most r.finish fy fm fd fs, position, distance)

-- the line of a calculation
pub calculation_fits : (r : Receipt) → r.decimals ≤ 3 → r.initial < 2 ^ 64 → r.steps < 2 ^ 64 → r.step < 2 ^ 64
    → length (calculation_text r) ≤ 80
unfolding calculation_text
calculation_fits r few hi hn hs =
    let initial = amount_most r.decimals 20 r.initial (omega arith) (omega arith) (omega arith) in
    let steps = number_most 20 r.steps (omega arith) (omega arith) (omega arith) in
    let step = amount_most r.decimals 20 r.step (omega arith) (omega arith) (omega arith) in
    omega (lengths, initial, steps, step)

-- the lines of amounts
pub fare_fits : (r : Receipt) → r.decimals ≤ 3 → r.fare < 2 ^ 64 → length (fare_text r) ≤ 27
unfolding fare_text
fare_fits r few small = omega (lengths, amount_most r.decimals 20 r.fare (omega arith) (omega arith) (omega arith))

pub supplements_fit : (r : Receipt) → r.decimals ≤ 3 → r.supplements < 2 ^ 64 → length (supplements_text r) ≤ 34
unfolding supplements_text
supplements_fit r few small =
    omega (lengths, amount_most r.decimals 20 r.supplements (omega arith) (omega arith) (omega arith))

pub total_fits : (r : Receipt) → r.decimals ≤ 3 → total_of r < 10 ^ 20 → length (total_text r) ≤ 32
unfolding total_text
total_fits r few small = omega (lengths, amount_most r.decimals 20 (total_of r) (omega arith) (omega arith) small)
