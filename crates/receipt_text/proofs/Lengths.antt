-- How long receipts are.
use Rattle.std.proofs.Common.{[], ℕ, ℤ, ◌%◌, ◌*◌, ◌++◌, ◌+◌, ◌/◌, ◌<◌, ◌^◌, ◌∷◌, ◌≡◌, ◌≤ℤ◌, ◌≤◌, List, arith, length}
use Rattle.std.proofs.{Common.{pos, refl, unsigned_abs}, lemmas.Int.{ints}}
use Rattle.{taxi_units.proofs.Laws.{padded_numbers_fill_the_width}, interval_clock.proofs.Laws.{IsDateOf-date_after}}
use Rattle.{interval_clock.specs.Calendar.{date_after}, receipt_text.specs.Receipts.{total_text, trip_text}}
use Rattle.receipt_text.specs.AmountLines.{optional_lines}
use Rattle.receipt_text.specs.{Common.{IsReceipt, IsStamp, Kind, Receipt, Stamp, padded_text}, Part.{IsPart, Part}}
use Rattle.receipt_text.specs.Receipts.{body_text, course_text, date_text, day_text, fare_text, heading_text, hex_text}
use Rattle.receipt_text.specs.Receipts.{last_text, part_text, receipt_text, stamp_text, supplements_text, time_text}
use Rattle.receipt_text.proofs.{Dates.{month_small, year_below}, Widths.{number_most, supplements_fit, total_fits}}
use Rattle.receipt_text.proofs.OptionalLines.{optional_len, optional_short, total_small}
use Rattle.receipt_text.proofs.Widths.{amount_most, calculation_fits, fare_fits, kind_fits, length-joined, lengths}

padded_len : (width value : ℕ) → 0 < width → width ≤ 64 → value < 10 ^ width → length (padded_text width value) ≡ width
padded_len width value some few small =
    omega (arith, padded_numbers_fill_the_width width value, number_most width value some few small)

date_len : (year month date : ℕ) → year < 10000 → month < 100 → date < 100 → length (date_text year month date) ≡ 10
date_len year month date hy hm hd =
    omega (
      lengths,
      padded_len 4 year (omega arith) (omega arith) (omega arith),
      padded_len 2 month (omega arith) (omega arith) (omega arith),
      padded_len 2 date (omega arith) (omega arith) (omega arith),
    )

time_len : (second : ℕ) → second ≤ 86399 → length (time_text second) ≡ 8
time_len second small =
    let hours = padded_len 2 (second / 3600) (omega arith) (omega arith) (omega arith) in
    let minutes = padded_len 2 (second / 60 % 60) (omega arith) (omega arith) (omega arith) in
    let seconds = padded_len 2 (second % 60) (omega arith) (omega arith) (omega arith) in
    omega (lengths, hours, minutes, seconds)

stamp_len : (stamp : Stamp) → IsStamp stamp → length (stamp_text stamp) ≡ 19
unfolding stamp_text
stamp_len stamp is =
    let small = month_small stamp.year stamp.month in
    let date = date_len stamp.year stamp.month stamp.date (omega (arith, is.year)) (omega (arith, is.date))
    (omega (arith, is.date, small)) in
    omega (lengths, date, time_len stamp.second is.second)

pub day_len : (day : ℤ) → pos 10957 ≤ℤ day → day ≤ℤ pos 84005 → length (day_text day) ≡ 10
unfolding day_text
day_len day low high =
    let n = unsigned_abs day in
    let to : n ≤ 84005 = grind (arith, ints, low, high) in
    let is = IsDateOf-date_after n in
    let d = date_after n in
    let small = month_small d.year d.month in
    date_len d.year d.month d.date (year_below n to) (omega (arith, is.month_in)) (omega (arith, is.date_in, small))

hex_len : (bytes : List ℕ) → length (hex_text bytes) ≡ 2 * length bytes
unfolding hex_text
hex_len [] = refl
hex_len (byte ∷ bytes) = omega (arith, hex_len bytes)

heading_len : (number : ℕ) (kind : Kind) → number < 10 ^ 18 → length (heading_text number kind) ≤ 40
unfolding heading_text
heading_len number kind small =
    omega (lengths, kind_fits kind, number_most 18 number (omega arith) (omega arith) small)

part_len : (p : Part) → IsPart p → length (part_text p) ≤ 129
unfolding part_text
part_len p is =
    let constant = number_most 6 p.constant (omega arith) (omega arith) (omega (arith, is.constant)) in
    let day = day_len p.secured is.secured.0 is.secured.1 in
    omega (lengths, hex_len p.digest, is.digest.size, is.taxi.few, constant, day)

course_len : (r : Receipt) → IsReceipt r → length (course_text r) ≤ 100
unfolding course_text
course_len r is =
    let position = number_most 1 r.position (omega arith) (omega arith) (omega (arith, is.position)) in
    let distance = amount_most 3 23 r.hired_mm (omega arith) (omega arith) is.distance in
    omega (lengths, stamp_len r.start is.start, stamp_len r.finish is.finish, position, distance)

trip_len : (r : Receipt) → IsReceipt r → length (trip_text r) ≤ 101
unfolding trip_text
trip_len r is = omega (lengths, course_len r is)

-- the lines behind the calculation
last_len : (r : Receipt) → IsReceipt r → length (last_text r) ≤ 20 * length (optional_lines r) + 93
unfolding last_text
last_len r is =
    let sums = supplements_text r ++ total_text r in
    omega (
      arith,
      optional_len r.decimals (optional_lines r) (fare_text r ++ sums) is.decimals (optional_short r is),
      length-joined (fare_text r) sums,
      length-joined (supplements_text r) (total_text r),
      fare_fits r is.decimals (omega (arith, is.fare)),
      supplements_fit r is.decimals (omega (arith, is.supplements)),
      total_fits r is.decimals (omega (arith, total_small r is)),
    )

-- a receipt has at most 480 bytes
pub receipts_are_short : (r : Receipt) (p : Part) → IsReceipt r → IsPart p → length (receipt_text r p) ≤ 480
unfolding receipt_text body_text
receipts_are_short r p is part_is =
    omega (
      lengths,
      heading_len r.number r.kind (omega (arith, is.number)),
      part_len p part_is,
      trip_len r is,
      calculation_fits r is.decimals (omega (arith, is.initial)) (omega (arith, is.steps)) (omega (arith, is.step)),
      last_len r is,
    )

-- so an empty line has room for it
pub receipts_fit : (r : Receipt) (p : Part) → IsReceipt r → IsPart p → 0 + length (receipt_text r p) ≤ 512
receipts_fit r p is part_is = omega (arith, receipts_are_short r p is part_is)
