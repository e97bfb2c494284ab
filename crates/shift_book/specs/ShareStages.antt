-- Rules: the drivers' sums, shift by shift as the code adds them, and what keeps the sums in their fields. AreSums, in
-- Shares, says what the sums are.
use Rattle.std.specs.{BTreeMap.{insert_entry, is_at}, List.{sum_by}, Prelude.{[], ⊤, ◌∷◌, List, unwrap_or}}
use Rattle.{std.specs.Map.{lookup}, shift_book.specs.{Marks.{Signing, numbers_of}, Shares.{next_point, nothing, plus}}}
use Rattle.shift_book.specs.{Common.{Numbers, Shift}, MarkOrder.{IsNowhereLess}}
use Rattle.shift_book.specs.Shares.{Distance, Driver, Fare, HiredDistance, Hirings, Number, Supplements, at, driver_cmp}

-- points rise if no number falls from one point of a book to the next
abbrev pub Rise : (now : Numbers) → List Signing → Type 0
Rise now [] = ⊤
Rise now (mark ∷ marks) = IsNowhereLess mark.numbers (next_point now marks) × Rise now marks

-- the sum so far of a driver is the one in the sums, or nothing if they don't have the driver
abbrev pub sum_so_far : Driver → List (Driver × Numbers) → Numbers
sum_so_far driver sums = unwrap_or (lookup (is_at (driver_cmp driver)) sums) nothing

-- sums with one shift more have it added to its driver's sum
abbrev pub with_shift : List (Driver × Numbers) → Shift → List (Driver × Numbers)
with_shift sums shift =
    insert_entry driver_cmp sums shift.driver (plus (sum_so_far shift.driver sums) shift.growth)

-- sums with some shifts more have one added after the other
abbrev pub with_shifts : List (Driver × Numbers) → List Shift → List (Driver × Numbers)
with_shifts sums [] = sums
with_shifts sums (shift ∷ shifts) = with_shifts (with_shift sums shift) shifts

-- the total of shifts is their growth together
abbrev pub total_of : List Shift → Numbers
total_of shifts =
    numbers_of (sum_by (λ s. at Number s.growth) shifts) (sum_by (λ s. at Distance s.growth) shifts)
    (sum_by (λ s. at HiredDistance s.growth) shifts) (sum_by (λ s. at Hirings s.growth) shifts)
    (sum_by (λ s. at Supplements s.growth) shifts) (sum_by (λ s. at Fare s.growth) shifts)
