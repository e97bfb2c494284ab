-- The numbers of cells: the bands of a cell give its number back, and a number its bands.
use Rattle.std.proofs.Common.{ℕ, ◌%◌, ◌*◌, ◌+◌, ◌/◌, ◌<◌, ◌∙◌, ◌≡◌, ◌≤◌, ◌⊎◌, ap, arith, inl, inr, refl, suc, zero}
use Rattle.std.proofs.Math.Nat.{div-add-mod, le-mul_of_pos_right, mul-le-mul_right, mul-zero, mul_comm, suc-mul}
use Rattle.std.proofs.{Math.Nat.{zero-mul}, lemmas.Nat.{div-mul-add, div_below, mod-mul-add, mod_below, mul-add-lt}}
use Rattle.tariff_compile.specs.Cells.{IsBefore, IsBelow, bands_of, cell_count, cell_number, places_of}
use Rattle.tariff_compile.specs.Common.{Bands}

-- one dimension more
pub digit_below : (n count size digit : ℕ) → n < count → digit < size → n * size + digit < count * size
digit_below n count size digit h d = rw (mul_comm count size) (mul-add-lt n size digit count h d)

-- a cell's number is below how many there are
pub cell_number_below : (s b : Bands) → IsBelow s b → cell_number s b < cell_count s
cell_number_below s b h =
    digit_below _ _ s.time b.time
    (digit_below _ _ s.distance b.distance (digit_below _ _ s.minute b.minute (digit_below _ _ s.month_day b.month_day
    (digit_below _ _ s.holiday b.holiday
    (digit_below _ _ s.weekday b.weekday (digit_below b.position s.position s.zone b.zone h.position h.zone)
    h.weekday) h.holiday) h.month_day) h.minute) h.distance) h.time

-- the bands of a cell's number are the cell's
pub bands_of-cell_number : (s b : Bands) → IsBelow s b → bands_of s (cell_number s b) ≡ b
bands_of-cell_number s b h =
    let zones = b.position * s.zone + b.zone in
    let weekdays = zones * s.weekday + b.weekday in
    let holidays = weekdays * s.holiday + b.holiday in
    let month_days = holidays * s.month_day + b.month_day in
    let minutes = month_days * s.minute + b.minute in
    let distances = minutes * s.distance + b.distance in
    rw (
      div-mul-add distances s.time b.time h.time,
      mod-mul-add distances s.time b.time h.time,
      div-mul-add minutes s.distance b.distance h.distance,
      mod-mul-add minutes s.distance b.distance h.distance,
      div-mul-add month_days s.minute b.minute h.minute,
      mod-mul-add month_days s.minute b.minute h.minute,
      div-mul-add holidays s.month_day b.month_day h.month_day,
      mod-mul-add holidays s.month_day b.month_day h.month_day,
      div-mul-add weekdays s.holiday b.holiday h.holiday,
      mod-mul-add weekdays s.holiday b.holiday h.holiday,
      div-mul-add zones s.weekday b.weekday h.weekday,
      mod-mul-add zones s.weekday b.weekday h.weekday,
      div-mul-add b.position s.zone b.zone h.zone,
      mod-mul-add b.position s.zone b.zone h.zone,
    )

-- one dimension less
pub digit_gone : (n count size : ℕ) → 0 < size → n < count * size → n / size < count
digit_gone n count size some h = div_below n size count some h

-- the bands of a cell are ones that the dimensions have
pub bands_of-below : (s : Bands) (n : ℕ) → 0 < s.zone → 0 < s.weekday → 0 < s.holiday → 0 < s.month_day → 0 < s.minute
    → 0 < s.distance → 0 < s.time
    → n < cell_count s → IsBelow s (bands_of s n)
bands_of-below s n zone weekday holiday month_day minute distance time h = record {
  position = digit_gone _ _ s.zone zone
      (digit_gone _ _ s.weekday weekday (digit_gone _ _ s.holiday holiday (digit_gone _ _ s.month_day month_day
      (digit_gone _ _ s.minute minute (digit_gone _ _ s.distance distance (digit_gone n _ s.time time h))))));
  zone = mod_below _ s.zone zone;
  weekday = mod_below _ s.weekday weekday;
  holiday = mod_below _ s.holiday holiday;
  month_day = mod_below _ s.month_day month_day;
  minute = mod_below _ s.minute minute;
  distance = mod_below _ s.distance distance;
  time = mod_below _ s.time time;
}

-- a number with one digit apart is that number
digit_back : (n size : ℕ) → n / size * size + n % size ≡ n
digit_back n size = ap (λ m. m + n % size) (mul_comm (n / size) size) ∙ div-add-mod n size

-- the number of the bands of a cell is the cell's
pub cell_number-bands_of : (s : Bands) (n : ℕ) → cell_number s (bands_of s n) ≡ n
cell_number-bands_of s n =
    let distances = n / s.time in
    let minutes = distances / s.distance in
    let month_days = minutes / s.minute in
    let holidays = month_days / s.month_day in
    let weekdays = holidays / s.holiday in
    let zones = weekdays / s.weekday in
    rw (
      digit_back zones s.zone,
      digit_back weekdays s.weekday,
      digit_back holidays s.holiday,
      digit_back month_days s.month_day,
      digit_back minutes s.minute,
      digit_back distances s.distance,
      digit_back n s.time,
    )

-- a product above a number has no factor of 0
factor_some : (n a b : ℕ) → n < a * b → (0 < a) × (0 < b)
factor_some n a zero h = absurd (omega (arith, mul-zero a))
factor_some n zero (suc b) h = absurd (omega (arith, zero-mul (suc b)))
factor_some n (suc a) (suc b) h = (omega arith, omega arith)

-- each cell has a place
pub bands_of-place : (s : Bands) (n : ℕ) → n < cell_count s → IsBelow s (bands_of s n)
bands_of-place s n h =
    let time = factor_some n _ s.time h in
    let distance = factor_some 0 _ s.distance time.0 in
    let minute = factor_some 0 _ s.minute distance.0 in
    let month_day = factor_some 0 _ s.month_day minute.0 in
    let holiday = factor_some 0 _ s.holiday month_day.0 in
    let weekday = factor_some 0 _ s.weekday holiday.0 in
    let zone = factor_some 0 s.position s.zone weekday.0 in
    bands_of-below s n zone.1 weekday.1 holiday.1 month_day.1 minute.1 distance.1 time.1 h

-- one digit more keeps the order
digit_order : (n m size d e : ℕ) → n < m → d < size → n * size + d < m * size + e
digit_order n m size d e lt below =
    let up : suc n * size ≤ m * size = mul-le-mul_right size lt in
    omega (arith, suc-mul n size)

next_order : (n m size d e : ℕ) (rest : Type 0) → d < size → (n < m) ⊎ ((n ≡ m) × ((d < e) ⊎ ((d ≡ e) × rest)))
    → (n * size + d < m * size + e) ⊎ ((n * size + d ≡ m * size + e) × rest)
next_order n m size d e rest below (inl lt) = inl (digit_order n m size d e lt below)
next_order n m size d e rest below (inr (same, inl lt)) = inl (rw same (omega arith))
next_order n m size d e rest below (inr (same, inr (also, more))) = inr (rw (same, also) refl, more)

is_lower : (n m : ℕ) → (n < m) ⊎ ((n ≡ m) × ⊥) → n < m
is_lower n m (inl lt) = lt
is_lower n m (inr (same, none)) = absurd none

-- an earlier place has a lower number
pub cell_number-order : (s b c : Bands) → IsBelow s b → IsBefore (places_of b) (places_of c)
    → cell_number s b < cell_number s c
cell_number-order s b c h before =
    let zones = next_order b.position c.position s.zone b.zone c.zone _ h.zone before in
    let weekdays = next_order _ _ s.weekday b.weekday c.weekday _ h.weekday zones in
    let holidays = next_order _ _ s.holiday b.holiday c.holiday _ h.holiday weekdays in
    let month_days = next_order _ _ s.month_day b.month_day c.month_day _ h.month_day holidays in
    let minutes = next_order _ _ s.minute b.minute c.minute _ h.minute month_days in
    let distances = next_order _ _ s.distance b.distance c.distance _ h.distance minutes in
    is_lower (cell_number s b) (cell_number s c) (next_order _ _ s.time b.time c.time ⊥ h.time distances)

-- each number on the way to a cell's number is below a bound
pub record FitsOnTheWay (s b : Bands) (bound : ℕ) : Type 0 where
  pub zones : b.position * s.zone + b.zone < bound
  pub weekdays : (b.position * s.zone + b.zone) * s.weekday + b.weekday < bound
  pub holidays : ((b.position * s.zone + b.zone) * s.weekday + b.weekday) * s.holiday + b.holiday < bound
  pub month_days : (((b.position * s.zone + b.zone) * s.weekday + b.weekday) * s.holiday + b.holiday) * s.month_day
      + b.month_day < bound
  pub minutes : ((((b.position * s.zone + b.zone) * s.weekday + b.weekday) * s.holiday + b.holiday) * s.month_day
      + b.month_day) * s.minute + b.minute < bound
  pub distances : (((((b.position * s.zone + b.zone) * s.weekday + b.weekday) * s.holiday + b.holiday) * s.month_day
      + b.month_day) * s.minute + b.minute) * s.distance + b.distance < bound
  pub cells : cell_number s b < bound

step_up : (n size digit bound : ℕ) → digit < size → n * size + digit < bound → n < bound
step_up n size digit bound below h = let up : n ≤ n * size = le-mul_of_pos_right n (omega arith) in omega arith

-- if the number of cells is at most the bound
pub fits_on_the_way : (s b : Bands) (bound : ℕ) → IsBelow s b → cell_count s ≤ bound → FitsOnTheWay s b bound
fits_on_the_way s b bound h most =
    let last : cell_number s b < bound = omega (arith, cell_number_below s b h) in
    let distances = step_up _ s.time b.time bound h.time last in
    let minutes = step_up _ s.distance b.distance bound h.distance distances in
    let month_days = step_up _ s.minute b.minute bound h.minute minutes in
    let holidays = step_up _ s.month_day b.month_day bound h.month_day month_days in
    let weekdays = step_up _ s.holiday b.holiday bound h.holiday holidays in
    record {
      zones = step_up _ s.weekday b.weekday bound h.weekday weekdays;
      weekdays = weekdays;
      holidays = holidays;
      month_days = month_days;
      minutes = minutes;
      distances = distances;
      cells = last;
    }
