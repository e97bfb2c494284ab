-- Rules: the cells of a tariff, how they are numbered, and a context of each.
use Rattle.std.specs.Prelude.{[], ℕ, ◌%◌, ◌*◌, ◌+◌, ◌-◌, ◌/◌, ◌<◌, ◌==◌, ◌^◌, ◌∷◌, ◌≡◌, ◌⊎◌, All, List, get_or}
use Rattle.std.specs.Prelude.{if◌then◌else◌, length, min}
use Rattle.{taxi_units.specs.Time.{longest_trip}, tariff_compile.specs.Common.{Bands, Context, CutLists, count_at_most}}

-- the size of a dimension is how many numbers it has: one for each position, zone, weekday or kind of day, and in the
-- others one more than there are cuts
abbrev pub sizes_of : (positions zones day_kinds : ℕ) → CutLists → Bands
sizes_of positions zones day_kinds lists =
    record {
      position = positions;
      zone = zones;
      weekday = 7;
      holiday = day_kinds;
      month_day = length lists.month_days + 1;
      minute = length lists.minutes + 1;
      distance = length lists.distances + 1;
      time = length lists.times + 1;
    }

-- numbers are those of a cell if each is below the size of its dimension
pub record IsBelow (sizes b : Bands) : Type 0 where
  pub position : b.position < sizes.position
  pub zone : b.zone < sizes.zone
  pub weekday : b.weekday < sizes.weekday
  pub holiday : b.holiday < sizes.holiday
  pub month_day : b.month_day < sizes.month_day
  pub minute : b.minute < sizes.minute
  pub distance : b.distance < sizes.distance
  pub time : b.time < sizes.time

-- the numbers of a cell stand one after another, from the position to the time
abbrev pub places_of : Bands → List ℕ
places_of b =
    b.position ∷ b.zone ∷ b.weekday ∷ b.holiday ∷ b.month_day ∷ b.minute ∷ b.distance ∷ b.time ∷ []

-- numbers come before others if they have the lower number at the first place at which they differ
abbrev pub IsBefore : List ℕ → List ℕ → Type 0
IsBefore (x ∷ xs) (y ∷ ys) = (x < y) ⊎ ((x ≡ y) × IsBefore xs ys)
IsBefore xs ys = ⊥

-- there are as many cells as the product of the sizes of all dimensions
abbrev pub cell_count : (sizes : Bands) → ℕ
cell_count s = s.position * s.zone * s.weekday * s.holiday * s.month_day * s.minute * s.distance * s.time

-- the number of a cell counts from 0 over the dimensions, of which the last runs fastest
abbrev pub cell_number : (sizes b : Bands) → ℕ
cell_number s b =
    ((((((b.position * s.zone + b.zone) * s.weekday + b.weekday) * s.holiday + b.holiday) * s.month_day + b.month_day)
    * s.minute + b.minute) * s.distance + b.distance) * s.time + b.time

-- the numbers of a cell are told by its number: they are the remainders by the sizes of the dimensions
abbrev pub bands_of : (sizes : Bands) (cell : ℕ) → Bands
bands_of s n =
    let distances = n / s.time in
    let minutes = distances / s.distance in
    let month_days = minutes / s.minute in
    let holidays = month_days / s.month_day in
    let weekdays = holidays / s.holiday in
    let zones = weekdays / s.weekday in
    record {
      position = zones / s.zone;
      zone = zones % s.zone;
      weekday = weekdays % s.weekday;
      holiday = holidays % s.holiday;
      month_day = month_days % s.month_day;
      minute = minutes % s.minute;
      distance = distances % s.distance;
      time = n % s.time;
    }

-- the numbers of a context's cell are its position, zone and weekday, from 0, 1 for a holiday, and in each other
-- dimension how many cuts are at or below it
abbrev pub bands_at : CutLists → Context → Bands
bands_at lists x =
    record {
      position = x.position - 1;
      zone = x.zone - 1;
      weekday = x.weekday - 1;
      holiday = if x.holiday then 1 else 0;
      month_day = count_at_most x.month_day lists.month_days;
      minute = count_at_most x.minute lists.minutes;
      distance = count_at_most x.pulses lists.distances;
      time = count_at_most x.ticks lists.times;
    }

-- a band begins at its cut, and the first one at 0
abbrev pub beginning : List ℕ → (band : ℕ) → ℕ
beginning cuts band = get_or (0 ∷ cuts) band 0

-- the context of a cell is at the beginning of each of its bands; a cell whose ticks begin beyond 8,640,000, the most
-- that a trip has, has the context at 8,640,000 ticks
abbrev pub context_in : (k : ℕ) → CutLists → Bands → Context
context_in k lists b =
    record {
      constant = k;
      position = b.position + 1;
      zone = b.zone + 1;
      weekday = b.weekday + 1;
      month_day = beginning lists.month_days b.month_day;
      holiday = b.holiday == 1;
      minute = beginning lists.minutes b.minute;
      pulses = beginning lists.distances b.distance;
      ticks = min longest_trip (beginning lists.times b.time);
    }

-- the numbers of a cell are narrow if its position, zone and weekday are ones that a tariff may have
pub record IsNarrow (b : Bands) : Type 0 where
  pub position : b.position < 9
  pub zone : b.zone < 9
  pub weekday : b.weekday < 7

-- lists have low cuts if the places of days and the minutes are below 2^16
pub record HasLowCuts (lists : CutLists) : Type 0 where
  pub month_days : All (λ cut. cut < 2 ^ 16) lists.month_days
  pub minutes : All (λ cut. cut < 2 ^ 16) lists.minutes
