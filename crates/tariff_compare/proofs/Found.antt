-- What is found in a grid is the first of its contexts that meets the test.
use Rattle.{std.specs.List.{range_with_len}, tariff_check.specs.Cuts.{IsRising}}
use Rattle.std.proofs.Common.{ℕ, ◌%◌, ◌&&◌, ◌*◌, ◌+◌, ◌-◌, ◌/◌, ◌<◌, ◌∙◌, ◌≡◌, ◌≤◌, ◌⊎◌, Bool, None, Option, Some, ap}
use Rattle.std.proofs.Common.{arith, div-one, false, find, get_or, if◌then◌else◌, inl, inr, length, mul-one, option_map}
use Rattle.std.proofs.{Common.{refl, subst, suc, sym, true}, lemmas.{Bool.{cases_lt, false≢true}, List.{length-map}}}
use Rattle.tariff_compile.specs.Cells.{IsBelow, bands_of, cell_count, cell_number, places_of}
use Rattle.tariff_compile.{specs.declared.parts.Bands.{Bands}, proofs.Laws.{cells_are_numbered_in_order-place}}
use Rattle.tariff_compile.proofs.Laws.{cells_are_numbered_in_order-number, cells_are_numbered_in_order-order}
use Rattle.tariff_compare.specs.{Common.{Day, IsBefore, MeterContext}, Grids.{GridLists, is_meter_time}}
use Rattle.tariff_compare.{specs.Contexts.{IsEarlier, day_place}, proofs.Frames.{both_parts, none_found}}
use Rattle.tariff_compare.specs.Searches.{IsNumbered, context_count, context_of, context_with, day_numbers, day_part}
use Rattle.tariff_compare.{specs.Searches.{in_grid, is_found}, proofs.FirstParts.{earlier_fail, found_passes}}
use Rattle.tariff_compare.proofs.{GridDays.{AreRisingDays}, Numbers.{IsIn, at_place, place_in, range_in, range_within}}

-- ---- contexts by their parts

abbrev context_is : (position zone day minute ticks pulses : ℕ) → MeterContext
context_is position zone day minute ticks pulses =
    record { position = position; zone = zone; day = day; minute = minute; ticks = ticks; pulses = pulses }

same_parts : (a b c d e f a₂ b₂ c₂ d₂ e₂ f₂ : ℕ) → a ≡ a₂ → b ≡ b₂ → c ≡ c₂ → d ≡ d₂ → e ≡ e₂ → f ≡ f₂
    → context_is a b c d e f ≡ context_is a₂ b₂ c₂ d₂ e₂ f₂
same_parts a b c d e f a₂ b₂ c₂ d₂ e₂ f₂ h₁ h₂ h₃ h₄ h₅ h₆ = cc

-- a context is one of a grid if each list has its part, and it is a time of the meter
pub record IsOfGrid (grid : GridLists) (n : MeterContext) : Type 0 where
  pub position : IsIn n.position grid.positions
  pub zone : IsIn n.zone grid.zones
  pub day : IsIn n.day (day_numbers grid)
  pub time : is_meter_time n.day n.minute ≡ true
  pub minute : IsIn n.minute grid.minutes
  pub ticks : IsIn n.ticks grid.ticks
  pub pulses : IsIn n.pulses grid.pulses

-- a grid is in order if each of its lists is
pub record IsOrderedGrid (grid : GridLists) : Type 0 where
  pub positions : IsRising grid.positions
  pub zones : IsRising grid.zones
  pub days : AreRisingDays (day_numbers grid)
  pub minutes : IsRising grid.minutes
  pub ticks : IsRising grid.ticks
  pub pulses : IsRising grid.pulses

-- ---- contexts are numbered as cells are, of which the days stand for the weekdays, and the ticks and the pulses for
-- the last two dimensions

abbrev sizes_in : GridLists → Bands
sizes_in grid = record {
  position = length grid.positions;
  zone = length grid.zones;
  weekday = length grid.days;
  holiday = 1;
  month_day = 1;
  minute = length grid.minutes;
  distance = length grid.ticks;
  time = length grid.pulses;
}

-- the context whose parts stand at these places
abbrev context_in : GridLists → Bands → MeterContext
context_in grid b = record {
  position = get_or grid.positions b.position 0;
  zone = get_or grid.zones b.zone 0;
  day = get_or (day_numbers grid) b.weekday 0;
  minute = get_or grid.minutes b.minute 0;
  ticks = get_or grid.ticks b.distance 0;
  pulses = get_or grid.pulses b.time 0;
}

by_one : (n : ℕ) → n / 1 / 1 ≡ n
by_one n = div-one (n / 1) ∙ div-one n

times_one : (n : ℕ) → n * 1 * 1 ≡ n
times_one n = mul-one (n * 1) ∙ mul-one n

count_is : (grid : GridLists) → cell_count (sizes_in grid) ≡ context_count grid
count_is grid =
    ap (λ (n : ℕ). n * length grid.minutes * length grid.ticks * length grid.pulses)
    (times_one (length grid.positions * length grid.zones * length grid.days))

context_at : (grid : GridLists) (n : ℕ) → context_in grid (bands_of (sizes_in grid) n) ≡ context_of grid n
context_at grid n = ap (context_with grid n) (by_one (day_part grid n))

place_of : (grid : GridLists) (n : ℕ) → n < context_count grid
    → IsBelow (sizes_in grid) (bands_of (sizes_in grid) n)
    × (cell_number (sizes_in grid) (bands_of (sizes_in grid) n) ≡ n)
place_of grid n within =
    cells_are_numbered_in_order-place (sizes_in grid) n (subst (λ (count : ℕ). n < count) (sym (count_is grid)) within)

-- each number below the count is that of a context
pub numbered : (grid : GridLists) (n : ℕ) → n < context_count grid → IsNumbered grid n
numbered grid n within =
    let below = (place_of grid n within).0 in
    let days = by_one (day_part grid n) in
    record {
      position =
          subst (λ (x : ℕ). x / length grid.days / length grid.zones < length grid.positions) days below.position;
      zone = subst (λ (x : ℕ). x / length grid.days % length grid.zones < length grid.zones) days below.zone;
      day = subst (λ (x : ℕ). x % length grid.days < length grid.days) days below.weekday;
      minute = below.minute;
      ticks = below.distance;
      pulses = below.time;
    }

-- the context of a number is one of the grid if it is a time of the meter
of_number : (grid : GridLists) (n : ℕ) → IsNumbered grid n
    → is_meter_time (context_of grid n).day (context_of grid n).minute ≡ true → IsOfGrid grid (context_of grid n)
of_number grid n is time = record {
  position = at_place grid.positions _ is.position;
  zone = at_place grid.zones _ is.zone;
  day = at_place (day_numbers grid) (day_part grid n % length grid.days)
      (omega (arith, is.day, length-map grid.days (λ (d : Day). d.number)));
  time = time;
  minute = at_place grid.minutes _ is.minute;
  ticks = at_place grid.ticks _ is.ticks;
  pulses = at_place grid.pulses _ is.pulses;
}

-- each context of the grid has a number
number_of : (grid : GridLists) (n : MeterContext) → IsOfGrid grid n
    → (k : ℕ) × (k < context_count grid) × (context_of grid k ≡ n)
number_of grid n is =
    let position = place_in n.position grid.positions is.position in
    let zone = place_in n.zone grid.zones is.zone in
    let day = place_in n.day (day_numbers grid) is.day in
    let minute = place_in n.minute grid.minutes is.minute in
    let ticks = place_in n.ticks grid.ticks is.ticks in
    let pulses = place_in n.pulses grid.pulses is.pulses in
    let b : Bands = record {
      position = position.0;
      zone = zone.0;
      weekday = day.0;
      holiday = 0;
      month_day = 0;
      minute = minute.0;
      distance = ticks.0;
      time = pulses.0;
    } in
    let below : IsBelow (sizes_in grid) b = record {
      position = position.1;
      zone = zone.1;
      weekday = omega (arith, day.1, length-map grid.days (λ (d : Day). d.number));
      holiday = omega arith;
      month_day = omega arith;
      minute = minute.1;
      distance = ticks.1;
      time = pulses.1;
    } in
    let k = cell_number (sizes_in grid) b in
    let number = cells_are_numbered_in_order-number (sizes_in grid) b below in (
      k,
      subst (λ (count : ℕ). k < count) (count_is grid) number.0,
      sym (context_at grid k) ∙ ap (context_in grid) number.1
          ∙ same_parts _ _ _ _ _ _ _ _ _ _ _ _ position.2 zone.2 day.2 minute.2 ticks.2 pulses.2,
    )

-- ---- the order of contexts is that of their numbers

lower : (value : ℕ → ℕ) (count i j : ℕ) (Rest More : Type 0)
    → ((i j : ℕ) → i < j → j < count → value i < value j) → i < count → j < count → (Rest → More)
    → (value i < value j) ⊎ ((value i ≡ value j) × Rest) → (i < j) ⊎ ((i ≡ j) × More)
lower value count i j Rest More rises here there more (inl lt) =
    elim (cases_lt i j) [
      | inl before ↦ inl before
      | inr from ↦ elim (cases_lt j i) [
        | inl after ↦ absurd (omega (arith, lt, rises j i after here))
        | inr to ↦ let same : i ≡ j = omega (arith, from, to) in absurd (omega (arith, lt, ap value same))
      ]
    ]
lower value count i j Rest More rises here there more (inr both) =
    let level : value i ≡ value j = both.0 in
    elim (cases_lt i j) [
      | inl before ↦ absurd (omega (arith, level, rises i j before there))
      | inr from ↦ elim (cases_lt j i) [
        | inl after ↦ absurd (omega (arith, level, rises j i after here))
        | inr to ↦ inr (omega (arith, from, to), more both.1)
      ]
    ]

places_before : (grid : GridLists) (b c : Bands) → IsOrderedGrid grid → IsBelow (sizes_in grid) b
    → IsBelow (sizes_in grid) c → IsEarlier (context_in grid b) (context_in grid c)
    → IsBefore (places_of b) (places_of c)
places_before grid b c ordered one other earlier =
    let more = length-map grid.days (λ (d : Day). d.number) in
    lower (λ i. get_or grid.positions i 0) (length grid.positions) b.position c.position _ _ ordered.positions
    one.position other.position
    (lower (λ i. get_or grid.zones i 0) (length grid.zones) b.zone c.zone _ _ ordered.zones one.zone other.zone
    (lower (λ i. day_place (get_or (day_numbers grid) i 0)) (length (day_numbers grid)) b.weekday c.weekday _ _
    ordered.days (omega (arith, one.weekday, more)) (omega (arith, other.weekday, more))
    (λ rest. inr (
      omega (arith, one.holiday, other.holiday),
      inr (
        omega (arith, one.month_day, other.month_day),
        lower (λ i. get_or grid.minutes i 0) (length grid.minutes) b.minute c.minute _ _ ordered.minutes one.minute
            other.minute
            (lower (λ i. get_or grid.ticks i 0) (length grid.ticks) b.distance c.distance _ _ ordered.ticks one.distance
            other.distance
            (lower (λ i. get_or grid.pulses i 0) (length grid.pulses) b.time c.time _ _ ordered.pulses one.time
            other.time
            (λ none. none))) rest,
      ),
    )))) earlier

-- an earlier context has a lower number
number_order : (grid : GridLists) (n m : ℕ) → IsOrderedGrid grid → n < context_count grid → m < context_count grid
    → IsEarlier (context_of grid n) (context_of grid m) → n < m
number_order grid n m ordered here there earlier =
    let sizes = sizes_in grid in
    let b = bands_of sizes n in
    let c = bands_of sizes m in
    let one = place_of grid n here in
    let other = place_of grid m there in
    let before : IsEarlier (context_in grid b) (context_in grid c) =
    subst (λ (x : MeterContext). IsEarlier x (context_in grid c)) (sym (context_at grid n))
    (subst (IsEarlier (context_of grid n)) (sym (context_at grid m)) earlier) in
    let lt = cells_are_numbered_in_order-order sizes b c one.0 other.0
    (places_before grid b c ordered one.0 other.0 before) in
    omega (arith, lt, one.1, other.1)

-- ---- the search

-- an answer is the first context of a kind that meets a test, or none if none does
abbrev pub IsFirstOf : (MeterContext → Bool) → (MeterContext → Type 0) → Option MeterContext → Type 0
IsFirstOf met Kind None = (n : MeterContext) → Kind n → met n ≡ false
IsFirstOf met Kind (Some m) =
    Kind m × (met m ≡ true) × ((n : MeterContext) → Kind n → IsEarlier n m → met n ≡ false)

other_fails : (a b : Bool) → a ≡ true → (a && b) ≡ false → b ≡ false
other_fails true b is h = h
other_fails false b is h = absurd (false≢true is)

-- a context of the grid whose number doesn't pass doesn't meet the test
unmet : (met : MeterContext → Bool) (grid : GridLists) (k : ℕ) (n : MeterContext) → IsOfGrid grid n
    → context_of grid k ≡ n → is_found met (context_of grid k) ≡ false → met n ≡ false
unmet met grid k n is same fails =
    other_fails (is_meter_time n.day n.minute) (met n) is.time (ap (is_found met) (sym same) ∙ fails)

first_by : (met : MeterContext → Bool) (grid : GridLists) (r : Option ℕ) → IsOrderedGrid grid
    → find (λ number. is_found met (context_of grid number)) (range_with_len 0 (context_count grid)) ≡ r
    → IsFirstOf met (IsOfGrid grid) (option_map (context_of grid) r)
first_by met grid None ordered found = λ n is.
    let k = number_of grid n is in
    let numbers = range_with_len 0 (context_count grid) in
    unmet met grid k.0 n is k.2 (none_found (λ number. is_found met (context_of grid number)) numbers found k.0
    (range_within 0 (context_count grid) k.0 (omega arith) (omega (arith, k.1))))
first_by met grid (Some i) ordered found =
    let p : ℕ → Bool = λ number. is_found met (context_of grid number) in
    let numbers = range_with_len 0 (context_count grid) in
    let is = found_passes p numbers i found in
    let there = range_in 0 (context_count grid) i is.1 in
    let both = both_parts (is_meter_time (context_of grid i).day (context_of grid i).minute) (met (context_of grid i))
    is.0 in (
      of_number grid i (numbered grid i (omega (arith, there.1))) both.0,
      both.1,
      λ n kind earlier.
          let k = number_of grid n kind in
          let lt = number_order grid k.0 i ordered k.1 (omega (arith, there.1))
          (subst (λ (x : MeterContext). IsEarlier x (context_of grid i)) (sym k.2) earlier) in
          unmet met grid k.0 n kind k.2 (earlier_fail p 0 (context_count grid) i k.0 found (omega arith) lt),
    )

-- the search through a grid in order finds the first of its contexts that meets the test
pub grid_first : (met : MeterContext → Bool) (grid : GridLists) → IsOrderedGrid grid
    → IsFirstOf met (IsOfGrid grid) (in_grid met grid)
grid_first met grid ordered = first_by met grid
    (find (λ number. is_found met (context_of grid number)) (range_with_len 0 (context_count grid))) ordered refl

-- ---- number by number

find_next : (p : ℕ → Bool) (n count : ℕ) → n < count → find p (range_with_len n (count - n))
    ≡ (if p n then Some n else find p (range_with_len (n + 1) (count - (n + 1))))
find_next p n count lt =
    let more : count - n ≡ suc (count - (n + 1)) = omega (arith, lt) in
    ap (λ (k : ℕ). find p (range_with_len n k)) more

pub found_here : (p : ℕ → Bool) (n count : ℕ) → n < count → p n ≡ true
    → find p (range_with_len n (count - n)) ≡ Some n
found_here p n count lt is = find_next p n count lt
    ∙ ap (λ (b : Bool). if b then Some n else find p (range_with_len (n + 1) (count - (n + 1)))) is

pub found_later : (p : ℕ → Bool) (n count : ℕ) → n < count → p n ≡ false
    → find p (range_with_len n (count - n)) ≡ find p (range_with_len (n + 1) (count - (n + 1)))
found_later p n count lt is = find_next p n count lt
    ∙ ap (λ (b : Bool). if b then Some n else find p (range_with_len (n + 1) (count - (n + 1)))) is

pub found_none : (p : ℕ → Bool) (n count : ℕ) → count ≤ n → find p (range_with_len n (count - n)) ≡ None
found_none p n count le =
    let none : count - n ≡ 0 = omega (arith, le) in
    ap (λ (k : ℕ). find p (range_with_len n k)) none
