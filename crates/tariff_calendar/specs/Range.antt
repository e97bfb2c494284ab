-- Rules: contexts that a trip may have, and those between the same cuts.
use Rattle.std.specs.Prelude.{ℕ, ◌*◌, ◌^◌, ◌≡◌, ◌≤◌, Bool, true}
use Rattle.{taxi_units.specs.Time.{longest_trip}, tariff_check.specs.Parts.{positions_of, zones_of}}
use Rattle.tariff_calendar.specs.{Common.{Context, IsFromTo, Tree, has_holidays}, Lists.{CutLists, count_at_most}}

-- a trip may have a context if its constant is k, its position and zone are there, and its other numbers are in their
-- ranges; it is a holiday only if there are holidays
pub record IsInRange (k positions zones : ℕ) (holidays : Bool) (x : Context) : Type 0 where
  pub constant : x.constant ≡ k
  pub position : IsFromTo 1 positions x.position
  pub zone : IsFromTo 1 zones x.zone
  pub weekday : IsFromTo 1 7 x.weekday
  pub month_day : x.month_day ≤ 365
  pub minute : x.minute ≤ 1439
  pub holiday : x.holiday ≡ true → holidays ≡ true
  pub pulses : x.pulses ≤ 5 * 10 ^ 18
  pub ticks : x.ticks ≤ longest_trip

-- a trip under a tariff may have a context if its position, zone and kind of day are among the tariff's, and its
-- numbers in their ranges
abbrev pub IsInRangeOf : Tree → (k : ℕ) → Context → Type 0
IsInRangeOf t k x = IsInRange k (positions_of t.lines) (zones_of t.lines) (has_holidays t.lines) x

-- two contexts are in one cell if they have the same position, zone, weekday and kind of day, and lie between the
-- same cuts in each dimension
pub record IsSameCell (lists : CutLists) (x y : Context) : Type 0 where
  pub position : x.position ≡ y.position
  pub zone : x.zone ≡ y.zone
  pub weekday : x.weekday ≡ y.weekday
  pub holiday : x.holiday ≡ y.holiday
  pub month_day : count_at_most x.month_day lists.month_days ≡ count_at_most y.month_day lists.month_days
  pub minute : count_at_most x.minute lists.minutes ≡ count_at_most y.minute lists.minutes
  pub distance : count_at_most x.pulses lists.distances ≡ count_at_most y.pulses lists.distances
  pub time : count_at_most x.ticks lists.times ≡ count_at_most y.ticks lists.times
