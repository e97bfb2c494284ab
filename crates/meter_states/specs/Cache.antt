-- Rules: the cache of a core, which is what was looked up and when it still serves.
use Rattle.std.specs.{Option.{ForSome}, Prelude.{ℕ, ◌≡◌, ◌≤◌, true}}
use Rattle.interval_clock.specs.{LocalTime.{local_second, local_time_of}, declared.local_time.LocalTime.{LocalTime}}
use Rattle.{tariff_tree.specs.Writable.{IsFromTo}, tariff_calendar.specs.Lists.{has_days, is_holiday}}
use Rattle.meter_states.specs.Common.{AreFit, Cache, CachedRate, CachedTime, Context, IsInRangeFor, IsNear, IsTablesOf}
use Rattle.meter_states.specs.{Common.{Seal, TableParts, Tree, rate_by}, Core.{CoreData}}

-- a core beside its cache has its own state, and what was looked up for it last
pub record CachedCore : Type 0 where
  pub state : CoreData
  pub cache : Cache

-- the local time of a second is that by the sealed offsets
abbrev pub sealed_time : Seal → (second : ℕ) → LocalTime
sealed_time seal second = local_time_of (local_second seal.params.offsets second)

-- a cached time is that of its second if it has the weekday, the place in the year, the minute and the holiday of the
-- second's local time
pub record IsCachedTimeOf (tables : TableParts) (seal : Seal) (local : CachedTime) : Type 0 where
  pub weekday : local.weekday ≡ (sealed_time seal local.second).weekday
  pub month_day : local.month_day ≡ (sealed_time seal local.second).month_day
  pub minute : local.minute ≡ (sealed_time seal local.second).minute
  pub holiday : (t : Tree) → IsTablesOf t tables → local.holiday ≡ is_holiday t.lines
      (sealed_time seal local.second).year (sealed_time seal local.second).month (sealed_time seal local.second).date
  pub weekdays : IsFromTo 1 7 local.weekday
  pub month_days : local.month_day ≤ 365
  pub minutes : local.minute ≤ 1439
  pub holidays : local.holiday ≡ true → has_days tables.cuts ≡ true

-- a cached rate lasts if its weights are those of each context that is near its first one, and are fit
pub record IsCachedRateOf (tables : TableParts) (rate : CachedRate) : Type 0 where
  pub near : (t : Tree) (x : Context) → IsTablesOf t tables → IsInRangeFor tables x
      → IsNear rate.lasting.further rate.lasting.longer rate.first x
      → rate.lasting.weights ≡ rate_by t tables.constant x
  pub fit : AreFit tables.measure rate.lasting.weights

-- a cache is one of tables and a seal if its time, if any, is one of both, and its rate, if any, one of the tables
pub record IsCacheOf (tables : TableParts) (seal : Seal) (cache : Cache) : Type 0 where
  pub local : ForSome cache.local (IsCachedTimeOf tables seal)
  pub rate : ForSome cache.rate (IsCachedRateOf tables)
