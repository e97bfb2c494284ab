-- For proofs: a hiring of the bench with the sums of its intervals, and which trip of the meter it is. Trip, of
-- meter_model, says what a trip is.
use Rattle.std.specs.Prelude.{ℕ, ◌*◌, ◌≡◌, ◌≤◌, All, filter}
use Rattle.{meter_model.specs.Trip.{fees_of}, verify_bench.specs.{Common.{times, unit_of}, Fees.{fees_of_hiring}}}
use Rattle.verify_bench.specs.Common.{Context, Hiring, IsFitInitial, IsSecond, IsSupplementNumber, MeterTrip, Setting}
use Rattle.verify_bench.specs.Gathered.{AreRateWithin, AreWithin, IsTableOf, rate_at}
use Rattle.verify_bench.specs.{Groups.{is_in_stopped, is_rest, sums_of}, Limits.{most_charge, most_money}}

-- a hiring of the bench is a trip of the meter that began with it in a context if both have the same start, fees and
-- supplements, and the hiring has the sums of the trip's parts; its charges are at most 41 * 10^9 of the smallest units
-- of money for each tick
pub record IsHiringOf (s : Setting) (hired : Context) (hiring : Hiring) (trip : MeterTrip) : Type 0 where
  pub started : trip.started ≡ hiring.started
  pub fees : trip.fees ≡ fees_of hiring.fees.amounts
  pub opening : trip.opening
      ≡ record { cover = hiring.fees.amounts.covers * unit_of s; above = 0; pulses = 0; ticks = 0 }
  pub own_fees : hiring.fees ≡ fees_of_hiring s.tariff hired
  pub whole : hiring.whole ≡ sums_of s trip.parts
  pub rates : IsTableOf s trip.parts hiring.rates.items
  pub stopped : hiring.stopped ≡ sums_of s (filter is_in_stopped trip.parts)
  pub dropped : hiring.dropped ≡ (sums_of s (filter is_rest trip.parts)).pulses
  pub extras : trip.extras ≡ hiring.extras.items
  pub few : hiring.whole.charge ≤ most_money * unit_of s * hiring.whole.ticks

-- a hiring is whole if its start and its fees are in their ranges, its charges are few for its ticks, and no sum is
-- greater than that of the whole; each of its supplements is numbered 1 to 16 and was added at most 99 times
pub record IsWhole (hiring : Hiring) : Type 0 where
  pub started : IsSecond hiring.started
  pub fees : IsFitInitial hiring.fees.amounts
  pub charge : hiring.whole.charge ≤ most_charge * hiring.whole.ticks
  pub rates : (place : ℕ) → AreRateWithin (rate_at hiring.rates.items place) hiring.whole
  pub stopped : AreWithin hiring.stopped hiring.whole
  pub dropped : hiring.dropped ≤ hiring.whole.pulses
  pub numbers : All IsSupplementNumber hiring.extras.items
  pub few : (number : ℕ) → times number hiring.extras.items ≤ 99
