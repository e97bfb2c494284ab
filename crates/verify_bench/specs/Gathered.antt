-- For proofs: the sums of a hiring that the bench gathers interval by interval, a table of them by rates. Groups says
-- what they come to.
use Rattle.std.specs.Prelude.{ℕ, ◌+◌, ◌<◌, ◌^◌, ◌≡◌, ◌≤◌, List, get_or}
use Rattle.verify_bench.specs.{Common.{Both, Distance, Part, RateSums, Setting, Sums, Time, Way}, Groups.{rate_sums}}

-- no intervals come to sums of 0
abbrev pub no_sums : Sums
no_sums = record { pulses = 0; ticks = 0; charge = 0 }

-- intervals and others come to their sums added
abbrev pub sums_with : Sums → Sums → Sums
sums_with a b = record { pulses = a.pulses + b.pulses; ticks = a.ticks + b.ticks; charge = a.charge + b.charge }

-- a rate that charged no interval has sums of 0 in each way
abbrev pub no_rate_sums : RateSums
no_rate_sums = record { distance = no_sums; time = no_sums; both = no_sums }

-- a rate that charged more intervals in a way has their sums more in that way
abbrev pub rate_sums_with : RateSums → Way → Sums → RateSums
rate_sums_with r Distance more = record r { distance = sums_with r.distance more }
rate_sums_with r Time more = record r { time = sums_with r.time more }
rate_sums_with r Both more = record r { both = sums_with r.both more }

-- sums are within others if none is greater
pub record AreWithin (a b : Sums) : Type 0 where
  pub pulses : a.pulses ≤ b.pulses
  pub ticks : a.ticks ≤ b.ticks
  pub charge : a.charge ≤ b.charge

-- the sums of a rate are within others in each way
pub record AreRateWithin (r : RateSums) (b : Sums) : Type 0 where
  pub distance : AreWithin r.distance b
  pub time : AreWithin r.time b
  pub both : AreWithin r.both b

-- sums that are added to those of a rate fit if they fit the greatest sums within which the rate's are
pub record HaveRoom (r : RateSums) (more : Sums) : Type 0 where
  pub most : Sums
  pub within : AreRateWithin r most
  pub pulses : most.pulses + more.pulses < 2 ^ 64
  pub ticks : most.ticks + more.ticks < 2 ^ 32
  pub charge : most.charge + more.charge < 2 ^ 128

-- a table has the sums of the rate at a place, counted from 0, if it is that long, and else no sums
abbrev pub rate_at : List RateSums → (place : ℕ) → RateSums
rate_at table place = get_or table place no_rate_sums

-- the sums of parts that the rate line at a place charged in each way
abbrev pub all_ways : Setting → List Part → (place : ℕ) → RateSums
all_ways s parts place = record {
  distance = rate_sums s parts place Distance;
  time = rate_sums s parts place Time;
  both = rate_sums s parts place Both;
}

-- a table is that of parts if it has the sums of each rate line
abbrev pub IsTableOf : Setting → List Part → List RateSums → Type 0
IsTableOf s parts table = (place : ℕ) → rate_at table place ≡ all_ways s parts place
