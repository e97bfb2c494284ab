-- Rules: the intervals of a trip in groups, by the rate and the way by which they were charged.
use Rattle.std.specs.{Option.{unwrap_or}, Prelude.{nat_lt, sum, true}}
use Rattle.std.specs.Prelude.{[], ℕ, ◌&&◌, ◌*◌, ◌++◌, ◌+◌, ◌==◌, ◌∷◌, Bool, List, false, filter, if◌then◌else◌, map}
use Rattle.verify_bench.specs.Common.{Both, Context, Distance, Double, Group, InHired, InStopped, Mode, Part}
use Rattle.verify_bench.specs.Common.{RateNumbers, Rest, Setting, Single, Sums, Time, Way, charge_in, lines_of}
use Rattle.verify_bench.specs.Common.{place_in_force, pulses_in, rate_in_force, ticks_in}

-- in mode S an interval of p pulses is charged by a rate in the way of its time below the cross-over speed, and else in
-- the way of its distance, whatever the two cost; in mode D it is charged in the way of both
abbrev pub way_by : Mode → (k : ℕ) → RateNumbers → (p : ℕ) → Way
way_by Single k r p = if nat_lt (10000 * p * r.a * r.e) (r.c * k * r.b) then Time else Distance
way_by Double k r p = Both

-- the way of an interval of p pulses in a context is that by the rate that is in force in the context
abbrev pub way_of : Setting → Context → (p : ℕ) → Way
way_of s x p = way_by s.mode s.constant (rate_in_force s.tariff x) p

-- the rate line of a context is the one that holds first in it, told by its place among the rate lines, from 0
abbrev pub rate_place_of : Setting → Context → ℕ
rate_place_of s x = unwrap_or (place_in_force s.tariff.rates x) 0

-- the test `is_same_way` is true if two ways are the same
abbrev pub is_same_way : Way → Way → Bool
is_same_way Distance Distance = true
is_same_way Time Time = true
is_same_way Both Both = true
is_same_way _ _ = false

-- the test `is_charged_by` is true if a part ended in Hired and was charged by the rate line at a place in a way
abbrev pub is_charged_by : Setting → (place : ℕ) → Way → Part → Bool
is_charged_by s place way (InHired p x) = rate_place_of s x == place && is_same_way (way_of s x p) way
is_charged_by s place way (InStopped p) = false
is_charged_by s place way (Rest p) = false

-- the test `is_in_stopped` is true if a part is an interval that ended in Stopped
abbrev pub is_in_stopped : Part → Bool
is_in_stopped (InHired p x) = false
is_in_stopped (InStopped p) = true
is_in_stopped (Rest p) = false

-- the test `is_rest` is true if a part is the pulses of an interval that a supply drop left unfinished
abbrev pub is_rest : Part → Bool
is_rest (InHired p x) = false
is_rest (InStopped p) = false
is_rest (Rest p) = true

-- parts come together to the sums of their pulses, of their ticks and of their charges
abbrev pub sums_of : Setting → List Part → Sums
sums_of s parts = record {
  pulses = sum (map pulses_in parts);
  ticks = sum (map ticks_in parts);
  charge = sum (map (charge_in s) parts);
}

-- the parts of a trip that were charged by the rate line at a place in a way come together to their sums
abbrev pub rate_sums : Setting → List Part → (place : ℕ) → Way → Sums
rate_sums s parts place way = sums_of s (filter (is_charged_by s place way) parts)

-- a group is there if it has an interval
abbrev pub group_if : (line : ℕ) → Way → Sums → List Group
group_if line way sums = if sums.ticks == 0 then [] else record { line = line; way = way; sums = sums } ∷ []

-- the groups of the rate line at a place, which has a number in the text, are one for each way that an interval has
abbrev pub groups_at : Setting → List Part → (place line : ℕ) → List Group
groups_at s parts place line =
    group_if line Distance (rate_sums s parts place Distance)
    ++ (group_if line Time (rate_sums s parts place Time)
    ++ group_if line Both (rate_sums s parts place Both))

-- the groups of rate lines, told by their numbers in the text, of which the first is at a place, are those of each
unfoldable pub groups_from : Setting → List Part → (place : ℕ) → (lines : List ℕ) → List Group
groups_from s parts place [] = []
groups_from s parts place (line ∷ lines) = groups_at s parts place line ++ groups_from s parts (place + 1) lines

-- the groups of parts are those of each rate line of the tariff, in the text's order
abbrev pub groups_of : Setting → List Part → List Group
groups_of s parts = groups_from s parts 0 (lines_of s.tariff.rates)
