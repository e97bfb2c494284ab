-- For proofs: a core that carries out equal measuring intervals at once. `Equals` says what they are, and when one more
-- of them may go.
use Rattle.std.specs.Prelude.{[], ℕ, ◌*◌, ◌+◌, ◌-◌, ◌≡◌, ◌≤◌}
use Rattle.{tariff_compile.specs.declared.parts.Lasting.{Lasting}, meter_states.specs.Equals.{intervals_of}}
use Rattle.meter_states.specs.{Common.{CachedRate, CoreTrip, Meterage, Seal, TableParts, run}, Lawful.{IsBetweenEvents}}
use Rattle.meter_states.specs.{Core.{CoreData}, Stages.{FollowsStage}}

-- a core has taken `taken` of `count` equal intervals if these are at most as many, it is between two events then, and
-- its operating position and the store's number are the same
pub record HasTaken (tables : TableParts) (count : ℕ) (old new : CoreData) (taken : ℕ) : Type 0 where
  pub lawful : IsBetweenEvents tables new
  pub most : taken ≤ count
  pub same : (new.operating ≡ old.operating) × (new.number ≡ old.number)

-- a core follows `count` equal intervals of p pulses under tables and a seal if it follows their events and does
-- nothing
abbrev pub FollowsIntervals : TableParts → Seal → (old new : CoreData) → (p count : ℕ) → Type 0
FollowsIntervals tables seal old new p count =
    FollowsStage tables seal old new [] [] (λ s m. run s (intervals_of p count) m)

-- a kept rate lasts from these pulses and ticks of a trip on for what is left of its own further pulses and ticks
pub record LastsFrom (rate : CachedRate) (pulses ticks : ℕ) (lasting : Lasting) : Type 0 where
  pub weights : lasting.weights ≡ rate.lasting.weights
  pub further : pulses + lasting.further ≡ rate.first.pulses + rate.lasting.further
  pub longer : ticks + lasting.longer ≡ rate.first.ticks + rate.lasting.longer

-- a trip has passed `count` further intervals of p pulses that are free if its pulses and ticks have grown by theirs
abbrev pub passed : (p count : ℕ) → CoreTrip → CoreTrip
passed p count t = record t { pulses = t.pulses + count * p; ticks = t.ticks + count }

-- a meterage after `count` further equal charges that fill no display step has used up its cover first, and then has
-- more rest
abbrev pub unfilled : (charge count : ℕ) → Meterage → Meterage
unfilled charge count m = record m {
  cover_left = m.cover_left - count * charge;
  rest = m.rest + (count * charge - m.cover_left);
}

-- a trip after `count` further intervals of p pulses, whose charges fill no display step, has passed them, and its
-- meterage has the charges
abbrev pub charged : (p charge count : ℕ) → CoreTrip → CoreTrip
charged p charge count t = record (passed p count t) { meterage = unfilled charge count t.meterage }
