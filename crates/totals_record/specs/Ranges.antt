-- Rules: the ranges of what a totals' slot holds, in the order of its table, and the number of a state.
use Rattle.{std.specs.List.{All, sum_by}, taxi_units.specs.Limits.{largest_supplements, roaming_amid}}
use Rattle.std.specs.Prelude.{ℕ, ◌*◌, ◌+◌, ◌<◌, ◌^◌, ◌≡◌, ◌≤◌, ◌⊎◌, IfSome, false, is_some, length, replicate, true}
use Rattle.{taxi_units.specs.Time.{IsSecond, last_second}, totals_record.specs.Entries.{closes, distance_of, no_share}}
use Rattle.totals_record.specs.Common.{Durable, Entry, Totals, Trip, largest_amount, last_number, last_tick}

-- the number of a state is the one by which the later of two is known
abbrev pub state_number_of : Durable → ℕ
state_number_of durable = durable.number

-- the newest layout, in which each commit is written, is 2
abbrev pub newest_layout : ℕ
newest_layout = 2

-- a trip is in its ranges beside the number of a state if each of its fields is in its own
pub record IsTripInItsRanges (number : ℕ) (trip : Trip) : Type 0 where
  pub started : IsSecond trip.started
  pub saved : (trip.started ≤ trip.saved) × (trip.saved ≤ last_second)
  pub position : (1 ≤ trip.position) × (trip.position ≤ 9)
  pub zone : (1 ≤ trip.zone) × (trip.zone ≤ 9)
  pub roam : trip.roam ≤ roaming_amid
  pub pulses : trip.pulses ≤ 2000 * (trip.ticks + number)
  pub ticks : trip.ticks ≤ last_tick
  pub initial : trip.initial ≤ largest_amount
  pub cover_left : trip.meterage.cover_left ≤ 2 * 10 ^ 31
  pub steps_full : trip.meterage.steps_full ≤ 41000000000 * trip.ticks
  pub rest : trip.meterage.rest < 2 * 10 ^ 29
  pub extras : (length trip.extras ≡ 16) × All (λ count. count ≤ 99) trip.extras
  pub extras_sum : trip.extras_sum ≤ largest_supplements
  pub minimum : trip.minimum ≤ largest_amount

-- a trip may be held beside a number if the number leaves room for its closing entry, and the trip is in its ranges
pub record IsHeld (number : ℕ) (trip : Trip) : Type 0 where
  pub room : number ≤ last_number
  pub ranges : IsTripInItsRanges number trip

-- shares are those of their totals if hirings and fare are the sums of nine shares and of what was counted before there
-- were shares; in layout 1 the shares are all zero
pub record AreShares (layout : ℕ) (totals : Totals) : Type 0 where
  pub nine : length totals.shares ≡ 9
  pub hirings : sum_by (λ share. share.hirings) totals.shares + totals.before.hirings ≡ totals.hirings
  pub fare : sum_by (λ share. share.fare) totals.shares + totals.before.fare ≡ totals.fare
  pub unshared : layout ≡ 1 → totals.shares ≡ replicate 9 no_share

-- a durable state may stand in a slot if each of its fields is in its range
pub record IsDurable (durable : Durable) : Type 0 where
  pub number : (1 ≤ durable.number) × (durable.number ≤ last_number + 1)
  pub distance : durable.totals.distance_mm ≤ 10 ^ 22 * durable.number
  pub hired : durable.totals.hired_mm ≤ durable.totals.distance_mm
  pub hirings : durable.totals.hirings ≤ durable.number
  pub supplements : durable.totals.supplements ≤ 10 ^ 10 * durable.number
  pub fare : durable.totals.fare ≤ 10 ^ 8 * durable.number
  pub held : IfSome durable.hold (IsHeld durable.number)
  pub shares : AreShares durable.layout durable.totals
  pub layout : (durable.layout ≡ 1) ⊎ (durable.layout ≡ 2)

-- an entry is in its ranges if each of its numbers is one that the meter can make; one of roaming has no fare, since
-- none of the shares would have it
pub record IsEntry (entry : Entry) : Type 0 where
  pub distance : distance_of entry ≤ 10 ^ 22
  pub fare : entry.fare ≤ largest_amount
  pub supplements : entry.supplements ≤ largest_supplements
  pub position : closes entry ≡ true → (1 ≤ entry.position) × (entry.position ≤ 9)
  pub roaming : closes entry ≡ false → entry.fare ≡ 0

-- a state has room for an entry if the entry closes a hiring, or no trip is held, or the number leaves room for the
-- entry that will close the held trip
abbrev pub HasRoom : Durable → Entry → Type 0
HasRoom durable entry = closes entry ≡ false → is_some durable.hold ≡ true → durable.number + 1 ≤ last_number
