-- Rules: which trip and which receipt an explanation is of, and what its parts come to together.
use Rattle.{std.specs.{List.{slice_get}, Prelude.{true}}, drive_modes.specs.Distance.{millimetres_of}}
use Rattle.std.specs.Prelude.{ℕ, ◌*◌, ◌++◌, ◌+◌, ◌<◌, ◌↔◌, ◌∷◌, ◌≡◌, ◌⊎◌, All, Bool, List, None, Some, filter, map, sum}
use Rattle.{drive_modes.specs.Fare.{steps_above}, tariff_check.specs.Parts.{InitialNumbers}}
use Rattle.meter_model.specs.{Charge.{distance_charge, time_charge}, Setting.{rounding_of}, Trip.{fees_of}}
use Rattle.verify_bench.specs.{ClosedTrips.{IsClosedTrip, TripOf, closing_meter, hiring_meter}, Receipts.{receipts_in}}
use Rattle.verify_bench.specs.Common.{Act, Both, Choice, Context, Distance, Event, Group, HiringFees, InHired}
use Rattle.verify_bench.specs.Common.{InStopped, IsSupplementNumber, IsWritable, Kind, MeterTrip, Part, RateNumbers}
use Rattle.verify_bench.specs.Common.{Receipt, Rest, Setting, Taken, Time, Tree, Way, at_hiring, context_now}
use Rattle.verify_bench.specs.Common.{fees_in_force, place_in_force, pulses_in, receipt_of, shown_fare, sound_of, step}
use Rattle.verify_bench.specs.{Common.{ticks_in, unit_of}, Groups.{way_by}, TripExplanations.{Explanation, explanation}}

-- an interval of p pulses is charged in a way by a rate what its distance costs, what its time costs, or both
abbrev pub charge_in_way : (k common : ℕ) → RateNumbers → (p : ℕ) → Way → ℕ
charge_in_way k common r p Distance = distance_charge common r p
charge_in_way k common r p Time = time_charge k common r
charge_in_way k common r p Both = distance_charge common r p + time_charge k common r

-- a setting is of a text if it has the parts of a tariff whose numbers a text can have
abbrev pub IsOfText : Setting → Type 0
IsOfText s = (t : Tree) × IsWritable t × (s.tariff ≡ sound_of t)

-- a trip began in a context with the fees and the cover that are in force there, and with nothing charged and no pulse
-- and no tick; each of its supplements is numbered 1 to 16, if the setting is of a text
pub record BeganIn (s : Setting) (hired : Context) (trip : MeterTrip) : Type 0 where
  pub fees : trip.fees ≡ fees_of (fees_in_force s.tariff hired)
  pub opening : trip.opening
      ≡ record { cover = (fees_in_force s.tariff hired).covers * unit_of s; above = 0; pulses = 0; ticks = 0 }
  pub extras : IsOfText s → All IsSupplementNumber trip.extras

-- a receipt is printed among acts if it is one of those that they print
pub record IsReceiptAmong (acts : List Act) (receipt : Receipt) : Type 0 where
  pub front : List Receipt
  pub back : List Receipt
  pub among : receipts_in acts ≡ front ++ receipt ∷ back

-- an explanation is of a trip of a drive that was closed if it is by the context in which the meter hired the trip, by
-- the parts that the drive's events added, and by the receipt that closed the trip
pub record IsOfTrip (s : Setting) (events : List Event) (e : Explanation) : Type 0 where
  pub of : TripOf s events
  pub trip : MeterTrip
  pub kind : Kind
  pub finish : ℕ
  pub position : ℕ
  pub number : ℕ
  pub closed : IsClosedTrip s events of trip
  pub began : BeganIn s (context_now s (hiring_meter s events of)) trip
  pub printed : IsReceiptAmong (step s of.closing (closing_meter s events of)).acts e.receipt
  pub is : e ≡ explanation s (context_now s (hiring_meter s events of)) (Some trip)
      (receipt_of s kind finish position trip number)

-- the parts of an explanation are the whole if the charges of its groups are those of the trip; the pulses and the
-- ticks of its groups, of its intervals in Stopped and of its unfinished ones are the trip's
pub record ArePartsTheWhole (e : Explanation) : Type 0 where
  pub charge : sum (map (λ (g : Group). g.sums.charge) e.groups) ≡ e.whole.charge
  pub pulses : sum (map (λ (g : Group). g.sums.pulses) e.groups) + e.stopped.pulses + e.dropped ≡ e.whole.pulses
  pub ticks : sum (map (λ (g : Group). g.sums.ticks) e.groups) + e.stopped.ticks ≡ e.whole.ticks

-- an explanation makes the receipt if the trip's pulses make its distance, and the supplements that were taken the sum
-- of its supplements; the trip's charges make its display steps, by what the fee covers, the step and the rounding, and
-- these make its fare, with the initial hire fee and the minimum fare
pub record MakesReceipt (s : Setting) (e : Explanation) : Type 0 where
  pub distance : e.receipt.hired_mm ≡ millimetres_of s.constant e.whole.pulses
  pub steps : e.receipt.steps ≡ steps_above (rounding_of s)
      (record { cover = e.fees.amounts.covers * unit_of s; above = 0; modulus = e.receipt.step * unit_of s })
      e.whole.charge
  pub step : e.receipt.step ≡ s.tariff.step.0
  pub fare : e.receipt.fare ≡ shown_fare e.receipt.initial e.receipt.minimum e.receipt.step e.receipt.steps
  pub supplements : IsOfText s
      → sum (map (λ (t : Taken). t.count * t.amount) e.taken) ≡ e.receipt.supplements

-- a choice is in force in a context if it is the first whose condition holds in it
pub record IsInForce {V : Type 0} (all : List (Choice V)) (x : Context) (choice : Choice V) : Type 0 where
  pub place : ℕ
  pub first : place_in_force all x ≡ Some place
  pub there : slice_get all place ≡ Some choice

-- fees have the minimum fare of a context if it is that in force in it, with its line, and none if none is in force
abbrev pub HasMinimum : (minimums : List (Choice ℕ)) → Context → HiringFees → Type 0
HasMinimum minimums x fees =
    ((place_in_force minimums x ≡ None) × (fees.minimum_line ≡ None) × (fees.amounts.minimum ≡ 0))
    ⊎ ((choice : Choice ℕ) × IsInForce minimums x choice × (fees.minimum_line ≡ Some choice.line)
    × (fees.amounts.minimum ≡ choice.value))

-- an explanation has the fees of its trip if they are the initial hire fee, the cover and the minimum fare in force at
-- the hiring, with their lines; the receipt has this fee and this minimum fare
pub record HasFees (s : Setting) (events : List Event) (e : Explanation) : Type 0 where
  pub of : IsOfTrip s events e
  pub fee : Choice InitialNumbers
  pub first : IsInForce s.tariff.initials (at_hiring (context_now s (hiring_meter s events of.of))) fee
  pub line : e.fees.initial_line ≡ fee.line
  pub amount : e.fees.amounts.amount ≡ fee.value.amount
  pub covers : e.fees.amounts.covers ≡ fee.value.covers
  pub minimum : HasMinimum s.tariff.minimums (at_hiring (context_now s (hiring_meter s events of.of))) e.fees
  pub initial : e.receipt.initial ≡ e.fees.amounts.amount
  pub least : e.receipt.minimum ≡ e.fees.amounts.minimum

-- a part of a trip was charged by a rate in a way if it is an interval that ended in Hired, and the rate is the first
-- whose condition holds in the context of its beginning; the way is the one in which the rate charges so many pulses
pub record WasCharged (s : Setting) (place : ℕ) (rate : RateNumbers) (way : Way) (part : Part) : Type 0 where
  pub pulses : ℕ
  pub context : Context
  pub is : part ≡ InHired pulses context
  pub first : place_in_force s.tariff.rates context ≡ Some place
  pub in_way : way_by s.mode s.constant rate pulses ≡ way

-- a group of parts has the line of a rate if its intervals are the parts that this rate charged in the group's way, at
-- least one; its sums are their pulses, their ticks, and what each is charged in this way
pub record IsGroupOf (s : Setting) (parts : List Part) (group : Group) : Type 0 where
  pub place : ℕ
  pub rate : Choice RateNumbers
  pub there : slice_get s.tariff.rates place ≡ Some rate
  pub line : group.line ≡ rate.line
  pub is_its : Part → Bool
  pub tells : (part : Part) → (is_its part ≡ true) ↔ WasCharged s place rate.value group.way part
  pub pulses : group.sums.pulses ≡ sum (map pulses_in (filter is_its parts))
  pub ticks : group.sums.ticks ≡ sum (map ticks_in (filter is_its parts))
  pub charge : group.sums.charge ≡ sum (map (λ (part : Part). charge_in_way s.constant s.tariff.measure rate.value
      (pulses_in part) group.way) (filter is_its parts))
  pub some : 0 < group.sums.ticks

-- an explanation has the groups of its trip if each is a group of the trip's parts
pub record HasGroups (s : Setting) (events : List Event) (e : Explanation) : Type 0 where
  pub of : IsOfTrip s events e
  pub groups : All (IsGroupOf s of.trip.parts) e.groups

-- the pulses of a part in Stopped are its own if it is an interval that ended there, and 0 if it is another part
abbrev pub pulses_stopped : Part → ℕ
pulses_stopped (InStopped p) = p
pulses_stopped part = 0

-- a part counts one tick in Stopped if it is an interval that ended there, and none if it is another part
abbrev pub ticks_stopped : Part → ℕ
ticks_stopped (InStopped p) = 1
ticks_stopped part = 0

-- the pulses that a supply drop left in an unfinished part are its own, and 0 if it is another part
abbrev pub pulses_dropped : Part → ℕ
pulses_dropped (Rest p) = p
pulses_dropped part = 0

-- an explanation has what its trip was not charged for if the sums in Stopped are those of the trip's intervals there,
-- which cost nothing, and its dropped pulses are those of the trip's unfinished intervals
pub record HasUncharged (s : Setting) (events : List Event) (e : Explanation) : Type 0 where
  pub of : IsOfTrip s events e
  pub pulses : e.stopped.pulses ≡ sum (map pulses_stopped of.trip.parts)
  pub ticks : e.stopped.ticks ≡ sum (map ticks_stopped of.trip.parts)
  pub charge : e.stopped.charge ≡ 0
  pub dropped : e.dropped ≡ sum (map pulses_dropped of.trip.parts)
