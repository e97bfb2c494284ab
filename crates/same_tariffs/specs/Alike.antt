-- Rules: when two meters have and do alike, though each counts charges in the units of its own tariff.
use Rattle.std.specs.Prelude.{[], ℕ, ◌*◌, ◌<◌, ◌∷◌, ◌≡◌, List, None, Option, Some}
use Rattle.meter_model.specs.{Trip.{charges_of, ticks_of}, declared.act.Act.{Act, TheVariants.{Hold}}}
use Rattle.same_tariffs.specs.Common.{Durable, Meter, MeterTrip, Meterage, Opening, Outcome, Setting, Trip, pulses_of}
use Rattle.same_tariffs.specs.Common.{unit_of}

-- `a` units of charge, of which `u` make the smallest unit of money, are the same money as `b`, of which `v` make it,
-- if `a` and `b` stand to each other as `u` and `v`
pub record IsSameMoney (u v a b : ℕ) : Type 0 where
  pub scaled : a * v ≡ b * u

-- two openings are alike if their covers, their charges above them and their display steps are the same money, and the
-- display steps aren't 0
pub record AreOpeningsAlike (u v : ℕ) (o p : Opening) : Type 0 where
  pub cover : IsSameMoney u v o.cover p.cover
  pub above : IsSameMoney u v o.above p.above
  pub modulus : IsSameMoney u v o.modulus p.modulus
  pub some : 0 < o.modulus
  pub also : 0 < p.modulus

-- two meterages are alike if they have the same full display steps, and their cover left and their rest are the same
-- money
pub record AreMeteragesAlike (u v : ℕ) (a b : Meterage) : Type 0 where
  pub cover : IsSameMoney u v a.cover_left b.cover_left
  pub steps : a.steps_full ≡ b.steps_full
  pub rest : IsSameMoney u v a.rest b.rest

-- two held trips are alike if they are equal but for their meterages, which are alike
pub record AreHeldAlike (s t : Setting) (a b : Trip) : Type 0 where
  pub meterage : AreMeteragesAlike (unit_of s) (unit_of t) a.meterage b.meterage
  pub others : record a { meterage = b.meterage } ≡ b

-- what two stores hold is alike if both hold no trip, or trips that are alike
abbrev pub AreHoldsAlike : (s t : Setting) → Option Trip → Option Trip → Type 0
AreHoldsAlike s t None None = Unit {0}
AreHoldsAlike s t (Some a) (Some b) = AreHeldAlike s t a b
AreHoldsAlike s t a b = ⊥

-- two durable states are alike if they are equal but for what they hold, which is alike
pub record AreStoresAlike (s t : Setting) (a b : Durable) : Type 0 where
  pub hold : AreHoldsAlike s t a.hold b.hold
  pub others : record a { hold = b.hold } ≡ b

-- two trips are alike if they are equal but for their openings and their parts, have the same pulses and ticks, and the
-- same money as cover, as charge above it before, and as charges of their parts
pub record AreTripsAlike (s t : Setting) (a b : MeterTrip) : Type 0 where
  pub others : record a { opening = b.opening; parts = b.parts } ≡ b
  pub pulses : pulses_of a ≡ pulses_of b
  pub ticks : ticks_of a ≡ ticks_of b
  pub cover : IsSameMoney (unit_of s) (unit_of t) a.opening.cover b.opening.cover
  pub above : IsSameMoney (unit_of s) (unit_of t) a.opening.above b.opening.above
  pub charges : IsSameMoney (unit_of s) (unit_of t) (charges_of s a) (charges_of t b)

-- what trips two meters have is alike if both have none, or trips that are alike
abbrev pub AreTripsOfBothAlike : (s t : Setting) → Option MeterTrip → Option MeterTrip → Type 0
AreTripsOfBothAlike s t None None = Unit {0}
AreTripsOfBothAlike s t (Some a) (Some b) = AreTripsAlike s t a b
AreTripsOfBothAlike s t a b = ⊥

-- a meter with another trip and another held trip is the same in all else
abbrev pub with_trips : Option MeterTrip → Option Trip → Meter → Meter
with_trips trip hold m = record m { trip = trip; durable = record m.durable { hold = hold } }

-- two meters are alike if they are equal but for their trips and what their stores hold, which are alike
pub record AreMetersAlike (s t : Setting) (m n : Meter) : Type 0 where
  pub trip : AreTripsOfBothAlike s t m.trip n.trip
  pub hold : AreHoldsAlike s t m.durable.hold n.durable.hold
  pub others : with_trips n.trip n.durable.hold m ≡ n

-- two acts are alike if both hold trips that are alike, or they are equal
abbrev pub IsActAlike : (s t : Setting) → Act → Act → Type 0
IsActAlike s t (Hold a) (Hold b) = AreHeldAlike s t a b
IsActAlike s t a b = a ≡ b

-- two lists of acts are alike if they are equally long, and act for act is alike
abbrev pub AreActsAlike : (s t : Setting) → List Act → List Act → Type 0
AreActsAlike s t [] [] = Unit {0}
AreActsAlike s t (x ∷ xs) (y ∷ ys) = IsActAlike s t x y × AreActsAlike s t xs ys
AreActsAlike s t xs ys = ⊥

-- two outcomes are alike if their next meters and their acts are
pub record AreOutcomesAlike (s t : Setting) (o p : Outcome) : Type 0 where
  pub next : AreMetersAlike s t o.next p.next
  pub acts : AreActsAlike s t o.acts p.acts
