-- Rules: the fare that charges add up to.
use Rattle.std.specs.Prelude.{ℕ, ◌%◌, ◌*◌, ◌+◌, ◌-◌, ◌/◌, ◌==◌, if◌then◌else◌, max, min}
use Rattle.{taxi_units.specs.Money.{largest_amount}, drive_modes.specs.Common.{Ahead, Behind, Meterage, Rounding}}

-- the quotient x / y is rounded down if the fare is shown behind the drive, and up if it is shown ahead of it
abbrev pub quotient : Rounding → ℕ → ℕ → ℕ
quotient Behind x y = x / y
quotient Ahead x y = (x + (y - 1)) / y

-- charges begin with what the initial hire fee still covers (`cover`) and what was charged above it before (`above`),
-- both in units of charge; `modulus` units of charge make a display step
pub record Opening : Type 0 where
  pub cover : ℕ
  pub above : ℕ
  pub modulus : ℕ

-- after charges with the sum `charged`, the charge above the cover is what was above it before, and the part of
-- `charged` that the cover doesn't take
abbrev pub above_cover : Opening → (charged : ℕ) → ℕ
above_cover opening charged = opening.above + (charged - opening.cover)

-- charges with the sum `charged` leave this meterage: the cover that is left, the full display steps in the charge
-- above the cover, and the rest
abbrev pub saved : Opening → (charged : ℕ) → Meterage
saved opening charged = record {
  cover_left = opening.cover - charged;
  steps_full = above_cover opening charged / opening.modulus;
  rest = above_cover opening charged % opening.modulus;
}

-- after charges with the sum `charged` the display steps shown are the charge above the cover divided by a display step
abbrev pub steps_above : Rounding → Opening → (charged : ℕ) → ℕ
steps_above rounding opening charged = quotient rounding (above_cover opening charged) opening.modulus

-- what follows a meterage opens with its cover; the charge above it is the full display steps and the rest
abbrev pub opening_of : (modulus : ℕ) → Meterage → Opening
opening_of modulus m = record { cover = m.cover_left; above = m.steps_full * modulus + m.rest; modulus = modulus }

-- a further charge uses up the cover first; what is left of it joins the rest, and fills display steps
abbrev pub added : (modulus : ℕ) → Meterage → (charge : ℕ) → Meterage
added modulus m charge = record {
  cover_left = m.cover_left - charge;
  steps_full = m.steps_full + (m.rest + (charge - m.cover_left)) / modulus;
  rest = (m.rest + (charge - m.cover_left)) % modulus;
}

-- a meterage shows its full display steps, and one more if it is rounded ahead and has a rest
abbrev pub steps_of : Rounding → Meterage → ℕ
steps_of Behind m = m.steps_full
steps_of Ahead m = if m.rest == 0 then m.steps_full else m.steps_full + 1

-- after n display steps the fare is the initial hire fee and a step for each of them, or the minimum if that is more;
-- it is at most 99,999,999
abbrev pub shown_fare : (initial minimum step n : ℕ) → ℕ
shown_fare initial minimum step n = min largest_amount (max minimum (initial + step * n))
