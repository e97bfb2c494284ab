-- Rules: what the display shows, and when it does.
use Rattle.std.specs.Prelude.{[], ℕ, ◌&&◌, ◌==◌, ◌∷◌, Bool, None, Option, Some, false, if◌then◌else◌, true}
use Rattle.meter_model.specs.{Common.{Display, ForHire, Hired, Off, Operating, Stopped}, Trip.{MeterTrip, fare_of}}
use Rattle.meter_model.specs.{Meter.{Meter, Outcome}, Supplements.{amounts_of}, declared.act.Act.TheVariants.{Show}}
use Rattle.meter_model.specs.Setting.{Setting}

-- the fare that the display shows is that of the trip, and 0 without one
abbrev pub fare_shown : Setting → Option MeterTrip → ℕ
fare_shown s None = 0
fare_shown s (Some t) = fare_of s t

-- the amount of supplements that the display shows is that of the trip's, and 0 without a trip
abbrev pub extras_shown : Setting → Option MeterTrip → ℕ
extras_shown s None = 0
extras_shown s (Some t) = amounts_of s.tariff t.extras

-- the display of a state of the meter has its operating position, its position and its zone, the fare and the
-- supplements of its trip, and the decimals of the tariff
abbrev pub display_of : Setting → Meter → Display
display_of s m = record {
  operating = m.operating;
  position = m.position;
  zone = m.zone;
  fare = fare_shown s m.trip;
  supplements = extras_shown s m.trip;
  decimals = s.tariff.decimals;
}

-- the test `same_operating` is true if two operating positions are the same
abbrev pub same_operating : Operating → Operating → Bool
same_operating Off Off = true
same_operating ForHire ForHire = true
same_operating Hired Hired = true
same_operating Stopped Stopped = true
same_operating a b = false

-- the test `same_display` is true if two displays are the same in each field
abbrev pub same_display : Display → Display → Bool
same_display a b =
    same_operating a.operating b.operating
    && (a.position == b.position
    && (a.zone == b.zone
    && (a.fare == b.fare && (a.supplements == b.supplements && a.decimals == b.decimals))))

-- the test `is_shown` is true if a display is the one that was shown last
abbrev pub is_shown : Option Display → Display → Bool
is_shown None new = false
is_shown (Some old) new = same_display old new

-- the meter shows its display if it differs from the one that was shown last, and remembers it
abbrev pub shown : Setting → Meter → Outcome
shown s m = record {
  next = record m { shown = Some (display_of s m) };
  acts = if is_shown m.shown (display_of s m) then [] else Show (display_of s m) ∷ [];
}
