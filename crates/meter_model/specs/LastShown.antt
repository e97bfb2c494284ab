-- Rules: what the display showed last.
use Rattle.std.specs.Prelude.{◌≡◌, None, Option, Some}
use Rattle.meter_model.specs.{Common.{Display}, Display.{display_of}, KeptTrip.{IsTripKept}, Setting.{Setting}}
use Rattle.meter_model.specs.Meter.{Meter}

-- what was shown last, if anything was, is the display of a state of the meter that keeps its trip
abbrev pub IsOfMeter : Setting → Option Display → Type 0
IsOfMeter s None = Unit {0}
IsOfMeter s (Some display) = (m : Meter) × IsTripKept s m × (display ≡ display_of s m)
