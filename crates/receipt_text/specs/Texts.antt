-- Rules: the texts of displays and refusals.
use Rattle.std.specs.Prelude.{[], ℕ, ◌++◌, List, codes, decimal}
use Rattle.taxi_units.specs.declared.event.{Operating.{Operating, TheVariants.{Hired, Off, Stopped}}, Why.{Why}}
use Rattle.taxi_units.specs.declared.event.Why.TheVariants.{AtMost, ClockBack, Ended, Expired, KeyWaiting, NoSuch}
use Rattle.taxi_units.specs.declared.event.Why.TheVariants.{NotNow, Powered, TooFast}
use Rattle.receipt_text.specs.Common.{Display, ForHire, money_text}

-- the tariff position and the zone of a display are written as `T` and `Z`, each with its number
abbrev pub place_text : Display → List ℕ
place_text d = codes " T" ++ (decimal d.position ++ (codes " Z" ++ decimal d.zone))

-- the amounts of a display are its fare and, behind a `+`, its supplements, which are no part of the fare
abbrev pub amounts_text : Display → List ℕ
amounts_text d = codes " " ++ (money_text d.decimals d.fare ++ (codes " +" ++ money_text d.decimals d.supplements))

-- the line of a display in an operating position is the word of the position, the tariff position and the zone, and in
-- Hired and Stopped the amounts; in Off there is no line
abbrev pub display_line : Operating → Display → List ℕ
display_line Off d = []
display_line ForHire d = codes "FOR HIRE" ++ (place_text d ++ codes "\n")
display_line Hired d = codes "HIRED" ++ (place_text d ++ (amounts_text d ++ codes "\n"))
display_line Stopped d = codes "STOPPED" ++ (place_text d ++ (amounts_text d ++ codes "\n"))

-- a display is written as the line of its own operating position
abbrev pub display_text : Display → List ℕ
display_text d = display_line d.operating d

-- the cause of a refusal is written in its words, with the two readings of a clock that was set back, or the number of
-- pulses too many
abbrev pub why_text : Why → List ℕ
why_text NotNow = codes "NOT NOW"
why_text KeyWaiting = codes "KEY WAITING"
why_text NoSuch = codes "NO SUCH"
why_text AtMost = codes "AT MOST"
why_text (ClockBack last given) = codes "CLOCK BACK " ++ (decimal last ++ (codes " " ++ decimal given))
why_text (TooFast left) = codes "TOO FAST " ++ decimal left
why_text Powered = codes "POWERED"
why_text Expired = codes "EXPIRED"
why_text Ended = codes "ENDED"

-- a refusal is written as a line of its word and its cause
abbrev pub refusal_text : Why → List ℕ
refusal_text why = codes "REFUSED " ++ (why_text why ++ codes "\n")
