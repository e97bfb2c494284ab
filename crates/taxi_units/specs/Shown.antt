-- Rules: what displays and receipts may say, so that their texts tell all of them.
use Rattle.std.specs.Prelude.{ℕ, ◌*◌, ◌+◌, ◌<◌, ◌^◌, ◌≡◌, ◌≢◌, ◌≤◌, max, min}
use Rattle.taxi_units.specs.{Calendar.{IsDate}, declared.receipt.{Display.{Display}, Receipt.{Receipt}, Stamp.{Stamp}}}
use Rattle.taxi_units.specs.{Limits.{largest_supplements, number_most}, declared.receipt.Kind.TheVariants.{Roam}}
use Rattle.taxi_units.specs.{Money.{largest_amount, largest_display_step}, declared.event.Operating.TheVariants.{Off}}

-- decimals are those of an amount of money if they are 0 to 3
abbrev pub AreDecimals : ℕ → Type 0
AreDecimals decimals = decimals ≤ 3

-- a display may be shown if its meter isn't off, and its amounts have 0 to 3 decimals
pub record IsShown (display : Display) : Type 0 where
  pub operating : display.operating ≢ Off
  pub decimals : AreDecimals display.decimals

-- a stamp is in its ranges if it has a date that the calendar has, of the years 1999 to 2200, and a second of a day,
-- 0 to 86,399
pub record IsStamp (stamp : Stamp) : Type 0 where
  pub year : (1999 ≤ stamp.year) × (stamp.year ≤ 2200)
  pub date : IsDate stamp.year stamp.month stamp.date
  pub second : stamp.second ≤ 86399

-- the fare of a receipt is its initial hire fee and its step for each display step, or its minimum if that is more,
-- and at most 99,999,999
abbrev pub fare_of_receipt : Receipt → ℕ
fare_of_receipt receipt = min largest_amount (max receipt.minimum (receipt.initial + receipt.steps * receipt.step))

-- a receipt is in its ranges if it is for a hiring and not for roaming, has each number in its range, and the fare
-- that its parts make
pub record IsReceipt (receipt : Receipt) : Type 0 where
  pub kind : receipt.kind ≢ Roam
  pub number : (1 ≤ receipt.number) × (receipt.number ≤ number_most)
  pub start : IsStamp receipt.start
  pub finish : IsStamp receipt.finish
  pub position : (1 ≤ receipt.position) × (receipt.position ≤ 9)
  pub distance : receipt.hired_mm < 10 ^ 23
  pub initial : receipt.initial ≤ largest_amount
  pub minimum : receipt.minimum ≤ largest_amount
  pub steps : receipt.steps < 10 ^ 18
  pub step : (1 ≤ receipt.step) × (receipt.step ≤ largest_display_step)
  pub fare : receipt.fare ≡ fare_of_receipt receipt
  pub supplements : receipt.supplements ≤ largest_supplements
  pub decimals : AreDecimals receipt.decimals
