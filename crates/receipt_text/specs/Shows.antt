-- Rules: when two displays show the same.
use Rattle.std.specs.Prelude.{◌<◌, ◌^◌, ◌≡◌, ◌≢◌}
use Rattle.receipt_text.specs.Common.{Display, ForHire}

-- a display's position and zone are below 256, and its amounts are below 2^64, as the software keeps them
pub record HasFields (display : Display) : Type 0 where
  pub position : display.position < 2 ^ 8
  pub zone : display.zone < 2 ^ 8
  pub fare : display.fare < 2 ^ 64
  pub supplements : display.supplements < 2 ^ 64

-- two displays show the same if their fields are equal; in For Hire the fare and the supplements aren't shown, and may
-- differ
pub record ShowsSame (a b : Display) : Type 0 where
  pub operating : a.operating ≡ b.operating
  pub position : a.position ≡ b.position
  pub zone : a.zone ≡ b.zone
  pub fare : a.operating ≢ ForHire → a.fare ≡ b.fare
  pub supplements : a.operating ≢ ForHire → a.supplements ≡ b.supplements
