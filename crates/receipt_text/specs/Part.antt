-- Rules: what a receipt says of the meter's seal.
use Rattle.std.specs.{List.{AllByRecursion}, Prelude.{ℕ, ℤ, ◌<◌, ◌≡◌, ◌≤◌, List, length}}
use Rattle.{drive_modes.specs.Constant.{greatest_constant, least_constant}, seal_record.specs.Ranges.{IsTaxi}}
use Rattle.receipt_text.specs.Common.{IsDay}

-- a part of a seal is the taxi identifier, the constant in pulses per kilometre, the day number of the date of
-- securing, and the digest of the tariff's text
pub record Part : Type 0 where
  pub taxi : List ℕ
  pub constant : ℕ
  pub secured : ℤ
  pub digest : List ℕ

-- bytes are a digest if they are 32, each below 256
pub record IsDigest (digest : List ℕ) : Type 0 where
  pub size : length digest ≡ 32
  pub bytes : AllByRecursion (λ byte. byte < 256) digest

-- a part of a seal is in its ranges if each of its four values is; its day is one of the years 2000 to 2199
pub record IsPart (part : Part) : Type 0 where
  pub taxi : IsTaxi part.taxi
  pub constant : (least_constant ≤ part.constant) × (part.constant ≤ greatest_constant)
  pub secured : IsDay part.secured
  pub digest : IsDigest part.digest
