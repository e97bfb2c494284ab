-- Rules: the ranges of parameters and seals, and the number of a seal.
use Rattle.std.specs.Prelude.{ℕ, ℤ, ◌≡◌, ◌≤ℤ◌, ◌≤◌, All, List, length, pos}
use Rattle.seal_record.specs.{Common.{IsIdentifierCharacter, IsOffsetList, Params}, declared.seal.Seal.{Seal}}
use Rattle.seal_record.specs.Limits.{digest_size, first_day, greatest_constant, last_day, last_seal_number}
use Rattle.seal_record.specs.Limits.{least_constant, longest_hold, longest_taxi, most_decimals}

-- a text is a taxi identifier if it has 1 to 16 of the characters of taxi identifiers, and no other
pub record IsTaxi (text : List ℕ) : Type 0 where
  pub some : 1 ≤ length text
  pub few : length text ≤ longest_taxi
  pub characters : All IsIdentifierCharacter text

-- a day number is one of the meter if it is that of a date of the years 2000 to 2199
abbrev pub IsDay : ℤ → Type 0
IsDay day = (pos first_day ≤ℤ day) × (day ≤ℤ pos last_day)

-- parameters are in their ranges, of which the mode has none, since there are just two
pub record IsParams (params : Params) : Type 0 where
  pub taxi : IsTaxi params.taxi.items
  pub constant : (least_constant ≤ params.constant) × (params.constant ≤ greatest_constant)
  pub hold_time : params.hold_time ≤ longest_hold
  pub secured : IsDay params.secured
  pub offsets : IsOffsetList params.offsets

-- a seal is in its ranges if each of its fields is in its own; its digest may be any 32 bytes
pub record IsSeal (seal : Seal) : Type 0 where
  pub seal_number : (1 ≤ seal.seal_number) × (seal.seal_number ≤ last_seal_number)
  pub params : IsParams seal.params
  pub digest : length seal.digest ≡ digest_size
  pub decimals : seal.decimals ≤ most_decimals

-- the number of a seal is the one by which the later of two is known
abbrev pub seal_number_of : Seal → ℕ
seal_number_of seal = seal.seal_number
