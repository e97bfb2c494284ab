-- For proofs: the tests of the ranges of parameters and seals, each with what it decides.
use Rattle.{std.specs.Prelude.{ℕ, List, length, pos}, taxi_units.specs.Test.{at_most_signed, either, stated, within}}
use Rattle.seal_record.specs.{Common.{◌&◌, Params, Test, at_most, each, same}, Ranges.{IsParams, IsSeal, IsTaxi}}
use Rattle.seal_record.specs.Limits.{digest_size, first_day, greatest_constant, last_day, last_seal_number}
use Rattle.seal_record.specs.Limits.{least_constant, longest_hold, longest_taxi, most_decimals}
use Rattle.seal_record.specs.{OffsetList.{offsets_test}, declared.seal.Seal.{Seal}}

-- a character of taxi identifiers
abbrev pub character_test : ℕ → Test
character_test c = either (within 65 c 90) (either (within 48 c 57) (same c 45))

-- a taxi identifier
abbrev pub taxi_test : List ℕ → Test
taxi_test text = stated (IsTaxi text)
    (at_most 1 (length text) & (at_most (length text) longest_taxi & each character_test text))
    (λ facts. record { some = facts.0; few = facts.1.0; characters = facts.1.1 })
    (λ is. (is.some, (is.few, is.characters)))

-- parameters
abbrev pub params_test : Params → Test
params_test params = stated (IsParams params)
    (taxi_test params.taxi.items
    & within least_constant params.constant greatest_constant
    & at_most params.hold_time longest_hold
    & (at_most_signed (pos first_day) params.secured & at_most_signed params.secured (pos last_day))
    & offsets_test params.offsets)
    (λ facts. record {
      taxi = facts.0.0.0.0;
      constant = facts.0.0.0.1;
      hold_time = facts.0.0.1;
      secured = facts.0.1;
      offsets = facts.1;
    })
    (λ is. ((((is.taxi, is.constant), is.hold_time), is.secured), is.offsets))

-- a seal
abbrev pub seal_test : Seal → Test
seal_test seal = stated (IsSeal seal)
    (within 1 seal.seal_number last_seal_number
    & params_test seal.params
    & same (length seal.digest) digest_size
    & at_most seal.decimals most_decimals)
    (λ facts. record {
      seal_number = facts.0.0.0;
      params = facts.0.0.1;
      digest = facts.0.1;
      decimals = facts.1;
    })
    (λ is. (((is.seal_number, is.params), is.digest), is.decimals))
