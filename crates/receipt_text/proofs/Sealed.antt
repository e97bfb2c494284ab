-- What a receipt says of a seal is in its ranges.
use Rattle.{seal_record.specs.declared.seal.Seal.{Seal}, receipt_text.specs.{Common.{IsSeal}, SealParts.{part_of_seal}}}
use Rattle.receipt_text.specs.Part.{IsDigest, IsPart}

pub sealed_part : (seal : Seal) → IsSeal seal → IsDigest seal.digest → IsPart (part_of_seal seal)
sealed_part seal sealed digest = record {
  taxi = sealed.params.taxi;
  constant = sealed.params.constant;
  secured = sealed.params.secured;
  digest = digest;
}
