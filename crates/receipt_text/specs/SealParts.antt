-- Rules: what a receipt says of the seal of the meter that prints it.
use Rattle.{seal_record.specs.declared.seal.Seal.{Seal}, receipt_text.specs.Part.{Part}}

-- a receipt says of a seal its taxi identifier, its constant, its date of securing and its digest
abbrev pub part_of_seal : Seal → Part
part_of_seal seal = record {
  taxi = seal.params.taxi.items;
  constant = seal.params.constant;
  secured = seal.params.secured;
  digest = seal.digest;
}
