use Rattle.std.proofs.Common.{◌++◌, refl}
use Rattle.receipt_reading.proofs.{Beginnings.{reads_agree}, RollLaws.{read_first, read_once}}
use Rattle.receipt_reading.proofs.roll_laws.a_roll_is_read_once.Goals as goal

pub returns : goal.returns
returns c = record {
  whole = read_once;
  agree = λ text rest rest' a b reads other. reads_agree text a b rest rest' reads other;
  first = λ text rest some more reads. read_first text rest (some ++ more) some more reads refl;
}
