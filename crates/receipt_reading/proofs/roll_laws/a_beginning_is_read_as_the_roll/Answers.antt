use Rattle.receipt_reading.proofs.Beginnings.{beginning_first, reads_longer}
use Rattle.receipt_reading.proofs.roll_laws.a_beginning_is_read_as_the_roll.Goals as goal

pub returns : goal.returns
returns c = record {
  first = λ taken more rest some all reads whole. beginning_first taken more rest all some whole reads;
  longer = λ taken more rest some reads any. reads_longer taken rest some more reads any;
}
