use Rattle.drive_text.proofs.Laws as law
use Rattle.drive_text.proofs.ending_laws.bytes_tell_how_a_drive_ends.Goals as goal

pub returns : goal.returns
returns c = record {
  whole = law.whole_drive_ends;
  unfinished = law.unfinished_drive_ends;
  bad = law.bad_drive_ends;
  endless = law.endless_drive_ends;
}
