use Rattle.drive_text.proofs.Laws as law
use Rattle.drive_text.proofs.drive_laws.written_drives_read_back.Goals as goal

pub returns : goal.returns
returns c = record {
  ends = law.written_drive_ends;
  means = law.written_drive_means;
}
