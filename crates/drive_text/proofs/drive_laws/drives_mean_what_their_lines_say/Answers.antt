use Rattle.drive_text.proofs.Laws as law
use Rattle.drive_text.proofs.drive_laws.drives_mean_what_their_lines_say.Goals as goal

pub returns : goal.returns
returns c = record {
  so_far = law.drive_so_far;
  at_end = law.drive_at_end;
}
