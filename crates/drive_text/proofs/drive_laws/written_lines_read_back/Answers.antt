use Rattle.drive_text.proofs.Laws as law
use Rattle.drive_text.proofs.drive_laws.written_lines_read_back.Goals as goal

pub returns : goal.returns
returns c = record {
  run = law.written_line_gives;
  good = law.written_line_is_good;
  short = law.written_line_is_short;
}
