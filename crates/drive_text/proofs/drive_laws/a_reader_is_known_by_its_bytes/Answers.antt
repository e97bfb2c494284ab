use Rattle.drive_text.proofs.Laws as law
use Rattle.drive_text.proofs.drive_laws.a_reader_is_known_by_its_bytes.Goals as goal

pub returns : goal.returns
returns c = record {
  going = law.going_reader;
  failed = law.failed_reader;
  stays = law.failed_reader_stays;
  same = law.same_reader;
  few = law.few_lines;
}
