use Rattle.drive_text.proofs.Laws as law
use Rattle.drive_text.proofs.drive_laws.more_bytes_add_runs.Goals as goal

pub returns : goal.returns
returns c = record {
  bad = law.bad_stays;
  ended = law.bad_ends_runs;
  runs = law.runs_are_added;
  events = law.events_are_added;
}
