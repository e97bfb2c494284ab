use Rattle.drive_text.proofs.Laws as law
use Rattle.drive_text.proofs.drive_laws.pieces_give_the_runs_of_all_bytes.Goals as goal

pub returns : goal.returns
returns c = record {
  runs = law.pieces_give_runs;
  events = law.pieces_give_events;
  cuts = law.pieces_give_the_same;
}
