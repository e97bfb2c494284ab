use Rattle.meter_run.proofs.Displays.{shown_by_texts}
use Rattle.meter_run.proofs.display_laws.displays_are_shown_where_their_texts_differ.Goals as goal

pub returns : goal.returns
returns c = shown_by_texts
