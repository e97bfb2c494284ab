use Rattle.meter_model.{specs.Display.{display_of}, proofs.ShownDisplays.{hire-shows, same-equal, shows-none}}
use Rattle.meter_model.proofs.display_laws.displays_are_compared_by_their_fields.Goals as goal

pub returns-clause-same : goal.returns-clause-same
returns-clause-same c = same-equal

pub returns-clause-shows : goal.returns-clause-shows
returns-clause-shows c = λ s m. shows-none m.shown (display_of s m)

pub returns-clause-hire : goal.returns-clause-hire
returns-clause-hire c = hire-shows
