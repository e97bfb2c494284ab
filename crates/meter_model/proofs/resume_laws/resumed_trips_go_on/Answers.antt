use Rattle.meter_model.proofs.{Fares.{fare-resumed}, Resumed.{resumed-saved}, ResumedForms.{forms-resumed}}
use Rattle.meter_model.proofs.resume_laws.resumed_trips_go_on.Goals as goal

pub returns : goal.returns
returns c = record { saved = resumed-saved; fare = fare-resumed; forms = forms-resumed }
