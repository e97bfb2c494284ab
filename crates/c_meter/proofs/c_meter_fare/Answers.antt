use Rattle.std.proofs.Common.{ℕ, ◌∙◌, Err, ap, subst, sym}
use Rattle.c_meter.{specs.Shown.{IsStatus}, proofs.Stops.{no_room_is, status_is}}
use Rattle.c_meter.proofs.c_meter_fare.Goals as goal

pub returns-in-Err-clause-no_room : goal.returns-in-Err-clause-no_room
returns-in-Err-clause-no_room c = λ is.
    c.in-Err.ensures.no_room (ap Err (no_room_is c.in-Err.stop (sym c.status.ensures ∙ is)))

pub returns-in-Err-clause-answers : goal.returns-in-Err-clause-answers
returns-in-Err-clause-answers c =
    subst (λ (n : ℕ). IsStatus n) (sym c.status.ensures) (status_is c.in-Err.stop)
