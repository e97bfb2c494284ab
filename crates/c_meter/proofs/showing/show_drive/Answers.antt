use Rattle.std.proofs.Common.{ℕ, ◌∙◌, Err, IsErr, List, Result, ap, refl, subst, sym}
use Rattle.c_meter.{specs.Common.{NoMemory, Stop}, proofs.{Stops.{if_ok, stop_or}, TariffTexts.{shows_by}}}
use Rattle.c_meter.specs.Shown.{ShowsDrive}
use Rattle.c_meter.proofs.showing.show_drive.Goals as goal

pub returns-in-Err-clause-no_tariff : goal.returns-in-Err-clause-no_tariff
returns-in-Err-clause-no_tariff g c = λ is. c.in-Err.ensures.no_tariff (ap Err (ap (stop_or NoMemory) is))

pub returns-in-Ok-board_of-clause-shown : goal.returns-in-Ok-board_of-clause-shown
returns-in-Ok-board_of-clause-shown g c =
    let shows = shows_by c.args.tariff.now c.args.params.now c.args.drive.now c.printed.result.now c.in-Ok.made.0
    c.in-Ok.made.1 c.in-Ok.ensures.made c.in-Ok-board_of.ensures.whole
    (λ s is. c.printed.ensures ∙ c.in-Ok-board_of.ensures.shown s is) in
    if_ok c.put_lines.result _ _
    (λ used put. subst (λ (l : List ℕ). ShowsDrive c.args.tariff.now c.args.params.now c.args.drive.now l) (sym put.1)
    shows) c.put_lines.ensures.put

pub returns-in-Ok-board_of-clause-no_room : goal.returns-in-Ok-board_of-clause-no_room
returns-in-Ok-board_of-clause-no_room g c = λ is. record {
  lines = c.printed.result.now;
  shows = shows_by c.args.tariff.now c.args.params.now c.args.drive.now c.printed.result.now c.in-Ok.made.0
      c.in-Ok.made.1 c.in-Ok.ensures.made c.in-Ok-board_of.ensures.whole
      (λ s set. c.printed.ensures ∙ c.in-Ok-board_of.ensures.shown s set);
  long = c.put_lines.ensures.no_room (subst (λ (r : Result ℕ Stop). IsErr r) (sym is) refl);
}
