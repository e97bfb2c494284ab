use Rattle.std.proofs.{Common.{◌∙◌, ◌≡◌, ap, sym, true}, lemmas.Bool.Decides.{Decides-at, same_from_decides}}
use Rattle.drive_commands.{specs.{Common.{fits_test}, Run.{does_hold_fit}}, proofs.HeldTripFits.{Decides-hold}}
use Rattle.drive_commands.proofs.run.hold_fits.Goals as goal

pub returns-in-Some-clause-value : goal.returns-in-Some-clause-value
returns-in-Some-clause-value g c =
    same_from_decides c.fits.result (fits_test c.args.tables.now c.in-Some.trip).passes c.fits.ensures.value
    (fits_test c.args.tables.now c.in-Some.trip).decides
    ∙ ap (does_hold_fit c.args.tables.now) (sym c.in-Some.is)

pub returns-in-Some-clause-decides : goal.returns-in-Some-clause-decides
returns-in-Some-clause-decides g c =
    Decides-at c.fits.result (does_hold_fit c.args.tables.now c.args.hold.now) (returns-in-Some-clause-value g c)
    (Decides-hold c.args.tables.now c.args.hold.now)

pub returns-in-None-clause-decides : goal.returns-in-None-clause-decides
returns-in-None-clause-decides g c =
    Decides-at true (does_hold_fit c.args.tables.now c.args.hold.now)
    (ap (does_hold_fit c.args.tables.now) (sym c.in-None.is)) (Decides-hold c.args.tables.now c.args.hold.now)
