use Rattle.{std.{specs.Prelude.{is_err}, proofs.Common.{ap, arith, refl}}, slot_store.proofs.Laws.{at_stands}}
use Rattle.{totals_record.specs.States.{first_state}, call_ends.proofs.Laws.{no_fault, not_some}}
use Rattle.drive_commands.{specs.Common.{HasState, OpensWith}, proofs.GenDrive.{not_failed, whole_bound}}
use Rattle.drive_commands.{specs.Generate.{state_after}, proofs.TariffDrives.{left-whole}}
use Rattle.totals_record.specs.Reading as totals
use Rattle.meter_store.specs.Stored as states
use Rattle.drive_commands.proofs.generate.run_afresh.Goals as goal

-- ---- the store wasn't sealed

pub returns-in-Err-clause-state : goal.returns-in-Err-clause-state
returns-in-Err-clause-state g c =
    λ tells told whole calm still s is. absurd (still (c.place_seal.ensures.cause.failed (ap is_err c.in-Err.is)))

-- ---- the drive wasn't carried out

pub returns-in-Err-run_events-clause-state : goal.returns-in-Err-run_events-clause-state
returns-in-Err-run_events-clause-state g c = λ tells told whole calm still s is.
    absurd (not_failed c.run_events.result
    (c.run_events.ensures.complete tells whole calm (λ rose. still
    (omega (arith, rose, c.in-Ok.ensures.cause.kept refl)))) (ap is_err c.in-Err-run_events.is))

pub returns-in-Err-run_events-clause-steps : goal.returns-in-Err-run_events-clause-steps
returns-in-Err-run_events-clause-steps g c = λ tells told whole calm still s is.
    absurd (not_failed c.run_events.result
    (c.run_events.ensures.complete tells whole calm (λ rose. still
    (omega (arith, rose, c.in-Ok.ensures.cause.kept refl)))) (ap is_err c.in-Err-run_events.is))

-- ---- it was

pub returns-in-Ok-run_events-clause-state : goal.returns-in-Ok-run_events-clause-state
returns-in-Ok-run_events-clause-state g c = λ tells told whole calm still s is.
    let tables = c.args.tables.now in
    let seal = c.args.seal.now in
    let placed = c.in-Ok.ensures.sealed told in
    let opens : OpensWith g.B.Printer tables c.place_seal.new.board first_state =
    record {
      place = placed.totals.0;
      settled = placed.totals.1;
      fits = λ trip e. absurd (not_some first_state.hold trip refl e);
    } in
    let done = ((c.in-Ok-run_events.ensures.ends tells).runs told s first_state is opens).opens in
    let stands : HasState (g.B.Printer.image c.run_events.new.board) (state_after s
    (g.F.Files.rest c.args.files.now 0)) =
    at_stands totals.reads states.state_number_of 0 done.place _ _ done.settled.is_at in
    c.state_in.ensures.has told (λ rose. still (omega (
      arith,
      rose,
      c.in-Ok.ensures.cause.kept refl,
      c.in-Ok-run_events.ensures.board_fault.kept (no_fault _ _ _ refl),
    ))) _ stands

pub returns-in-Ok-run_events-clause-steps : goal.returns-in-Ok-run_events-clause-steps
returns-in-Ok-run_events-clause-steps g c = λ tells told whole calm still s is.
    let run = c.in-Ok-run_events.ensures.ends tells in
    let drive = g.F.Files.rest c.args.files.now 0 in
    let left = g.F.Files.rest c.run_events.new.files 0 in
    let bound = whole_bound g.F.Files.tells drive left _ _ tells
    (left-whole drive left run.tells run.end_is) c.run_events.ensures.steps in
    omega (arith, bound, c.place_seal.ensures.steps, c.state_in.ensures.steps)
