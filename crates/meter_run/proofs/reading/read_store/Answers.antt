use Rattle.{std.{specs.{Option.{ForSome}, Prelude.{IfOk}}, proofs.Common.{true}}, totals_record.specs.Reading.{reads}}
use Rattle.std.proofs.Common.{[], ℕ, ◌+◌, ◌≡◌, ◌≤◌, Err, None, Ok, Option, Result, Some, ap, arith, false, subst, sym}
use Rattle.slot_store.specs.{Scan.{IsAsFound, IsValidFinding}, declared.found.{Found.{Found}, SlotFault.{SlotFault}}}
use Rattle.meter_run.specs.Common.{Durable, Fits, HasCause, HoldsState, IsDurable, KeepsStore, Known, Place, Seal}
use Rattle.meter_run.{specs.Common.{state_number_of}, proofs.{EventLists.{went_well}, SettledScans.{same_number}}}
use Rattle.meter_run.specs.{OnStore.{Agrees, WritesTotals}, Points.{GoesBy}}
use Rattle.meter_run.proofs.{BoardDeeds.{beside_scan, keeps_read, scan_point}, reading.read_store.Goals.{After-scan}}
use Rattle.meter_run.proofs.SettledScans.{HasNone, IsExact, IsFailure, answers, bad_body, found_is, no_fault, not_blank}
use Rattle.meter_run.proofs.reading.read_store.Given as given
use Rattle.meter_run.proofs.reading.read_store.Goals as goal

nothing_found : (P : Known → Type 0) → ForSome None P
nothing_found P = λ x is. absurd cc

few : (before now : ℕ) → now ≤ before + 3 → now ≤ before + 19
few before now h = omega arith

abbrev none_found : (E : Type 0) → Result (Option Known) E
none_found E = Ok None

-- what is left of a scan, whatever it answers
module _ (g : given.Over) (c : After-scan g) where
  scanned : g.B.Printer.tells_image → (seal : Seal) (place : Place) (d : Durable)
      → HoldsState g.B.Printer place c.args.board.now d → ForSome d.hold (Fits c.args.tables.now)
      → GoesBy g.B.Printer c.args.tables.now seal c.args.board.now c.scan.new.board d []
  scanned told seal place d settled fits = scan_point g.B.Printer c.args.tables.now seal c.args.board.now
      c.scan.new.board d place settled fits c.scan.ensures.reads.image c.scan.ensures.reads.leaves
      c.scan.ensures.reads.text

  beside : g.B.Printer.tells_image → WritesTotals g.B.Printer c.args.board.now c.scan.new.board
  beside told = beside_scan g.B.Printer c.args.board.now c.scan.new.board c.scan.ensures.reads.image
      c.scan.ensures.reads.flight c.scan.ensures.reads.leaves

  -- no state was found, and no device failed
  nothing : {E : Type 0} (r : Result (Found Durable) SlotFault) → HasNone r → (IsFailure r → ⊥)
      → (g.B.Printer.tells_image → (IsFailure r → ⊥) → IsExact r (g.B.Printer.image c.args.board.now))
      → ((IsFailure r → ⊥) → g.B.Printer.image c.scan.new.board ≡ g.B.Printer.image c.args.board.now)
      → ((IsFailure r → ⊥) → g.B.Printer.faults c.scan.new.board ≡ g.B.Printer.faults c.args.board.now)
      → record {
        agrees : ForSome None (λ known. Agrees g.B.Printer c.args.tables.now known c.scan.new.board);
        range : ForSome None (λ (known : Known). IsDurable known.durable);
        finds : g.B.Printer.tells_image → (place : Place) (durable : Durable)
            → HoldsState g.B.Printer place c.args.board.now durable → ForSome durable.hold (Fits c.args.tables.now)
            → IfOk (none_found E) (λ found. (known : Known) × ((found ≡ Some known) × (known.durable ≡ durable)));
        points : g.B.Printer.tells_image → (seal : Seal) (place : Place) (durable : Durable)
            → HoldsState g.B.Printer place c.args.board.now durable → ForSome durable.hold (Fits c.args.tables.now)
            → GoesBy g.B.Printer c.args.tables.now seal c.args.board.now c.scan.new.board durable [];
        text : g.B.Printer.printed c.scan.new.board ≡ g.B.Printer.printed c.args.board.now;
        kept : KeepsStore g.B.Printer c.args.board.now c.scan.new.board;
        beside : g.B.Printer.tells_image → WritesTotals g.B.Printer c.args.board.now c.scan.new.board;
        cause :
            HasCause (g.B.Printer.faults c.args.board.now) (g.B.Printer.faults c.scan.new.board) (none_found E);
        steps : c.scan.new.steps ≤ c.args.steps.now + 19;
      }
  nothing r none clear exact same calm = record {
    agrees = nothing_found _;
    range = nothing_found _;
    finds = λ told place d settled fits.
        absurd (none place d (g.B.Printer.image c.args.board.now) settled.is_at (exact told clear));
    points = scanned;
    text = c.scan.ensures.reads.text;
    kept = keeps_read g.B.Printer c.args.board.now c.scan.new.board c.scan.ensures.reads (same clear);
    beside = beside;
    cause =
        went_well (g.B.Printer.faults c.args.board.now) (g.B.Printer.faults c.scan.new.board) None (calm clear);
    steps = few c.args.steps.now c.scan.new.steps c.scan.ensures.steps;
  }

pub returns-in-Ok-Latest : goal.returns-in-Ok-Latest
returns-in-Ok-Latest g c =
    let sound =
    subst (λ (f : Found Durable). IsValidFinding IsDurable f) c.in-Ok-Latest.field-0-is c.in-Ok-Latest.ensures.sound in
    record {
      agrees = λ x is.
          let b = c.scan.new.board in
          let same = c.where_it_fits.ensures.same x is in
          record {
            slot = subst (λ (k : Known). k.place.slot ≤ 1) (sym same)
                sound.0;
            settled = λ told. subst (λ (k : Known). HoldsState g.B.Printer k.place b k.durable) (sym same)
                (subst (λ (f : Found Durable). IsAsFound reads state_number_of 0 (g.B.Printer.image b)
                (g.B.Printer.in_flight b) f) c.in-Ok-Latest.field-0-is (c.in-Ok-Latest.ensures.settled told));
            fits = c.where_it_fits.ensures.fits x is;
          };
      range = λ x is. subst (λ (k : Known). IsDurable k.durable) (sym (c.where_it_fits.ensures.same x is))
          sound.1;
      finds = λ told place d settled fits.
          let p = c.in-Ok-Latest.place in
          let b = c.in-Ok-Latest.body in
          let e = found_is c.in-Ok-Latest.field-0 p b place d (g.B.Printer.image c.args.board.now)
          c.in-Ok-Latest.field-0-is
          settled.is_at (c.in-Ok-Latest.ensures.exact told (answers c.in-Ok-Latest.field-0)) in (
            record { durable = b; place = p },
            (
              c.where_it_fits.ensures.finds
                  (subst (λ (x : Durable). ForSome x.hold (Fits c.args.tables.now)) (sym e) fits),
              e,
            ),
          );
      points = scanned g (goal.at.returns-in-Ok-Latest g c).After-scan;
      text = c.scan.ensures.reads.text;
      kept = keeps_read g.B.Printer c.args.board.now c.scan.new.board c.scan.ensures.reads
          (c.in-Ok-Latest.ensures.synced.same (answers c.in-Ok-Latest.field-0));
      beside = beside g (goal.at.returns-in-Ok-Latest g c).After-scan;
      cause = went_well (g.B.Printer.faults c.args.board.now)
          (g.B.Printer.faults c.scan.new.board) _
          (c.in-Ok-Latest.ensures.cause.kept (λ no. absurd cc));
      steps = omega (arith, c.scan.ensures.steps, c.where_it_fits.ensures.steps);
    }

pub returns-in-Ok-Blank : goal.returns-in-Ok-Blank
returns-in-Ok-Blank g c =
    let f = c.in-Ok-Blank.field-0 in
    let e = c.in-Ok-Blank.ensures in
    nothing g (goal.at.returns-in-Ok-Blank g c).After-scan (Ok f)
    (λ place d image at exact. not_blank f place d image c.in-Ok-Blank.field-0-is at exact) (answers f)
    e.exact e.synced.same e.cause.kept

pub returns-in-Err-DeviceFailed : goal.returns-in-Err-DeviceFailed
returns-in-Err-DeviceFailed g c = record {
  agrees = tt;
  range = tt;
  finds = λ told place d settled fits. tt;
  points = scanned g (goal.at.returns-in-Err-DeviceFailed g c).After-scan;
  text = c.scan.ensures.reads.text;
  kept = tt;
  beside = beside g (goal.at.returns-in-Err-DeviceFailed g c).After-scan;
  cause = record {
    kept = λ ok. absurd (let bad : false ≡ true = ok in cc);
    failed = λ err. c.in-Err-DeviceFailed.ensures.cause.rose (ap Err c.in-Err-DeviceFailed.field-0-is);
  };
  steps = few c.args.steps.now c.scan.new.steps c.scan.ensures.steps;
}

pub returns-in-Err-BadBody : goal.returns-in-Err-BadBody
returns-in-Err-BadBody g c =
    let e = c.in-Err-BadBody.ensures in
    nothing g (goal.at.returns-in-Err-BadBody g c).After-scan (Err c.in-Err-BadBody.field-0)
    (no_fault c.in-Err-BadBody.field-0) (bad_body c.in-Err-BadBody.field-0 _ c.in-Err-BadBody.field-0-is)
    e.exact e.synced.same e.cause.kept

pub returns-in-Err-SameNumber : goal.returns-in-Err-SameNumber
returns-in-Err-SameNumber g c =
    let e = c.in-Err-SameNumber.ensures in
    nothing g (goal.at.returns-in-Err-SameNumber g c).After-scan (Err c.in-Err-SameNumber.field-0)
    (no_fault c.in-Err-SameNumber.field-0)
    (same_number c.in-Err-SameNumber.field-0 _ c.in-Err-SameNumber.field-0-is) e.exact e.synced.same e.cause.kept
