use Rattle.std.proofs.{Common.{[], ◌∷◌, refl, rules}, lemmas.Result.{on_ok_weaker}}
use Rattle.meter_run.{specs.Common.{Down, ended}, proofs.WholeRun.{amid_either, amid_of, ends_amid, ends_off, ends_on}}
use Rattle.meter_run.proofs.{EventOnStore.{carried_one, stopped_one}, RunEnds.{not_told}}
use Rattle.meter_run.proofs.store_drive.drop_at_end.Goals as goal

pub returns-then-is_off-clause-carried : goal.returns-then-is_off-clause-carried
returns-then-is_off-clause-carried g c = ends_off g.B.Printer c.args.tables.now c.args.seal.now c.args.meter.now
    c.args.board.now (g.met.B.Printer.only_now c.args.board.now) (c.is_off.ensures.0 c.if-is_off.true)

pub returns-then-is_off-clause-stopped : goal.returns-then-is_off-clause-stopped
returns-then-is_off-clause-stopped g c =
    let x = c.args.meter.now in
    let a = c.args.board.now in
    amid_of g.B.Printer c.args.tables.now c.args.seal.now (λ s m. ended s m) x a x a
    (ends_off g.B.Printer c.args.tables.now
    c.args.seal.now x a (g.met.B.Printer.only_now a) (c.is_off.ensures.0 c.if-is_off.true))

pub returns-then-is_off-clause-idle : goal.returns-then-is_off-clause-idle
returns-then-is_off-clause-idle g c = λ off. refl

pub returns : goal.returns
returns g c =
    let t = c.args.tables.now in
    let k = c.args.seal.now in
    let x = c.args.meter.now in
    let a = c.args.board.now in
    let y = c.carry_event.new.self in
    let b = c.carry_event.new.board in
    let done = c.carry_event.ensures in
    record {
      carried = on_ok_weaker c.carry_event.result (λ h. ends_on g.B.Printer t k x a y b
          (not_told c.is_off.result _ c.is_off.ensures.1 c.if-is_off.false) h.out)
          (carried_one g.B.Printer t k c.carry_event.result x a y b Down done.attempts done.supply);
      stopped =
          let r = c.carry_event.result in
          ends_amid g.B.Printer t k x a b (not_told c.is_off.result _ c.is_off.ensures.1 c.if-is_off.false)
          (amid_either g.B.Printer t k r (Down ∷ []) x a y b
          (carried_one g.B.Printer t k r x a y b Down done.attempts done.supply)
          (stopped_one g.B.Printer t k r x a y b Down done.attempts));
      cause = c.carry_event.ensures.attempts.cause;
      steps = search rules;
      idle = λ off. absurd (not_told c.is_off.result _ c.is_off.ensures.1 c.if-is_off.false off);
    }
