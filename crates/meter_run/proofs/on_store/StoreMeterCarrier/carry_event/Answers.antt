use Rattle.meter_run.proofs.EventOnStore.{carried_one, stopped_one}
use Rattle.meter_run.proofs.on_store.StoreMeterCarrier.carry_event.Goals as goal

pub returns-clause-carried : goal.returns-clause-carried
returns-clause-carried g c =
    let done = c.carry_event.ensures in
    carried_one g.B.Printer c.args.by.now.tables.now c.args.by.now.seal.now c.carry_event.result c.args.self.now
    c.args.board.now c.carry_event.new.self c.carry_event.new.board c.args.event done.attempts done.supply

pub returns-clause-broke_off : goal.returns-clause-broke_off
returns-clause-broke_off g c =
    stopped_one g.B.Printer c.args.by.now.tables.now c.args.by.now.seal.now c.carry_event.result c.args.self.now
    c.args.board.now c.carry_event.new.self c.carry_event.new.board c.args.event c.carry_event.ensures.attempts
