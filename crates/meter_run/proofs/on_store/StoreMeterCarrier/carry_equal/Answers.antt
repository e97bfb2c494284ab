use Rattle.std.proofs.Common.{◌∙◌, List, subst, sym}
use Rattle.meter_run.{specs.Common.{Event, intervals_of, run}, proofs.Equal.{intervals_are, knows_still, out_still}}
use Rattle.meter_run.{specs.OnStore.{CarriesOut}, proofs.Supplies.{equal_keep_off}}
use Rattle.meter_run.proofs.on_store.StoreMeterCarrier.carry_equal.Goals as goal

pub equal_intervals-requires : goal.equal_intervals-requires
equal_intervals-requires g c = record {
  lawful = c.requires.1.lawful;
  constant = c.requires.1.secured.is.tariff.constant ∙ sym c.requires.1.secured.is.secured.constant;
}

pub returns-clause-ready : goal.returns-clause-ready
returns-clause-ready g c = λ board ready. record {
  secured = ready.secured;
  lawful = c.equal_intervals.ensures.lawful;
  knows = knows_still c.args.by.now.tables.now c.args.by.now.seal.now
      (intervals_of c.args.pulses c.equal_intervals.result) c.args.self.now.core c.equal_intervals.new.self
      c.equal_intervals.ensures.meets c.equal_intervals.ensures.lawful g.B.Printer c.args.self.now.known board
      c.equal_intervals.ensures.same.0 ready.knows;
}

pub returns-clause-carried : goal.returns-clause-carried
returns-clause-carried g c = λ board ready.
    let n = c.equal_intervals.result in
    let x = c.args.self.now in
    record {
      out = subst (λ (es : List Event). CarriesOut g.B.Printer c.args.by.now.tables.now c.args.by.now.seal.now (λ s m.
          run s es m) x board (record x { core = c.equal_intervals.new.self }) board) (intervals_are c.args.pulses n)
          (out_still g.B.Printer c.args.by.now.tables.now c.args.by.now.seal.now (intervals_of c.args.pulses n) x
          c.equal_intervals.new.self board (g.met.B.Printer.only_now board) c.equal_intervals.ensures.meets);
      supply =
          equal_keep_off x.core.state c.equal_intervals.new.self.state c.args.pulses n c.equal_intervals.ensures.same.0;
    }
