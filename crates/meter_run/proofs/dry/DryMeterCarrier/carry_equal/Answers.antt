use Rattle.std.proofs.Common.{◌∙◌, List, subst, sym}
use Rattle.meter_run.{specs.Common.{Event, intervals_of}, proofs.Equal.{carries_still, intervals_are, ready_still}}
use Rattle.meter_run.specs.Dry.{CarriesEvents}
use Rattle.meter_run.proofs.dry.DryMeterCarrier.carry_equal.Goals as goal

pub equal_intervals-requires : goal.equal_intervals-requires
equal_intervals-requires g c = record {
  lawful = c.requires.1.lawful;
  constant = c.requires.1.way.is.tariff.constant ∙ sym c.requires.1.way.is.secured.constant;
}

pub returns-clause-ready : goal.returns-clause-ready
returns-clause-ready g c = λ board ready.
    ready_still c.args.by.now.tables.now c.args.by.now.seal.now
    (intervals_of c.args.pulses c.equal_intervals.result) c.args.self.now.core c.equal_intervals.new.self
    c.equal_intervals.ensures.meets c.equal_intervals.ensures.lawful c.args.self.now.durable ready

pub returns-clause-carried : goal.returns-clause-carried
returns-clause-carried g c = λ board ready.
    let n = c.equal_intervals.result in
    let x = c.args.self.now in
    subst (λ (es : List Event). CarriesEvents g.B.Printer c.args.by.now.tables.now c.args.by.now.seal.now x board es
    (record x { core = c.equal_intervals.new.self }) board) (intervals_are c.args.pulses n)
    (carries_still g.B.Printer c.args.by.now.tables.now c.args.by.now.seal.now
    (intervals_of c.args.pulses n) x c.equal_intervals.new.self board c.equal_intervals.ensures.meets)
