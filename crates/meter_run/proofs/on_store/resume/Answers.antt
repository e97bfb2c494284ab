use Rattle.std.proofs.Common.{◌∙◌, All, List, Some, arith, refl, subst, sym}
use Rattle.meter_run.specs.{Common.{Act, IsLawfulAct, Up}, OnStore.{MayDo}}
use Rattle.meter_run.proofs.{EventOnStore.{came_as, event_attempted, ready_opened}, SupplyDrop.{acts_for, few_commits}}
use Rattle.meter_run.proofs.on_store.resume.Goals as goal

pub resume-core-requires-clause-constant : goal.resume-core-requires-clause-constant
resume-core-requires-clause-constant g c =
    c.requires.ready.secured.is.tariff.constant ∙ sym c.requires.ready.secured.is.secured.constant

pub do_acts-done-requires-clause-acts : goal.do_acts-done-requires-clause-acts
do_acts-done-requires-clause-acts g c =
    let t = c.args.tables.now in
    let k = c.args.seal.now in
    let core = c.args.meter.now.core in
    let d = c.args.found.durable in
    let acts = c.as_slice.result.now in
    let e = c.as_slice.ensures.value in
    acts_for t k (Up c.args.second) core c.resume-core.result.0 d acts (ready_opened t k core d c.requires.ready.secured
    c.requires.off c.requires.ready.lawful c.requires.range c.requires.agrees.fits)
    (came_as t k core d c.resume-core.result.0 c.args.second acts c.resume-core.result.1.items e c.requires.off
    c.resume-core.ensures.meets)
    (subst (λ (acts : List Act). All (IsLawfulAct t d.number) acts) (sym e) c.resume-core.ensures.ranges)

pub do_acts-done-requires-clause-may : goal.do_acts-done-requires-clause-may
do_acts-done-requires-clause-may g c =
    let n = c.args.found.durable.number in (
      c.args.tables.now,
      record {
        agrees = c.requires.agrees;
        number = n;
        lawful = subst (λ (acts : List Act). All (IsLawfulAct c.args.tables.now n) acts)
            (sym c.as_slice.ensures.value) c.resume-core.ensures.ranges;
      },
    )

pub returns : goal.returns
returns g c =
    let t = c.args.tables.now in
    let k = c.args.seal.now in
    let core = c.args.meter.now.core in
    record {
      attempts =
          let found = c.args.found in
          let acts = c.as_slice.result.now in
          let e = c.as_slice.ensures.value in
          let ready = c.requires.ready in
          let done = c.do_acts-done.ensures in
          let lawful =
          subst (λ (acts : List Act). All (IsLawfulAct t found.durable.number) acts) (sym e)
          c.resume-core.ensures.ranges in
          let may : MayDo g.B.Printer t found c.args.board.now acts =
          record { agrees = c.requires.agrees; number = found.durable.number; lawful = lawful } in
          event_attempted g.B.Printer t k (record { core = core; known = Some found }) c.args.board.now found
          c.resume-core.result.0 c.do_acts-done.new.board (Up c.args.second) acts refl
          (came_as t k core found.durable c.resume-core.result.0 c.args.second acts c.resume-core.result.1.items e
          c.requires.off c.resume-core.ensures.meets) (λ told. done.points told t may) done.beside
          c.do_acts-done.result c.do_acts-done.new.known ready.secured
          (ready_opened t k core found.durable ready.secured
          c.requires.off ready.lawful c.requires.range c.requires.agrees.fits)
          lawful c.resume-core.ensures.lawful done.durable (done.agrees t may) done.whole done.turn done.cause;
      steps =
          let d = c.args.found.durable in
          let xs = c.as_slice.result.now in
          let few = few_commits t k (Up c.args.second) core c.resume-core.result.0 d xs (ready_opened t k core d
          c.requires.ready.secured c.requires.off c.requires.ready.lawful c.requires.range c.requires.agrees.fits)
          (came_as t k core d c.resume-core.result.0 c.args.second xs c.resume-core.result.1.items
          c.as_slice.ensures.value
          c.requires.off c.resume-core.ensures.meets) in
          omega (arith, few, c.as_slice.ensures.fits, c.resume-core.ensures.steps, c.do_acts-done.ensures.steps);
    }
