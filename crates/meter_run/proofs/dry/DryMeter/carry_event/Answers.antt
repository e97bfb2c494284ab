use Rattle.std.proofs.{Common.{◌++◌, ◌∙◌, List, ap, subst, sym}, lemmas.Result.{on_ok_weaker}}
use Rattle.meter_run.{specs.Commits.{AreFor, after_acts}, proofs.EventLists.{on_err, on_ok_both, on_ok_under}}
use Rattle.meter_run.specs.Common.{Act, Begins}
use Rattle.meter_run.{specs.Texts.{shown_texts}, proofs.SupplyDrop.{acts_for, breaks_event, carries_event, ready_after}}
use Rattle.meter_run.proofs.dry.DryMeter.carry_event.Goals as goal

pub perform_all-requires : goal.perform_all-requires
perform_all-requires g c =
    subst (AreFor c.args.self.now.durable) (sym c.as_slice.ensures.value)
    (acts_for c.args.tables.now c.args.seal.now c.args.event c.args.self.now.core c.step_or_resume.new.core
    c.args.self.now.durable c.step_or_resume.new.acts.items c.requires.ready c.step_or_resume.ensures.meets
    c.step_or_resume.ensures.ranges)

pub returns-clause-ready : goal.returns-clause-ready
returns-clause-ready g c =
    let d = c.args.self.now.durable in
    on_ok_weaker c.perform_all.result (λ is. ready_after c.args.tables.now c.args.seal.now c.args.event
    c.args.self.now.core c.step_or_resume.new.core d c.perform_all.new.durable c.step_or_resume.new.acts.items
    c.requires.ready c.step_or_resume.ensures.meets c.step_or_resume.ensures.ranges c.step_or_resume.ensures.lawful
    (is ∙ ap (after_acts d) c.as_slice.ensures.value)) c.perform_all.ensures.durable

pub returns-clause-carried : goal.returns-clause-carried
returns-clause-carried g c =
    let d = c.args.self.now.durable in
    let e = c.as_slice.ensures.value in
    on_ok_weaker c.perform_all.result
    (λ both. carries_event g.B.Printer c.args.tables.now c.args.seal.now c.args.self.now c.args.board.now
    (record {
      core = c.step_or_resume.new.core;
      durable = c.perform_all.new.durable;
    }) c.perform_all.new.board c.args.event
    c.step_or_resume.new.acts.items
    c.step_or_resume.ensures.meets (both.0 ∙ ap (after_acts d) e) (λ told. both.1 told
    ∙ ap (λ (acts : List Act). g.B.Printer.printed c.args.board.now ++ shown_texts acts) e) c.perform_all.ensures.store)
    (on_ok_both _ _ c.perform_all.result c.perform_all.ensures.durable
    (on_ok_under _ _ c.perform_all.result c.perform_all.ensures.whole))

pub returns-clause-broke_off : goal.returns-clause-broke_off
returns-clause-broke_off g c =
    on_err c.perform_all.result _ (breaks_event g.B.Printer c.args.tables.now c.args.seal.now c.args.self.now
    c.args.board.now c.perform_all.new.board c.step_or_resume.new.core c.args.event c.step_or_resume.new.acts.items
    c.step_or_resume.ensures.meets (λ told. subst (λ (acts : List Act). Begins (g.B.Printer.printed c.args.board.now)
    (g.B.Printer.printed c.perform_all.new.board) (shown_texts acts)) c.as_slice.ensures.value
    (c.perform_all.ensures.begun told)) c.perform_all.ensures.store)
