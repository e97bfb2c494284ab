use Rattle.std.proofs.Common.{ℕ, ◌+◌, ◌∙◌, List, arith, refl, subst, sym}
use Rattle.{outside.proofs.Laws.{keeps_then}, log_commands.proofs.Shown.{begun_more, held_next, shown_more}}
use Rattle.log_commands.specs.Slots.{HasRecord, slot_of}
use Rattle.log_commands.proofs.show.show_records.Goals as goal

pub returns-in_err-show_one-clause-begun : goal.returns-in_err-show_one-clause-begun
returns-in_err-show_one-clause-begun g c = λ image text records held is.
    let k = c.loop-more.more in
    let there =
    held_next (g.G.Printer.image c.args.log.now) c.args.first records k (omega
    (arith, c.loop-more-test.true, is)) held in
    let holds = subst (λ (i : List ℕ). HasRecord i (slot_of (c.args.first + k)) (c.args.first + k) there.0)
    (sym c.loop-more.invariant.keeps.same) there.1 in
    begun_more _ (g.G.Printer.printed c.loop-more.log) _ records k there.0.text (c.loop-more.invariant.so_far image text
    records held is) there.2 (c.show_one.ensures.begun image text there.0 holds)

pub loop-more-preserved : goal.loop-more-preserved
loop-more-preserved g c = record {
  so_far = λ image text records held is.
      let k = c.loop-more.more in
      let there = held_next (g.G.Printer.image c.args.log.now) c.args.first records k
      (omega (arith, c.loop-more-test.true, is)) held in
      let holds = subst (λ (i : List ℕ). HasRecord i (slot_of (c.args.first + k)) (c.args.first + k) there.0)
      (sym c.loop-more.invariant.keeps.same) there.1 in
      shown_more _ (g.G.Printer.printed c.loop-more.log) _ records k there.0.text
      (c.loop-more.invariant.so_far image text
      records held is) there.2 (c.in_ok-show_one.ensures.shown image text there.0 holds);
  keeps = keeps_then g.G.Printer c.args.log.now c.loop-more.log c.show_one.new.log c.loop-more.invariant.keeps
      c.show_one.ensures.keeps;
  faults = c.in_ok-show_one.ensures.cause.kept refl ∙ c.loop-more.invariant.faults;
  few = omega (arith, c.show_one.ensures.steps, c.loop-more.invariant.few);
}
