use Rattle.std.proofs.Common.{[], ◌≡◌, None, Option, Some, arith, refl}
use Rattle.{outside.proofs.Laws.{may_rise_more}, receipt_reading.specs.declared.roll.RollEnd.TheVariants.{ReadFault}}
use Rattle.receipt_reading.{specs.declared.roll.RollEnd.{RollEnd}, proofs.Readings.{begins, reads_nothing, reads_on}}
use Rattle.receipt_reading.proofs.roll.Roll.begin.Goals as goal

going : ◌≡◌ {A = Option RollEnd} None (Some ReadFault) → ⊥
going e = absurd cc

pub returns : goal.returns
returns g c = record {
  reads = reads_on g.F.Files c.args.word c.args.files.now c.fill.new.files _ c.fill.new.self [] c.fill.ensures.goes
      (omega (arith, c.fill.ensures.most)) (λ was. absurd (going was))
      (record {
        kept = λ none. c.fill.ensures.fault.kept (λ is. none (is, going));
        rose = λ fails. c.fill.ensures.fault.rose fails.0;
      })
      c.fill.ensures.others
      (λ other. may_rise_more (λ is. (is, going)) (c.fill.ensures.counts other)) c.args.files.now []
      (reads_nothing g.F.Files c.args.word c.args.files.now _ refl refl refl);
  begun = λ not. begins _ c.fill.new.self refl c.fill.ensures.fewer c.fill.ensures.long not;
  failed = λ is. let h = c.fill.ensures.failed is in ((is, h.0), h.1);
}
