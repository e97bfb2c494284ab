use Rattle.std.proofs.Common.{[], ◌+◌, ◌∙◌, ◌∷◌, ◌≡◌, None, Option, Some, ap, arith, length, sym}
use Rattle.{outside.proofs.Laws.{may_rise_more}, receipt_reading.specs.declared.roll.RollEnd.TheVariants.{ReadFault}}
use Rattle.receipt_reading.{specs.Common.{RisesOnlyIf}, proofs.Readings.{reads_on}}
use Rattle.receipt_reading.{specs.{Printed.{Printed}, Reading.{FailsNow, Place, ReadsOn}}, proofs.Rolls.{goes_further}}
use Rattle.receipt_reading.proofs.roll.Roll.next.Given as given
use Rattle.receipt_reading.proofs.roll.Roll.next.Goals as goal

no_receipt : (receipt_found : Printed) → ◌≡◌ {A = Option Printed} (Some receipt_found) None → ⊥
no_receipt receipt_found e = cc

pub returns-in-Some-clause-found : goal.returns-in-Some-clause-found
returns-in-Some-clause-found g c =
    let F = g.F.Files in
    let word = c.args.word in
    let loop = c.loop-receipt in
    let found = c.in-Some.ensures in
    reads_on F word c.args.files.now loop.files c.args.self.now c.find.new.self (c.in-Some.receipt ∷ [])
    (λ told. goes_further c.args.self.now loop.self c.find.new.self _ _ _ [] (c.in-Some.receipt ∷ [])
    (loop.invariant.goes told) (found.goes (F.rest loop.files word)))
    (omega (arith, found.fewer, found.left, loop.invariant.most))
    (λ was. found.end ∙ (loop.invariant.stays ReadFault was).0)
    (record {
      kept = λ no. loop.invariant.fault.kept (λ fails. no (found.end ∙ fails.0, fails.1));
      rose = λ fails. loop.invariant.fault.rose (sym found.end ∙ fails.0, fails.1);
    })
    loop.invariant.others
    (λ other. may_rise_more (λ fails. (found.end ∙ fails.0, fails.1)) (loop.invariant.counts other))

pub returns-in-Some-end-clause-over : goal.returns-in-Some-end-clause-over
returns-in-Some-end-clause-over g c =
    let F = g.F.Files in
    let word = c.args.word in
    let loop = c.loop-receipt in
    let none = c.in_default.ensures in
    reads_on F word c.args.files.now loop.files c.args.self.now c.find.new.self []
    (λ told. goes_further c.args.self.now loop.self c.find.new.self _ _ _ [] [] (loop.invariant.goes told)
    (none.goes (F.rest loop.files word)))
    (omega (arith, none.no_more, none.left, loop.invariant.most))
    (λ was. none.end ∙ (loop.invariant.stays ReadFault was).0)
    (record {
      kept = λ no. loop.invariant.fault.kept (λ fails. no (none.end ∙ fails.0, fails.1));
      rose = λ fails. loop.invariant.fault.rose (sym none.end ∙ fails.0, fails.1);
    })
    loop.invariant.others
    (λ other. may_rise_more (λ fails. (none.end ∙ fails.0, fails.1)) (loop.invariant.counts other))

pub returns-in-Some-clause-again : goal.returns-in-Some-clause-again
returns-in-Some-clause-again g c = λ end over.
    let still = c.loop-receipt.invariant.again end over in
    let nothing = c.in-Some.ensures.nothing (ap (λ (p : Place). p.ahead) still.0 ∙ over.1) in
    absurd (no_receipt c.in-Some.receipt nothing.0)

pub returns-in-Some-clause-stays : goal.returns-in-Some-clause-stays
returns-in-Some-clause-stays g c = λ end was.
    let still = c.loop-receipt.invariant.stays end was in (c.in-Some.ensures.end ∙ still.0, still.1)
