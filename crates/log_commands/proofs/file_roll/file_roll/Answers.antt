use Rattle.std.proofs.Common.{[], ◌∙◌, Ok, ap, arith, refl}
use Rattle.log_commands.specs.declared.roll.RollEnd.TheVariants.{ReadFault}
use Rattle.log_commands.proofs.{Causes.{cause_ok, err_later, may_none, may_rise_for, rises_none}, Tails.{files_none}}
use Rattle.log_commands.proofs.RollFilings.{counts_over, err_says, failed_err, fault_over, filing_by, filing_fails}
use Rattle.log_commands.proofs.RollFilings.{filing_on, filing_other_now, filing_over, may_since, rises_since, same_end}
use Rattle.log_commands.proofs.file_roll.file_roll.Goals as goal

pub loop-end-init : goal.loop-end-init
loop-end-init g c = record {
  filing = record {
    receipts = [];
    filed = [];
    to = files_none g.G.Printer g.G.Printer.tells_image c.args.log.now c.args.tail.now
        (λ told image text left. (g.met.G.Printer.only_now c.args.log.now image text left).bytes);
    read = λ told. c.new-roll.ensures.start (g.F.Files.rest c.args.files.now c.args.word);
    seen_is = refl;
    few = omega arith;
  };
  last = c.requires.last;
  filed = omega (arith, c.requires.none);
  most = omega (arith, c.new-roll.ensures.most);
  text = refl;
  faults = refl;
  fault = rises_none (g.F.Files.faults c.args.files.now c.args.word)
      (λ is. let going = c.new-roll.ensures.going in absurd cc);
  others = λ other ne. refl;
  counts = λ other. may_none (g.F.Files.faults c.args.files.now other);
}

pub returns-in-Err-clause-ok : goal.returns-in-Err-clause-ok
returns-in-Err-clause-ok g c =
    filing_over g.G.Printer g.G.Printer.tells_image g.F.Files.tells c.in-Err.end c.file_end.result c.args.log.now
    c.loop-end.log c.args.tail.now c.loop-end.tail
    (g.F.Files.rest c.args.files.now c.args.word) c.loop-end.roll c.next.new.self (g.F.Files.rest c.loop-end.files
    c.args.word) (g.F.Files.rest c.next.new.files c.args.word) c.loop-end.seen c.args.steps.now c.loop-end.steps
    c.loop-end.invariant.filing c.requires.none c.in-Err.ensures.over c.in-Err.ensures.end
    (c.file_end.ensures.whole, c.file_end.ensures.too_long, c.file_end.ensures.fault)

pub returns-in_err-file_one-in-Ok-clause-failed : goal.returns-in_err-file_one-in-Ok-clause-failed
returns-in_err-file_one-in-Ok-clause-failed g c =
    let failed = c.in_err-file_one-in-Ok.ensures.failed in
    err_says c.from_residual.result (filing_fails g.G.Printer g.G.Printer.tells_image g.F.Files.tells c.args.log.now
    c.loop-end.log c.file_one.new.log c.args.tail.now c.loop-end.tail
    (g.F.Files.rest c.args.files.now c.args.word) c.loop-end.roll c.next.new.self
    (g.F.Files.rest c.loop-end.files c.args.word)
    (g.F.Files.rest c.next.new.files c.args.word) c.loop-end.seen c.args.steps.now c.loop-end.steps c.file_one.new.steps
    c.in-Ok.receipt c.loop-end.invariant.filing c.in-Ok.ensures.found failed.0 failed.1 c.file_one.ensures.steps)

pub returns-in_err-file_one-in-Ok-clause-cause : goal.returns-in_err-file_one-in-Ok-clause-cause
returns-in_err-file_one-in-Ok-clause-cause g c =
    err_later _ _ (g.G.Printer.faults c.loop-end.log) _ c.loop-end.invariant.faults
    c.in_err-file_one-in-Ok.ensures.cause c.from_residual.result c.from_residual.ensures.1

pub returns-in-OtherTaxi-clause-ok : goal.returns-in-OtherTaxi-clause-ok
returns-in-OtherTaxi-clause-ok g c =
    let other = c.in_ok-file_one-in-Ok.ensures.other (ap Ok c.in-OtherTaxi.is) in
    filing_other_now g.G.Printer g.G.Printer.tells_image g.F.Files.tells c.args.log.now c.loop-end.log
    c.file_one.new.log
    c.args.tail.now c.loop-end.tail c.file_one.new.tail
    (g.F.Files.rest c.args.files.now c.args.word) c.loop-end.roll c.next.new.self
    (g.F.Files.rest c.loop-end.files c.args.word)
    (g.F.Files.rest c.next.new.files c.args.word) c.loop-end.seen c.args.steps.now c.loop-end.steps c.file_one.new.steps
    c.in-Ok.receipt c.loop-end.invariant.filing c.in-Ok.ensures.found other.0 other.1 other.2 other.3

pub returns-in-OtherTaxi-clause-cause : goal.returns-in-OtherTaxi-clause-cause
returns-in-OtherTaxi-clause-cause g c =
    cause_ok _ _ _ (c.in_ok-file_one-in-Ok.ensures.cause.kept refl ∙ c.loop-end.invariant.faults)

pub returns-in-Err-clause-cause : goal.returns-in-Err-clause-cause
returns-in-Err-clause-cause g c = cause_ok _ _ _ c.loop-end.invariant.faults

-- ---- the counts of the files

pub returns-in-Err-clause-read_fault : goal.returns-in-Err-clause-read_fault
returns-in-Err-clause-read_fault g c = λ is.
    fault_over g.G.Printer g.G.Printer.tells_image g.F.Files.tells c.in-Err.end c.next.new.self
    c.file_end.result c.loop-end.tail.filed _ _ c.in-Err.ensures.end.0
    (c.file_end.ensures.whole, c.file_end.ensures.too_long, c.file_end.ensures.fault)
    (rises_since c.loop-end.roll c.next.new.self _ (g.F.Files.faults c.loop-end.files c.args.word) _
    (λ was. (c.next.ensures.stays ReadFault was).0) c.loop-end.invariant.fault c.next.ensures.fault)
    (same_end _ _ is)

pub returns-in-Err-clause-counts : goal.returns-in-Err-clause-counts
returns-in-Err-clause-counts g c = λ other.
    counts_over g.G.Printer g.G.Printer.tells_image g.F.Files.tells c.in-Err.end c.next.new.self
    c.file_end.result c.loop-end.tail.filed _ _ c.in-Err.ensures.end.0
    (c.file_end.ensures.whole, c.file_end.ensures.too_long, c.file_end.ensures.fault)
    (may_since c.loop-end.roll c.next.new.self _ (g.F.Files.faults c.loop-end.files other) _
    (λ was. (c.next.ensures.stays ReadFault was).0) (c.loop-end.invariant.counts other)
    (c.next.ensures.counts other))

pub returns-in_err-file_one-in-Ok-clause-counts : goal.returns-in_err-file_one-in-Ok-clause-counts
returns-in_err-file_one-in-Ok-clause-counts g c = λ other.
    may_rise_for _ _ (λ _. failed_err _ c.from_residual.result c.from_residual.ensures.1)
    (may_since c.loop-end.roll c.next.new.self _ (g.F.Files.faults c.loop-end.files other) _
    (λ was. (c.next.ensures.stays ReadFault was).0) (c.loop-end.invariant.counts other)
    (c.next.ensures.counts other))

pub returns-in-OtherTaxi-clause-others : goal.returns-in-OtherTaxi-clause-others
returns-in-OtherTaxi-clause-others g c =
    λ other ne. c.next.ensures.others other ne ∙ c.loop-end.invariant.others other ne

pub returns-in-OtherTaxi-clause-counts : goal.returns-in-OtherTaxi-clause-counts
returns-in-OtherTaxi-clause-counts g c = λ other.
    may_rise_for _ _ (λ _. tt)
    (may_since c.loop-end.roll c.next.new.self _ (g.F.Files.faults c.loop-end.files other) _
    (λ was. (c.next.ensures.stays ReadFault was).0) (c.loop-end.invariant.counts other)
    (c.next.ensures.counts other))

pub loop-end-preserved : goal.loop-end-preserved
loop-end-preserved g c = record {
  filing = filing_on g.G.Printer g.G.Printer.tells_image g.F.Files.tells c.args.log.now c.loop-end.log
      c.file_one.new.log
      c.args.tail.now c.loop-end.tail c.file_one.new.tail
      (g.F.Files.rest c.args.files.now c.args.word) c.loop-end.roll c.next.new.self
      (g.F.Files.rest c.loop-end.files c.args.word) (g.F.Files.rest c.next.new.files c.args.word) c.loop-end.seen
      c.args.steps.now c.loop-end.steps c.file_one.new.steps
      c.in-Ok.receipt c.loop-end.invariant.filing c.in-Ok.ensures.found
      (filing_by g.G.Printer g.G.Printer.tells_image g.F.Files.tells c.in_ok-file_one-in-Ok.field-0 c.loop-end.log
      c.file_one.new.log c.loop-end.tail c.file_one.new.tail c.in-Ok.receipt c.loop-end.steps c.file_one.new.steps
      c.in_default.not-OtherTaxi c.in_ok-file_one-in-Ok.ensures.passed c.in_ok-file_one-in-Ok.ensures.appended
      c.file_one.ensures.steps);
  last = c.in_ok-file_one-in-Ok.ensures.last;
  filed = omega (arith, c.in_ok-file_one-in-Ok.ensures.filed, c.loop-end.invariant.filed);
  most = omega (arith, c.in-Ok.ensures.fewer, c.loop-end.invariant.most);
  text = c.file_one.ensures.text ∙ c.loop-end.invariant.text;
  faults = c.in_ok-file_one-in-Ok.ensures.cause.kept refl ∙ c.loop-end.invariant.faults;
  fault = rises_since c.loop-end.roll c.next.new.self _ (g.F.Files.faults c.loop-end.files c.args.word) _
      (λ was. (c.next.ensures.stays ReadFault was).0) c.loop-end.invariant.fault c.next.ensures.fault;
  others = λ other ne. c.next.ensures.others other ne ∙ c.loop-end.invariant.others other ne;
  counts = λ other. may_since c.loop-end.roll c.next.new.self _ (g.F.Files.faults c.loop-end.files other) _
      (λ was. (c.next.ensures.stays ReadFault was).0) (c.loop-end.invariant.counts other) (c.next.ensures.counts other);
}
