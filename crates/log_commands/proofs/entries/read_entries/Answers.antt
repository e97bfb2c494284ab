use Rattle.std.proofs.{Common.{ℕ, ◌∙◌, List, arith, refl, subst}, lemmas.Result.{err_from_is_err_and}}
use Rattle.{std.proofs.lemmas.List.{length-set}, log_commands.proofs.Causes.{rises_later, rises_ok, rises_passed}}
use Rattle.log_commands.specs.{LogScan.{IsEntry}, declared.scanning.ScanFault.TheVariants.{BadSlot, DeviceFailed}}
use Rattle.log_commands.proofs.{ReadOnlyCalls.{reads_none, reads_then}, Scans.{entries_more, err_same, lowest_told}}
use Rattle.log_commands.proofs.entries.read_entries.Goals as goal

pub loop-slot-init : goal.loop-slot-init
loop-slot-init g c = record {
  size = refl;
  entries = λ told slot small. absurd (omega (arith, small));
  image = refl;
  reads = reads_none g.G.Printer c.args.log.now (g.met.G.Printer.only_now c.args.log.now);
  faults = refl;
  steps = omega arith;
}

pub returns-in_err-entries-clause-bad : goal.returns-in_err-entries-clause-bad
returns-in_err-entries-clause-bad g c =
    let p = err_from_is_err_and c.from_residual.result c.from_residual.ensures.1 in
    rw (p.1, p.2) (λ slot err told.
    let bad = c.in_err-entries.ensures.bad slot (err_same _ _ c.in_err-entries.field-0.0 (BadSlot slot) err) in
    lowest_told _ _ slot c.loop-slot.slot c.loop-slot.entries bad.0 c.loop-slot-test.true c.loop-slot.invariant.image
    (bad.1 told) (c.loop-slot.invariant.entries told))

pub returns-in_err-entries-clause-cause : goal.returns-in_err-entries-clause-cause
returns-in_err-entries-clause-cause g c =
    let p = err_from_is_err_and c.from_residual.result c.from_residual.ensures.1 in
    rises_later _ (g.G.Printer.faults c.loop-slot.log) _ c.loop-slot.invariant.faults
    (rises_passed _ _ c.read_entry.result c.from_residual.result c.in_err-entries.field-0.0 DeviceFailed
    c.in_err-entries.was (rw (p.1, p.2)) c.read_entry.ensures.cause)

pub loop-slot-preserved : goal.loop-slot-preserved
loop-slot-preserved g c =
    record {
      size = length-set c.loop-slot.entries c.loop-slot.slot c.in_ok-entries.field-0 ∙ c.loop-slot.invariant.size;
      entries = λ told slot small.
          entries_more (g.G.Printer.image c.args.log.now) c.loop-slot.entries c.loop-slot.slot c.in_ok-entries.field-0
          (omega (arith, c.loop-slot.invariant.size, c.loop-slot-test.true)) (c.loop-slot.invariant.entries told)
          (subst (λ (i : List ℕ). IsEntry i c.loop-slot.slot c.in_ok-entries.field-0) c.loop-slot.invariant.image
          (c.in_ok-entries.ensures.entry told)) slot small;
      image = c.read_entry.ensures.image ∙ c.loop-slot.invariant.image;
      reads =
          reads_then g.G.Printer _ _ _ c.loop-slot.invariant.reads c.loop-slot.invariant.image
          c.read_entry.ensures.reads;
      faults = rises_ok _ _ c.read_entry.result c.in_ok-entries.field-0 DeviceFailed c.in_ok-entries.was
          c.read_entry.ensures.cause ∙ c.loop-slot.invariant.faults;
      steps = omega (arith, c.loop-slot.invariant.steps, c.read_entry.ensures.step);
    }
