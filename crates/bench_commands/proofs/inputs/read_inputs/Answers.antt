use Rattle.std.proofs.{Common.{◌∙◌, Err, ap, refl}, lemmas.Result.{err_from_is_err_and}}
use Rattle.call_ends.{specs.Ending.{ended_for}, proofs.Laws.{not_board-text, read_fault-text, reads-bad, reads-ok}}
use Rattle.store_commands.{specs.StoreEnds.{ended_for_params}, proofs.Laws.{not_board-params, read_fault-params}}
use Rattle.bench_commands.specs.Common.{tree_of}
use Rattle.bench_commands.proofs.DriveTextAnswers.{no_drive, no_params, no_tariff, no_text, with_text}
use Rattle.bench_commands.proofs.inputs.read_inputs.Goals as goal

pub returns-in-Err-clause-reads : goal.returns-in-Err-clause-reads
returns-in-Err-clause-reads g c = λ text image. let f = c.read_tariff.ensures in let fault = c.in-Err.fault in
    record {
      refused = rw c.refused_by.ensures (no_tariff text image fault
          (reads-bad f.read_fault f.others f.counts ended_for c.in-Err.is (read_fault-text fault) refl
          (not_board-text fault))
          (λ tells why e. f.refused why tells (c.in-Err.is ∙ ap Err e)));
      lacks = tt;
      makes = tt;
    }

pub returns-in-Err-read_parameters-clause-reads : goal.returns-in-Err-read_parameters-clause-reads
returns-in-Err-read_parameters-clause-reads g c = λ text image.
    let f = c.read_tariff.ensures in let s = c.read_parameters.ensures in
    let fault = c.in-Err-read_parameters.fault in
    record {
      refused = rw c.refused_params.ensures (no_params text image (tree_of c.in-Ok.checked)
          (reads-ok f.read_fault f.others f.counts c.in-Ok.ensures.ended c.in-Ok.is) c.in-Ok.ensures.found fault
          (reads-bad s.read_fault s.others s.counts ended_for_params c.in-Err-read_parameters.is
          (read_fault-params fault) refl (not_board-params fault))
          (λ tells why e. s.refused why tells (c.in-Err-read_parameters.is ∙ ap Err e)));
      lacks = tt;
      makes = tt;
    }

pub returns-in_err-runs-clause-reads : goal.returns-in_err-runs-clause-reads
returns-in_err-runs-clause-reads g c = λ text image.
    let f = c.read_tariff.ensures in let s = c.read_parameters.ensures in
    let p = err_from_is_err_and c.from_residual.result c.from_residual.ensures.1 in
    rw (p.1, p.2) (record {
      refused = no_drive text image (tree_of c.in-Ok.checked)
          (reads-ok f.read_fault f.others f.counts c.in-Ok.ensures.ended c.in-Ok.is) c.in-Ok.ensures.found
          c.in-Ok-read_parameters.params
          (reads-ok s.read_fault s.others s.counts c.in-Ok-read_parameters.ensures.ended c.in-Ok-read_parameters.is)
          c.in-Ok-read_parameters.ensures.found c.in_err-runs.field-0.0
          (rw c.in_err-runs.was at c.read_drive.ensures.reads) c.in_err-runs.ensures.refused;
      lacks = tt;
      makes = tt;
    })

pub returns-clause-reads : goal.returns-clause-reads
returns-clause-reads g c = λ text image.
    let f = c.read_tariff.ensures in let s = c.read_parameters.ensures in
    let first = reads-ok f.read_fault f.others f.counts c.in-Ok.ensures.ended c.in-Ok.is in
    let second = reads-ok s.read_fault s.others s.counts c.in-Ok-read_parameters.ensures.ended
    c.in-Ok-read_parameters.is in
    let third = rw c.in_ok-runs.was at c.read_drive.ensures.reads in
    record {
      refused = tt;
      lacks = no_text text image (tree_of c.in-Ok.checked) first c.in-Ok.ensures.found c.in-Ok-read_parameters.params
          second c.in-Ok-read_parameters.ensures.found third;
      makes = with_text text image (tree_of c.in-Ok.checked) first c.in-Ok.ensures.found
          c.in-Ok-read_parameters.params second c.in-Ok-read_parameters.ensures.found third c.in_ok-runs.runs.items _
          c.in_ok-runs.ensures.whole refl;
    }
