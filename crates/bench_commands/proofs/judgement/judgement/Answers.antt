use Rattle.std.proofs.{Common.{◌∙◌, All, Err, ap, inr, subst, sym}, lemmas.Result.{err_from_is_err_and}}
use Rattle.{store_commands.proofs.Laws.{lines_of_sealed}, bench_commands.specs.Common.{IsRunInRange, tree_of}}
use Rattle.bench_commands.proofs.BenchEnds.{judged, no_drive, no_readings, no_report, no_tariff}
use Rattle.bench_commands.proofs.judgement.judgement.Goals as goal

pub returns-in_err-checked-clause-makes : goal.returns-in_err-checked-clause-makes
returns-in_err-checked-clause-makes g c = λ image.
    let p = err_from_is_err_and c.from_residual.result c.from_residual.ensures.1 in
    rw (p.1, p.2) (no_tariff g.F.Files image c.args.seal.now _ c.in_err-checked.field-0.0
    (rw c.in_err-checked.was at c.read_sealed.ensures.reads)
    (λ tells. c.read_sealed.ensures.refused c.in_err-checked.field-0.0 tells c.in_err-checked.was))

pub returns-in_err-runs-clause-makes : goal.returns-in_err-runs-clause-makes
returns-in_err-runs-clause-makes g c = λ image.
    let p = err_from_is_err_and c.from_residual-in_err-runs.result c.from_residual-in_err-runs.ensures.1 in
    rw (p.1, p.2) (no_drive g.F.Files image c.args.seal.now (tree_of c.in_ok-checked.checked)
    (rw c.in_ok-checked.was at c.read_sealed.ensures.reads) c.in_ok-checked.ensures.found c.in_err-runs.field-0.0
    (rw c.in_err-runs.was at c.read_drive.ensures.reads) c.in_err-runs.ensures.refused)

pub returns-in_err-readings-clause-makes : goal.returns-in_err-readings-clause-makes
returns-in_err-readings-clause-makes g c = λ image.
    let p = err_from_is_err_and c.from_residual-in_err-readings.result c.from_residual-in_err-readings.ensures.1 in
    rw (p.1, p.2) (no_readings g.F.Files image c.args.seal.now (tree_of c.in_ok-checked.checked)
    (rw c.in_ok-checked.was at c.read_sealed.ensures.reads) c.in_ok-checked.ensures.found c.in_ok-runs.runs.items
    (rw c.in_ok-runs.was at c.read_drive.ensures.reads) c.in_ok-runs.ensures.whole c.in_err-readings.field-0.0
    (rw c.in_err-readings.was at c.readings_of_word.ensures.reads)
    (rw c.decimals.ensures.value at c.in_err-readings.ensures.refused))

pub judge_readings-requires : goal.judge_readings-requires
judge_readings-requires g c = subst (All IsRunInRange) (sym c.as_slice.ensures.value) c.in_ok-runs.ensures.range

pub returns-clause-makes : goal.returns-clause-makes
returns-clause-makes g c = λ image.
    no_report g.F.Files image c.args.seal.now (tree_of c.in_ok-checked.checked)
    (rw c.in_ok-checked.was at c.read_sealed.ensures.reads) c.in_ok-checked.ensures.found c.in_ok-runs.runs.items
    (rw c.in_ok-runs.was at c.read_drive.ensures.reads) c.in_ok-runs.ensures.whole
    (rw c.in_ok-readings.was at c.readings_of_word.ensures.reads)

pub returns-in-Ok-clause-makes : goal.returns-in-Ok-clause-makes
returns-in-Ok-clause-makes g c = λ image.
    judged g.F.Files image c.args.seal.now (tree_of c.in_ok-checked.checked)
    (rw c.in_ok-checked.was at c.read_sealed.ensures.reads) c.in_ok-checked.ensures.found c.in_ok-runs.runs.items
    (rw c.in_ok-runs.was at c.read_drive.ensures.reads) c.in_ok-runs.ensures.whole
    (rw c.in_ok-readings.was at c.readings_of_word.ensures.reads) c.in_ok-readings.readings.items
    c.in-Ok.made.text.items c.in-Ok.made.ended (rw c.decimals.ensures.value at c.in_ok-readings.ensures.found)
    (rw (c.as_slice.ensures.value, c.as_slice-2.ensures.value) at c.in-Ok.ensures.text)
    (rw (c.as_slice.ensures.value, c.as_slice-2.ensures.value) at c.in-Ok.ensures.ended)

-- ---- memory ran out

pub returns-in_err-checked-clause-memory : goal.returns-in_err-checked-clause-memory
returns-in_err-checked-clause-memory g c =
    let p = err_from_is_err_and c.from_residual.result c.from_residual.ensures.1 in
    rw (p.1, p.2) (λ tells e. c.read_sealed.ensures.memory tells (c.in_err-checked.was ∙ ap Err e))

pub returns-in_err-runs-clause-memory : goal.returns-in_err-runs-clause-memory
returns-in_err-runs-clause-memory g c = λ tells e.
    inr (lines_of_sealed c.args.seal.now.digest (g.F.Files.rest c.args.files.now 1)
    (tree_of c.in_ok-checked.checked) (c.in_ok-checked.ensures.found tells))

pub returns-in_err-readings-clause-memory : goal.returns-in_err-readings-clause-memory
returns-in_err-readings-clause-memory g c = λ tells e.
    inr (lines_of_sealed c.args.seal.now.digest (g.F.Files.rest c.args.files.now 1)
    (tree_of c.in_ok-checked.checked) (c.in_ok-checked.ensures.found tells))

pub returns-clause-memory : goal.returns-clause-memory
returns-clause-memory g c = λ tells e.
    inr (lines_of_sealed c.args.seal.now.digest (g.F.Files.rest c.args.files.now 1)
    (tree_of c.in_ok-checked.checked) (c.in_ok-checked.ensures.found tells))

pub returns-in-Ok-clause-memory : goal.returns-in-Ok-clause-memory
returns-in-Ok-clause-memory g c = λ tells e.
    inr (lines_of_sealed c.args.seal.now.digest (g.F.Files.rest c.args.files.now 1)
    (tree_of c.in_ok-checked.checked) (c.in_ok-checked.ensures.found tells))
