use Rattle.std.proofs.{Common.{◌∙◌, Err, ap, inr, refl}, lemmas.Result.{err_from_is_err_and}}
use Rattle.{tariff_tree.specs.Tree.{tree_of}, call_ends.proofs.Laws.{ends_apart, no_fault, same_fault}}
use Rattle.store_commands.proofs.Laws.{lines_of_sealed, reads-behind, reads-err}
use Rattle.drive_commands.specs.Common.{TableParts}
use Rattle.call_ends.specs.declared.ending.Ended.TheVariants as ended
use Rattle.drive_commands.proofs.run.read_tables.Goals as goal

pub returns-in-Ok-clause-found : goal.returns-in-Ok-clause-found
returns-in-Ok-clause-found g c = λ tells. record {
  tree = tree_of c.in_ok-checked.checked;
  accepted = c.in_ok-checked.ensures.found tells;
  compiled = c.in-Ok.ensures.tables;
  value = c.in-Ok.ensures.value;
}

pub returns-in-Ok-clause-constant : goal.returns-in-Ok-clause-constant
returns-in-Ok-clause-constant g c = ap (λ (tables : TableParts). tables.constant) c.in-Ok.ensures.value

-- ---- what is read

pub returns-in-Ok-clause-reads : goal.returns-in-Ok-clause-reads
returns-in-Ok-clause-reads g c =
    reads-behind (rw c.in_ok-checked.was at c.read_sealed.ensures.reads) _ (no_fault _ _ _ refl) (no_fault _ _ _ refl)

pub returns-clause-reads : goal.returns-clause-reads
returns-clause-reads g c =
    reads-behind (rw c.in_ok-checked.was at c.read_sealed.ensures.reads) _
    (λ e. ends_apart ended.NoMemory ended.ReadFault refl (same_fault _ _ _ refl e))
    (λ e. ends_apart ended.NoMemory ended.BoardFault refl (same_fault _ _ _ refl e))

pub returns-in_err-checked-clause-reads : goal.returns-in_err-checked-clause-reads
returns-in_err-checked-clause-reads g c =
    let p = err_from_is_err_and c.from_residual.result c.from_residual.ensures.1 in
    rw (p.1, p.2) (reads-err (rw c.in_err-checked.was at c.read_sealed.ensures.reads))

-- ---- memory ran out

pub returns-in_err-checked-clause-memory : goal.returns-in_err-checked-clause-memory
returns-in_err-checked-clause-memory g c =
    let p = err_from_is_err_and c.from_residual.result c.from_residual.ensures.1 in
    rw (p.1, p.2) (λ tells e. c.read_sealed.ensures.memory tells
    (c.in_err-checked.was ∙ ap Err (same_fault _ _ _ refl e)))

pub returns-clause-memory : goal.returns-clause-memory
returns-clause-memory g c = λ tells e.
    inr (lines_of_sealed c.args.seal.now.digest (g.F.Files.rest c.args.files.now 1)
    (tree_of c.in_ok-checked.checked) (c.in_ok-checked.ensures.found tells))
