use Rattle.std.proofs.{Common.{◌∙◌, ◌≡◌, Err, ap, false, refl, sym, true}, lemmas.Result.{err_from_is_err_and}}
use Rattle.{call_ends.proofs.Laws.{ends_apart, refusal_by, same_fault}, store_commands.proofs.Laws.{reads-behind}}
use Rattle.drive_commands.specs.Common.{Rose, TableParts}
use Rattle.drive_commands.{specs.Run.{does_hold_fit}, proofs.RunStarts.{not_begun-tables, start_fitted, start_from}}
use Rattle.call_ends.specs.declared.ending.Ended.TheVariants as ended
use Rattle.drive_commands.proofs.run.begin.Goals as goal

-- no tables are made
pub returns-in_err-tables-clause-refused : goal.returns-in_err-tables-clause-refused
returns-in_err-tables-clause-refused g c =
    let p = err_from_is_err_and c.from_residual.result c.from_residual.ensures.1 in
    rw (p.1, p.2) (λ image tells found.
    not_begun-tables image (g.F.Files.rest c.args.files.now 1) c.args.durable.now c.args.seal.now found
    (Rose (g.F.Files.faults c.args.files.now 1) (g.F.Files.faults c.read_tables.new.files 1)) c.in_err-tables.field-0.0
    (c.read_tables.ensures.refused c.in_err-tables.field-0.0 tells c.in_err-tables.was))

pub returns-in_err-tables-clause-reads : goal.returns-in_err-tables-clause-reads
returns-in_err-tables-clause-reads g c =
    let p = err_from_is_err_and c.from_residual.result c.from_residual.ensures.1 in
    rw (p.1, p.2) (rw c.in_err-tables.was at c.read_tables.ensures.reads)

-- the held trip doesn't fit
pub returns-then-not-hold_fits-clause-refused : goal.returns-then-not-hold_fits-clause-refused
returns-then-not-hold_fits-clause-refused g c = λ image tells found.
    let tariff = g.F.Files.rest c.args.files.now 1 in
    let made = c.in_ok-tables.ensures.found tells in
    let none : c.hold_fits.result ≡ false = search in (
      start_from image tariff c.args.durable.now c.args.seal.now found _ refl
          ∙ start_fitted tariff c.args.durable.now c.args.seal.now made.tree false made.accepted
          (ap (λ (p : TableParts). does_hold_fit p c.args.durable.now.hold) (sym made.value)
          ∙ sym c.hold_fits.ensures.value ∙ none),
      refusal_by ended.BadTrip refl refl refl,
    )

pub returns-then-not-hold_fits-clause-reads : goal.returns-then-not-hold_fits-clause-reads
returns-then-not-hold_fits-clause-reads g c =
    reads-behind (rw c.in_ok-tables.was at c.read_tables.ensures.reads) _
    (λ e. ends_apart ended.BadTrip ended.ReadFault refl (same_fault _ _ _ refl e))
    (λ e. ends_apart ended.BadTrip ended.BoardFault refl (same_fault _ _ _ refl e))

-- it begins
pub returns-clause-begun : goal.returns-clause-begun
returns-clause-begun g c = λ tells.
    let made = c.in_ok-tables.ensures.found tells in
    let fits : c.hold_fits.result ≡ true = search in
    record {
      tree = made.tree;
      starts = start_fitted (g.F.Files.rest c.args.files.now 1) c.args.durable.now c.args.seal.now made.tree true
          made.accepted (ap (λ (p : TableParts). does_hold_fit p c.args.durable.now.hold) (sym made.value)
          ∙ sym c.hold_fits.ensures.value ∙ fits);
      compiled = made.compiled;
      value = made.value;
      fits = c.hold_fits.ensures.decides.0 fits;
    }

pub returns-clause-reads : goal.returns-clause-reads
returns-clause-reads g c = rw c.in_ok-tables.was at c.read_tables.ensures.reads

-- memory ran out
pub returns-in_err-tables-clause-memory : goal.returns-in_err-tables-clause-memory
returns-in_err-tables-clause-memory g c =
    let p = err_from_is_err_and c.from_residual.result c.from_residual.ensures.1 in
    rw (p.1, p.2) (λ tells e. c.read_tables.ensures.memory tells
    (c.in_err-tables.was ∙ ap Err (same_fault _ _ _ refl e)))
