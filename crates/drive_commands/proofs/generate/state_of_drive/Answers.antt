use Rattle.std.{specs.Prelude.{is_some}, proofs.Common.{ℕ, ◌*◌, ◌+◌, ◌∙◌, ◌≡◌, ◌≤◌, List, Some, ap, length, subst, sym}}
use Rattle.slot_store.{specs.Slots.{IsBlank}, proofs.Laws.{zeros_are_blank}}
use Rattle.verify_bench.proofs.Laws.{generated_drives_mean_their_lines-good, generated_drives_mean_their_lines-short}
use Rattle.drive_commands.specs.{Common.{Whole, drive_end, events_in, generated}, Generate.{state_after}}
use Rattle.drive_commands.proofs.GenDrive.{never_rose, same_some, whole_drive}
use Rattle.drive_commands.proofs.generate.state_of_drive.Goals as goal

pub run_afresh-requires-clause-blank : goal.run_afresh-requires-clause-blank
run_afresh-requires-clause-blank g c =
    λ told. (subst (IsBlank 0) (sym c.new-board.ensures) (zeros_are_blank 2048 0), λ place within flies. flies)

pub run_afresh-requires-clause-unsealed : goal.run_afresh-requires-clause-unsealed
run_afresh-requires-clause-unsealed g c =
    λ told. (subst (IsBlank 1024) (sym c.new-board.ensures) (zeros_are_blank 2048 1024), λ place within flies. flies)

pub unwrap-requires : goal.unwrap-requires
unwrap-requires g c =
    let drive = generated c.args.seed c.args.trips in
    let whole = subst (λ (d : List ℕ). drive_end d ≡ Whole) (sym c.new-drive.ensures)
    (whole_drive drive (generated_drives_mean_their_lines-good c.args.seed c.args.trips c.requires.range.1)
    (generated_drives_mean_their_lines-short c.args.seed c.args.trips c.requires.range.1)) in
    ap is_some (c.run_afresh.ensures.state tt tt whole never_rose never_rose c.requires.setting.0 c.requires.setting.1)

pub returns-clause-state : goal.returns-clause-state
returns-clause-state g c = λ s is.
    let drive = generated c.args.seed c.args.trips in
    let whole = subst (λ (d : List ℕ). drive_end d ≡ Whole) (sym c.new-drive.ensures)
    (whole_drive drive (generated_drives_mean_their_lines-good c.args.seed c.args.trips c.requires.range.1)
    (generated_drives_mean_their_lines-short c.args.seed c.args.trips c.requires.range.1)) in
    same_some c.run_afresh.result c.unwrap.result (state_after s drive) c.unwrap.ensures
    (c.run_afresh.ensures.state tt tt whole never_rose never_rose s is
    ∙ ap (λ (d : List ℕ). Some (state_after s d)) c.new-drive.ensures)

pub returns-clause-steps : goal.returns-clause-steps
returns-clause-steps g c =
    let drive = generated c.args.seed c.args.trips in
    let whole = subst (λ (d : List ℕ). drive_end d ≡ Whole) (sym c.new-drive.ensures)
    (whole_drive drive (generated_drives_mean_their_lines-good c.args.seed c.args.trips c.requires.range.1)
    (generated_drives_mean_their_lines-short c.args.seed c.args.trips c.requires.range.1)) in
    subst (λ (d : List ℕ). c.run_afresh.new.steps ≤ c.args.steps.now + 77 + 64 * length (events_in d))
    c.new-drive.ensures
    (c.run_afresh.ensures.steps tt tt whole never_rose never_rose c.requires.setting.0 c.requires.setting.1)
