use Rattle.std.proofs.Common.{[], ◌∙◌, Err, ap, arith, refl}
use Rattle.call_ends.{specs.declared.ending.Ended.TheVariants.{Sound}, proofs.Laws.{reads-bad, reads-ok, refuses-bad}}
use Rattle.call_ends.proofs.Laws.{carries-line, fails-text, makes-read, makes-unread, not_board-text, read_fault-text}
use Rattle.tariff_commands.specs.Check.{check_answer}
use Rattle.tariff_commands.{specs.Common.{ended_for, tree_of}, proofs.TariffAnswers.{checks, sound_answer}}
use Rattle.tariff_commands.proofs.check.check_tariff.Goals as goal

pub returns-in-Ok : goal.returns-in-Ok
returns-in-Ok g c = λ image. let f = c.read_tariff.ensures in
    carries-line g.F.Files image checks.makes c.args.files.now c.read_tariff.new.files _ (λ tells. tells)
    (λ later le. omega (arith, le))
    (makes-read checks (reads-ok f.read_fault f.others f.counts c.in-Ok.ensures.ended c.in-Ok.is) []
    (Sound c.cells.result c.measure.result) refl refl
    (λ tells. ap check_answer (c.in-Ok.ensures.found tells)
    ∙ sound_answer (tree_of c.in-Ok.checked) _ _ c.cells.ensures.value c.measure.ensures.value))

pub returns-in-Err : goal.returns-in-Err
returns-in-Err g c = λ image. let f = c.read_tariff.ensures in let fault = c.in-Err.fault in
    rw c.refused_by.ensures (carries-line g.F.Files image checks.makes c.args.files.now c.read_tariff.new.files _
    (λ tells. tells) (λ later le. omega (arith, le))
    (makes-unread checks (reads-bad f.read_fault f.others f.counts ended_for c.in-Err.is
    (read_fault-text fault) refl (not_board-text fault)) refl
    (λ tells. fails-text fault (λ why e.
    refuses-bad (ap check_answer (f.refused why tells (c.in-Err.is ∙ ap Err e)))))))
