use Rattle.std.proofs.Common.{◌∙◌, Err, ap, inl, inr, refl, sym}
use Rattle.{tariff_compare.specs.Texts.{uses_text}, call_ends.proofs.Laws.{made-bad}}
use Rattle.tariff_commands.specs.{Common.{shows}, Lines.{lines_answer}}
use Rattle.tariff_commands.proofs.lines.list_of_text.Goals as goal

pub returns-in-Err : goal.returns-in-Err
returns-in-Err c = let f = c.tariff_of_text.ensures in
    rw c.refused_by.ensures (made-bad c.in-Err.fault (λ e. f.read (c.in-Err.is ∙ ap Err e))
    (λ why e. ap (lines_answer c.args.constant) (f.refused why (c.in-Err.is ∙ ap Err e))))

pub returns-in-Err-line_uses : goal.returns-in-Err-line_uses
returns-in-Err-line_uses c = inl refl

pub returns-in-Ok-print_uses : goal.returns-in-Ok-print_uses
returns-in-Ok-print_uses c = inr (
  ap (lines_answer c.args.constant) c.in-Ok.ensures.found
      ∙ ap shows (sym (c.in-Ok-print_uses.ensures
      ∙ ap uses_text (c.as_slice.ensures.value ∙ c.in-Ok-line_uses.ensures.value))),
  refl,
)

pub returns : goal.returns
returns c = inl refl
