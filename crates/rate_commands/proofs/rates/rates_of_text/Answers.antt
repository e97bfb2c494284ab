use Rattle.std.proofs.Common.{◌∙◌, Err, ap, inl, inr, refl, sym}
use Rattle.{call_ends.{specs.Answer.{shows}, proofs.Laws.{made-bad}}, rate_commands.specs.Rates.{rates_answer}}
use Rattle.rate_commands.proofs.rates.rates_of_text.Goals as goal

pub returns-in-Err : goal.returns-in-Err
returns-in-Err c = let f = c.tariff_of_text.ensures in
    rw c.refused_by.ensures (made-bad c.in-Err.fault (λ e. f.read (c.in-Err.is ∙ ap Err e))
    (λ why e. ap (rates_answer c.args.constant) (f.refused why (c.in-Err.is ∙ ap Err e))))

pub returns-in-Ok-rates_text : goal.returns-in-Ok-rates_text
returns-in-Ok-rates_text c = inr (
  ap (rates_answer c.args.constant) c.in-Ok.ensures.found ∙ ap shows (sym c.in-Ok-rates_text.ensures),
  refl,
)

pub returns : goal.returns
returns c = inl refl
