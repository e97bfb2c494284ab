use Rattle.std.proofs.Common.{ℕ, ◌∙◌, List, ap}
use Rattle.tariff_check.specs.{Common.{Supplement}, SoundTariff.{supplement_numbered}}
use Rattle.tariff_check.proofs.checked.Checked.supplement.Goals as goal

pub returns-clause-value : goal.returns-clause-value
returns-clause-value c =
    c.numbered.ensures
    ∙ ap (λ (all : List (ℕ × Supplement)). supplement_numbered all c.args.number)
    (c.as_slice.ensures.value ∙ c.parts.ensures.parts.supplements)
