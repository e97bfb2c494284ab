use Rattle.std.{specs.Prelude.{IfOk}, proofs.Common.{ℕ, ◌++◌, ◌∙◌, ◌≡◌, List, ap, ap₂, subst}}
use Rattle.{tariff_tree.specs.Tree.{tree_of}, tariff_check.specs.declared.choice.ChoiceKind.TheVariants.{Rate}}
use Rattle.{tariff_check.proofs.Laws.{sound_tariffs_have_sound_parts-parts}, rate_commands.proofs.RateLines.{told_own}}
use Rattle.rate_commands.specs.{Common.{RateNumbers, sound_of}, Rates.{fine_line, rate_lines, rates_text}}
use Rattle.rate_commands.proofs.rates.rates_text.Goals as goal

pub text_of_rates-requires-clause-sound : goal.text_of_rates-requires-clause-sound
text_of_rates-requires-clause-sound c =
    let t = tree_of c.args.checked.now in
    rw c.rates.ensures.value.values
    ((sound_tariffs_have_sound_parts-parts t c.rates.ensures.writable c.rates.ensures.sound).choices Rate)

pub returns : goal.returns
returns c =
    let t = tree_of c.args.checked.now in
    let are = c.rates.ensures.value in
    let k = c.get.result in
    subst (λ (x : List ℕ). IfOk c.text_of_rates.result (λ text. text.items ≡ x))
    (ap₂ (λ (told : List (ℕ × RateNumbers)) (rates : List RateNumbers). rate_lines k 1 told ++ fine_line k rates)
    (told_own t.lines _ _ are) are.values ∙ ap (λ (n : ℕ). rates_text n (sound_of t)) c.get.ensures.value)
    c.text_of_rates.ensures
