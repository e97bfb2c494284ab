use Rattle.std.{specs.Prelude.{IfOk}, proofs.Common.{◌≡◌, List, subst}}
use Rattle.tariff_check.specs.declared.choice.ChoiceKind.TheVariants.{Rate}
use Rattle.tariff_check.proofs.Laws.{sound_tariffs_have_sound_parts-parts}
use Rattle.verify_bench.specs.{Common.{RateNumbers, tree_of}, CrossOvers.{cross_over_lines}}
use Rattle.verify_bench.proofs.speeds.cross_overs.Goals as goal

pub lines_of_rates-requires : goal.lines_of_rates-requires
lines_of_rates-requires c =
    let t = tree_of c.args.checked.now in
    rw c.rates.ensures.value.values
    ((sound_tariffs_have_sound_parts-parts t c.rates.ensures.writable c.rates.ensures.sound).choices Rate)

pub returns : goal.returns
returns c =
    subst (λ (rates : List RateNumbers). IfOk c.lines_of_rates.result
    (λ text. text.items ≡ cross_over_lines 1 rates)) c.rates.ensures.value.values c.lines_of_rates.ensures
