use Rattle.std.proofs.{Common.{◌*◌, ◌≡◌, ◌≤◌, arith, refl}, lemmas.Grind.{common_steps}}
use Rattle.verify_bench.{specs.{Common.{unit_of}, Settings.{setting_under}}, proofs.StepCounts.{few_steps, some_unit}}
use Rattle.verify_bench.proofs.fares.steps_shown.Goals as goal

pub returns-clause-few : goal.returns-clause-few
returns-clause-few c ticks time few =
    let unit = c.get.result * c.measure.result in
    let same : unit ≡ unit_of (setting_under c.args.checked.now c.args.params.now) =
    rw (c.get.ensures.value, c.measure.ensures.value) refl in
    let little : c.args.charged ≤ 41000000000 * unit * ticks = rw same few in
    let most = few_steps c.step-step.result.1 c.args.charged
    (c.args.fee.covers * unit) unit c.step-step.result.0 ticks c.step-step.ensures.range.0
    (some_unit c.get.result c.measure.result c.get.ensures.least c.measure.ensures.range.0) time little in
    rw (c.divided.ensures, c.saturating_sub-above.ensures) (omega (arith, most))

pub divided-requires-clause-small : goal.divided-requires-clause-small
divided-requires-clause-small c = grind (arith, common_steps)
