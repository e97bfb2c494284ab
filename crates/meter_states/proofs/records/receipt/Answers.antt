use Rattle.std.proofs.{Common.{◌*◌, ◌+◌, ◌<◌, ◌^◌, ◌∙◌, ◌≡◌, arith, max, min, refl, rules}, Math.Nat.{mul_comm}}
use Rattle.meter_states.specs.Common.{largest_amount}
use Rattle.meter_states.proofs.{Settings.{decimals-is, step-is}, TableSupplements.{extras-few}}
use Rattle.meter_states.proofs.records.receipt.Goals as goal

pub returns-clause-range : goal.returns-clause-range
returns-clause-range g c =
    let range = c.requires.range in
    let trip = c.args.trip.now in
    let turned = mul_comm c.step.result c.display_steps.result in
    let steps = c.display_steps.ensures.exact in
    let step = c.step.ensures.value in
    let fare = c.fare.ensures.exact in
    let shown : c.fare.result
    ≡ min largest_amount (max trip.fees.minimum (trip.fees.initial + c.display_steps.result * c.step.result)) = cc in
    let distance : c.distance.result < 10 ^ 23 =
    omega (arith, c.distance.ensures.most, range.pulses, range.range.ticks) in
    let supplements = extras-few c.args.tables.now 8640000 trip range.range in
    search rules

pub stamp-start-requires : goal.stamp-start-requires
stamp-start-requires g c = c.requires.range.range.others.started

pub stamp-finish-requires : goal.stamp-finish-requires
stamp-finish-requires g c = c.requires.closing.finish

pub display_steps-requires : goal.display_steps-requires
display_steps-requires g c = record { range = c.requires.range.range }

pub fare-requires : goal.fare-requires
fare-requires g c = record { range = c.requires.range.range }

pub returns-clause-value : goal.returns-clause-value
returns-clause-value g c = λ s t is saved.
    rw (
      c.stamp-start.ensures.value s is.secured,
      c.stamp-finish.ensures.value s is.secured,
      c.distance.ensures.value,
      c.display_steps.ensures.value s t is.tariff saved,
      c.step.ensures.value ∙ step-is s c.args.tables.now is.tariff,
      c.fare.ensures.value s t is.tariff saved,
      c.decimals.ensures.value ∙ decimals-is s c.args.tables.now is.tariff,
      is.tariff.constant,
      saved,
    ) refl
