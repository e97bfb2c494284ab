use Rattle.verify_bench.{specs.Common.{tree_of}, proofs.TreeParts.{few_rates, sound_rate}}
use Rattle.verify_bench.proofs.pricing.price_of.Goals as goal

pub price_by-price-requires-clause-rate : goal.price_by-price-requires-clause-rate
price_by-price-requires-clause-rate c =
    let tariff = c.rate_at-rate.ensures in
    let sound = sound_rate (tree_of c.args.checked.now) c.args.x.now tariff.writable tariff.sound in
    rw (tariff.value, c.unwrap_or-place.ensures, c.rate_of.ensures) sound

pub returns-clause-place : goal.returns-clause-place
returns-clause-place c =
    let tariff = c.rate_at-rate.ensures in
    let few = few_rates (tree_of c.args.checked.now) c.args.x.now tariff.writable tariff.sound in
    rw (c.unwrap_or-place.ensures, c.rate_of.ensures) few
