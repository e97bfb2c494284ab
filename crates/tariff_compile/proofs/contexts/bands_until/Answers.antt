use Rattle.std.proofs.Common.{ℕ, ◌∙◌, ap, refl, sym}
use Rattle.tariff_compile.specs.{Cells.{bands_at}, Common.{Bands, count_at_most}}
use Rattle.tariff_compile.proofs.contexts.bands_until.Goals as goal

pub returns-clause-near : goal.returns-clause-near
returns-clause-near g c = λ y near.
    let first = c.first_bands-bands.ensures.value in
    let lists = c.args.cuts.now in
    let x = c.args.x.now in
    let distance = c.find_until-distance.ensures.value
    ∙ sym (c.find_until-distance.ensures.same y.pulses near.pulses.0 near.pulses.1) in
    let time =
    c.find_until-time.ensures.value ∙ sym (c.find_until-time.ensures.same y.ticks near.ticks.0 near.ticks.1) in
    ap (λ (b : Bands). record b { distance = c.find_until-distance.result.0; time = c.find_until-time.result.0 }) first
    ∙ ap (λ (n : ℕ). record (bands_at lists x) { distance = n; time = c.find_until-time.result.0 }) distance
    ∙ ap (λ (n : ℕ). record (bands_at lists x) { distance = count_at_most y.pulses lists.distances; time = n }) time
    ∙ rw (near.position, near.zone, near.weekday, near.month_day, near.holiday, near.minute) refl
