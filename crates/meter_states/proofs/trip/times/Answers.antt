use Rattle.std.proofs.Common.{ℕ, ◌+◌, ◌-◌, ◌∙◌, ◌≡◌, ap, arith, get_or}
use Rattle.meter_states.{specs.Common.{CoreTrip, times}, proofs.Counts.{counts-at}}
use Rattle.meter_states.proofs.trip.times.Goals as goal

pub returns-clause-times : goal.returns-clause-times
returns-clause-times c = λ s t e.
    let n = c.args.number in
    let same : 1 + (n - 1) ≡ n = omega arith in
    ap (λ (x : CoreTrip). get_or x.extras (n - 1) 0) e ∙ counts-at 16 1 (n - 1) t.extras (omega arith)
    ∙ ap (λ (k : ℕ). times k t.extras) same
