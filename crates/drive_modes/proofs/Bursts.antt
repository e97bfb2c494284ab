-- A gate counts the sum of the bursts.
use Rattle.{std.specs.List.{fold}, drive_modes.specs.Gate.{counted}}
use Rattle.std.proofs.{Common.{[], ℕ, ◌+◌, ◌∙◌, ◌∷◌, ◌≡◌, ◌≤◌, List, arith, min, sum}, lemmas.List.Sums.{sum_by-cons}}

pub gate_counts_the_sum : (pulses : ℕ) (bursts : List ℕ) → pulses ≤ 2000
    → fold counted pulses bursts ≡ min 2000 (pulses + sum bursts)
gate_counts_the_sum pulses [] few = omega arith
gate_counts_the_sum pulses (n ∷ bursts) few =
    let rest = gate_counts_the_sum (counted pulses n) bursts (omega arith) in
    rest ∙ omega (arith, sum_by-cons (λ (x : ℕ). x) n bursts)
