-- A verdict is the first fault.
use Rattle.std.{specs.Bool.{Decides}, proofs.{Common.{ℕ, ◌↔◌, ◌≡◌, Bool, false, refl, true}, lemmas.Bool.{false≢true}}}
use Rattle.verify_bench.specs.{Common.{Expected, Reading, Verdict}, VerdictStages.{verdict_by, within_test}}
use Rattle.verify_bench.specs.Verdicts.{DistancePasses, FarePasses, IsVerdict, TimePasses, verdict_of}
use Rattle.verify_bench.specs.declared.judging.Verdict.TheVariants as verdicts

-- the verdict that three facts give
abbrev Gives : (fare distance time : Type 0) → Verdict → Type 0
Gives fare distance time verdicts.Pass = fare × distance × time
Gives fare distance time verdicts.Fare = ¬ fare
Gives fare distance time verdicts.Distance = fare × ¬ distance
Gives fare distance time verdicts.Time = fare × distance × ¬ time

not_so : (P : Type 0) → Decides false P → ¬ P
not_so P d p = false≢true (d.1 p)

module _ (F D T : Type 0) where
  by_tests : (f d t : Bool) → Decides f F → Decides d D → Decides t T → (verdict : Verdict)
      → (verdict_by f d t ≡ verdict) ↔ Gives F D T verdict
  by_tests false d t fare distance time verdicts.Pass = (λ e. absurd cc, λ h. absurd (not_so F fare h.0))
  by_tests false d t fare distance time verdicts.Fare = (λ e. not_so F fare, λ h. refl)
  by_tests false d t fare distance time verdicts.Distance = (λ e. absurd cc, λ h. absurd (not_so F fare h.0))
  by_tests false d t fare distance time verdicts.Time = (λ e. absurd cc, λ h. absurd (not_so F fare h.0))
  by_tests true false t fare distance time verdicts.Pass = (λ e. absurd cc, λ h. absurd (not_so D distance h.1))
  by_tests true false t fare distance time verdicts.Fare = (λ e. absurd cc, λ h. absurd (h (fare.0 refl)))
  by_tests true false t fare distance time verdicts.Distance = (λ e. (fare.0 refl, not_so D distance), λ h. refl)
  by_tests true false t fare distance time verdicts.Time = (λ e. absurd cc, λ h. absurd (not_so D distance h.1))
  by_tests true true false fare distance time verdicts.Pass = (λ e. absurd cc, λ h. absurd (not_so T time h.2))
  by_tests true true false fare distance time verdicts.Fare = (λ e. absurd cc, λ h. absurd (h (fare.0 refl)))
  by_tests true true false fare distance time verdicts.Distance = (λ e. absurd cc, λ h. absurd (h.1 (distance.0 refl)))
  by_tests true true false fare distance time verdicts.Time =
      (λ e. (fare.0 refl, distance.0 refl, not_so T time), λ h. refl)
  by_tests true true true fare distance time verdicts.Pass =
      (λ e. (fare.0 refl, distance.0 refl, time.0 refl), λ h. refl)
  by_tests true true true fare distance time verdicts.Fare = (λ e. absurd cc, λ h. absurd (h (fare.0 refl)))
  by_tests true true true fare distance time verdicts.Distance = (λ e. absurd cc, λ h. absurd (h.1 (distance.0 refl)))
  by_tests true true true fare distance time verdicts.Time = (λ e. absurd cc, λ h. absurd (h.2 (time.0 refl)))

all : (expected : Expected) (reading : Reading) (step : ℕ) (verdict : Verdict)
    → (verdict_of expected reading step ≡ verdict)
    ↔ Gives (FarePasses expected reading step) (DistancePasses expected reading) (TimePasses expected reading) verdict
all expected reading step verdict =
    let fare = within_test 1000 step expected.fare reading.fare in
    let distance = within_test 500 4000 expected.hired_mm reading.distance_mm in
    let time = within_test 1000 2 expected.ticks reading.tenths in
    by_tests fare.Fact distance.Fact time.Fact fare.passes distance.passes time.passes fare.decides distance.decides
    time.decides verdict

pub first_fault : (expected : Expected) (reading : Reading) (step : ℕ) (verdict : Verdict)
    → (verdict_of expected reading step ≡ verdict) ↔ IsVerdict expected reading step verdict
first_fault expected reading step verdicts.Pass = all expected reading step verdicts.Pass
first_fault expected reading step verdicts.Fare = all expected reading step verdicts.Fare
first_fault expected reading step verdicts.Distance = all expected reading step verdicts.Distance
first_fault expected reading step verdicts.Time = all expected reading step verdicts.Time
