-- Readings pass if each row of the report does.
use Rattle.std.specs.{Bool.{Decides}, Prelude.{◌&&◌, codes, slice_get}}
use Rattle.std.proofs.Common.{[], ℕ, ◌+◌, ◌↔◌, ◌∙◌, ◌≡◌, ◌≢◌, Bool, List, None, Option, Some, ap, arith, get_or, length}
use Rattle.std.proofs.{Common.{max, refl, suc, sym, true}, lemmas.Bool.Decides.{Decides-below_and}}
use Rattle.verify_bench.specs.{Common.{Expected, Reading, Verdict}, PassedReports.{EachRowPasses, do_all_pass}}
use Rattle.verify_bench.specs.{PassingStages.{do_places_pass, does_place_pass, is_pass}, Report.{finding, verdict_word}}
use Rattle.verify_bench.specs.Verdicts.{verdict_of}
use Rattle.verify_bench.specs.declared.judging.Verdict.TheVariants as verdicts

-- a word that begins with another letter isn't the word of a pass
other_word : (word : List ℕ) (letter : ℕ) → get_or word 0 0 ≡ letter → letter ≢ 80 → word ≢ codes "PASS"
other_word word letter is other e = other (sym is ∙ ap (λ (xs : List ℕ). get_or xs 0 0) e)

of_verdict : (verdict : Verdict) → Decides (is_pass verdict) (verdict_word verdict ≡ codes "PASS")
of_verdict verdicts.Pass = (λ e. refl, λ e. refl)
of_verdict verdicts.Fare =
    (λ e. absurd cc, λ e. absurd (other_word (codes "FARE") 70 refl (λ same. absurd (omega arith)) e))
of_verdict verdicts.Distance =
    (λ e. absurd cc, λ e. absurd (other_word (codes "DISTANCE") 68 refl (λ same. absurd (omega arith)) e))
of_verdict verdicts.Time =
    (λ e. absurd cc, λ e. absurd (other_word (codes "TIME") 84 refl (λ same. absurd (omega arith)) e))

of_place : (step : ℕ) (expected : Option Expected) (reading : Option Reading)
    → Decides (does_place_pass step expected reading) (finding step expected reading ≡ codes "PASS")
of_place step None None = (λ e. absurd cc, λ e. absurd (other_word [] 0 refl (λ same. absurd (omega arith)) e))
of_place step None (Some reading) =
    (λ e. absurd cc, λ e. absurd (other_word (codes "EXTRA") 69 refl (λ same. absurd (omega arith)) e))
of_place step (Some expected) None =
    (λ e. absurd cc, λ e. absurd (other_word (codes "MISSING") 77 refl (λ same. absurd (omega arith)) e))
of_place step (Some expected) (Some reading) = of_verdict (verdict_of expected reading step)

pub each_passes : (step : ℕ) (expected : List Expected) (readings : List Reading)
    → (do_all_pass step expected readings ≡ true) ↔ EachRowPasses step expected readings
unfolding do_places_pass
each_passes step expected readings =
    Decides-below_and (λ place. does_place_pass step (slice_get expected place) (slice_get readings place))
    (λ place. finding step (slice_get expected place) (slice_get readings place) ≡ codes "PASS")
    (do_places_pass step expected readings)
    (λ place. of_place step (slice_get expected place) (slice_get readings place))
    refl (λ places. refl) (max (length expected) (length readings))

-- a place more
pub one_more : (step : ℕ) (expected : List Expected) (readings : List Reading) (place : ℕ) (here before after : Bool)
    → here ≡ does_place_pass step (slice_get expected place) (slice_get readings place)
    → before ≡ do_places_pass step expected readings place → after ≡ (here && before)
    → after ≡ do_places_pass step expected readings (place + 1)
unfolding do_places_pass
one_more step expected readings place here before after is so_far both =
    let next : place + 1 ≡ suc place = omega arith in
    rw next (both ∙ ap (λ (b : Bool). b && before) is
    ∙ ap (λ (b : Bool). does_place_pass step (slice_get expected place) (slice_get readings place) && b) so_far)

pub no_place : (step : ℕ) (expected : List Expected) (readings : List Reading)
    → true ≡ do_places_pass step expected readings 0
unfolding do_places_pass
no_place step expected readings = refl
