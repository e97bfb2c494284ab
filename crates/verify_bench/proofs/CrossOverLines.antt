-- The cross-over lines, rate by rate.
use Rattle.std.proofs.Common.{[], ℕ, ◌++◌, ◌+◌, ◌<◌, ◌∙◌, ◌∷◌, ◌≡◌, ◌≤◌, All, List, add-one, ap, append_assoc, arith}
use Rattle.std.proofs.{Common.{drop, drop-cons, get_or, length, subst, suc, sym, zero}, lemmas.List.{append-nil}}
use Rattle.{std.proofs.lemmas.List.Elements.{All-head, All-tail}, tariff_check.specs.declared.choice.Choice.{Choice}}
use Rattle.verify_bench.specs.Common.{IsSoundRate, RateNumbers, own_values}
use Rattle.verify_bench.{specs.CrossOvers.{cross_over_line, cross_over_lines}, proofs.GroupLists.{drop_past}}

-- the values of choices from a place on, if one is there
pub values_at : {V : Type 0} (choices : List (Choice V)) (i : ℕ) (d : Choice V) → i < length choices
    → own_values (drop i choices) ≡ (get_or choices i d).value ∷ own_values (drop (i + 1) choices)
values_at choices i d within = rw add-one (ap own_values (drop-cons choices i d within))

-- if all rates are sound, so is the one at a place
pub sound_at : (choices : List (Choice RateNumbers)) (i : ℕ) (d : Choice RateNumbers) → i < length choices
    → All IsSoundRate (own_values choices) → IsSoundRate (get_or choices i d).value
sound_at [] i d within all = absurd (omega arith)
sound_at (c ∷ cs) zero d within all = All-head IsSoundRate c.value (own_values cs) all
sound_at (c ∷ cs) (suc i) d within all =
    sound_at cs i d (omega arith) (All-tail IsSoundRate c.value (own_values cs) all)

-- a line more
pub text_more : (text all : List ℕ) (number : ℕ) (rates more : List RateNumbers) (r : RateNumbers) → rates ≡ r ∷ more
    → text ++ cross_over_lines number rates ≡ all
    → (text ++ cross_over_line number r) ++ cross_over_lines (number + 1) more ≡ all
unfolding cross_over_lines
text_more text all number rates more r is so_far =
    append_assoc text (cross_over_line number r) (cross_over_lines (number + 1) more)
    ∙ subst (λ (rs : List RateNumbers). text ++ cross_over_lines number rs ≡ all) is so_far

-- the line of the rate at a place more
pub line_more : (choices : List (Choice RateNumbers)) (i : ℕ) (text new line all : List ℕ) (d : Choice RateNumbers)
    → i < length choices → line ≡ cross_over_line (i + 1) (get_or choices i d).value → new ≡ text ++ line
    → text ++ cross_over_lines (i + 1) (own_values (drop i choices)) ≡ all
    → new ++ cross_over_lines (i + 1 + 1) (own_values (drop (i + 1) choices)) ≡ all
line_more choices i text new line all d within is grown so_far =
    rw (grown, is) (text_more text all (i + 1) (own_values (drop i choices)) (own_values (drop (i + 1) choices))
    (get_or choices i d).value (values_at choices i d within) so_far)

pub no_more : (choices : List (Choice RateNumbers)) (i number : ℕ) (text all : List ℕ) → length choices ≤ i
    → text ++ cross_over_lines number (own_values (drop i choices)) ≡ all → text ≡ all
unfolding cross_over_lines
no_more choices i number text all past so_far =
    sym (append-nil text) ∙ subst
    (λ (xs : List (Choice RateNumbers)). text ++ cross_over_lines number (own_values xs) ≡ all)
    (drop_past choices i past) so_far
