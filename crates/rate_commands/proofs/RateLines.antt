-- The rates of a tariff, line by line.
use Rattle.std.{specs.Prelude.{All}, proofs.Common.{drop, drop-cons, get_or, length, map, refl, subst, suc, sym, zero}}
use Rattle.std.proofs.Common.{[], ℕ, ◌++◌, ◌+◌, ◌<◌, ◌∙◌, ◌∷◌, ◌≡◌, ◌≤◌, List, add-one, ap, append_assoc, ap₂, arith}
use Rattle.std.proofs.{Math.ListN.{drop_of_length-le}, lemmas.List.{append-nil, Elements.{All-head, All-tail}}}
use Rattle.{tariff_tree.specs.Tree.{Line}, tariff_check.specs.declared.choice.Choice.{Choice}}
use Rattle.tariff_check.specs.SoundTariff.{AreChoices, Choice as TreeChoice, lines_of, own_lines, values_of}
use Rattle.rate_commands.specs.{Common.{IsSoundRate, RateNumbers, own_values}, RatesSteps.{own_rates}}
use Rattle.rate_commands.specs.Rates.{rate_line, rate_lines, told_rates}

-- rates of the program are told as those of the tree, if they have the same values and line numbers
same_told : (own : List (Choice RateNumbers)) (all : List (TreeChoice RateNumbers)) → own_values own ≡ values_of all
    → own_lines own ≡ lines_of all → own_rates own ≡ told_rates all
same_told [] [] values lines = refl
same_told [] (c ∷ all) values lines = absurd cc
same_told (o ∷ own) [] values lines = absurd cc
same_told (o ∷ own) (c ∷ all) values lines =
    let value : o.value ≡ c.value = cc in
    let line : o.line ≡ c.line = cc in
    let rest : own_rates own ≡ told_rates all = same_told own all (cc) (cc) in
    cc

pub told_own : (lines : List Line) (own : List (Choice RateNumbers)) (all : List (TreeChoice RateNumbers))
    → AreChoices lines own all → own_rates own ≡ told_rates all
told_own lines own all are = same_told own all are.values are.numbers

-- if all rates are sound, so is the one at a place
pub sound_at : (rates : List (Choice RateNumbers)) (i : ℕ) (d : Choice RateNumbers) → i < length rates
    → All IsSoundRate (own_values rates) → IsSoundRate (get_or rates i d).value
sound_at [] i d within all = absurd (omega arith)
sound_at (r ∷ rates) zero d within all = All-head IsSoundRate r.value (own_values rates) all
sound_at (r ∷ rates) (suc i) d within all =
    sound_at rates i d (omega arith) (All-tail IsSoundRate r.value (own_values rates) all)

-- the line of a rate more
line_of_front : (k number : ℕ) (text all : List ℕ) (rates more : List (ℕ × RateNumbers)) (r : ℕ × RateNumbers)
    → rates ≡ r ∷ more → text ++ rate_lines k number rates ≡ all
    → (text ++ rate_line k number r.0 r.1) ++ rate_lines k (number + 1) more ≡ all
unfolding rate_lines
line_of_front k number text all rates more r is so_far =
    append_assoc text (rate_line k number r.0 r.1) (rate_lines k (number + 1) more)
    ∙ subst (λ (rs : List (ℕ × RateNumbers)). text ++ rate_lines k number rs ≡ all) is so_far

pub line_more : (k : ℕ) (rates : List (Choice RateNumbers)) (i : ℕ) (text new line all : List ℕ)
    (d : Choice RateNumbers) → i < length rates
    → line ≡ rate_line k (i + 1) (get_or rates i d).line (get_or rates i d).value → new ≡ text ++ line
    → text ++ rate_lines k (i + 1) (own_rates (drop i rates)) ≡ all
    → new ++ rate_lines k (i + 1 + 1) (own_rates (drop (i + 1) rates)) ≡ all
line_more k rates i text new line all d within is grown so_far =
    let front : own_rates (drop i rates)
    ≡ ((get_or rates i d).line, (get_or rates i d).value) ∷ own_rates (drop (i + 1) rates) =
    rw add-one (ap own_rates (drop-cons rates i d within)) in
    rw (grown, is) (line_of_front k (i + 1) text all (own_rates (drop i rates)) (own_rates (drop (i + 1) rates))
    ((get_or rates i d).line, (get_or rates i d).value) front so_far)

pub no_more : (k : ℕ) (rates : List (Choice RateNumbers)) (i number : ℕ) (text all : List ℕ) → length rates ≤ i
    → text ++ rate_lines k number (own_rates (drop i rates)) ≡ all → text ≡ all
unfolding rate_lines
no_more k rates i number text all past so_far =
    sym (append-nil text) ∙ subst
    (λ (xs : List (Choice RateNumbers)). text ++ rate_lines k number (own_rates xs) ≡ all)
    (drop_of_length-le rates past)
    so_far
