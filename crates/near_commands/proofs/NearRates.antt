-- The rates of a near tariff are within its share.
use Rattle.std.{specs.List.{list_all, list_any}, proofs.lemmas.Nat.{div-add-mod', mul-le}}
use Rattle.std.{specs.Prelude.{Bool, Option, find, max, min, nat_le}, proofs.lemmas.Bool.{cases_lt, eqb-true, ne_eqb}}
use Rattle.std.proofs.Common.{[], ℕ, ◌%◌, ◌*◌, ◌+◌, ◌/◌, ◌<◌, ◌==◌, ◌^◌, ◌∙◌, ◌∷◌, ◌≡◌, ◌≤◌, ◌⊎◌, All, Err, List, None}
use Rattle.std.proofs.Common.{Ok, Result, Some, ap, arith, cond, eqb, false, inl, inr, refl, subst, suc, sym, true}
use Rattle.std.proofs.{Common.{zero}, Math.Nat.{zero-div}, lemmas.List.Elements.{All-cons, All-head, All-nil, All-tail}}
use Rattle.tariff_check.specs.declared.fault.CheckFault.TheVariants.{NoCommonMeasure}
use Rattle.near_commands.specs.Common.{CheckFault, Measures, RateNumbers, Tree, first_some, rates_of}
use Rattle.near_commands.specs.{NearLaws.{IsRateWithin, IsWithin}, declared.rates.NumberedRate.{NumberedRate}}
use Rattle.near_commands.specs.NearTariff.{exponent_of, fit, greatest_share, is_lost, measures_by, measures_of_rates}
use Rattle.near_commands.specs.NearTariff.{measures_unless, near_measures, numbered_rates, numbers_of, other_faults}
use Rattle.near_commands.specs.Nearest.{apart, measures_at, near_rate, nearest, rounded_up, share_for, share_of}
use Rattle.near_commands.proofs.Shares.{up_enough}

-- what is found passes the test, and is in the list
found_in : (Q : ℕ → Type 0) (p : ℕ → Bool) (xs : List ℕ) (j : ℕ) → All Q xs → find p xs ≡ Some j
    → (p j ≡ true) × Q j
found_in Q p [] j all is = absurd cc
found_in Q p (x ∷ xs) j all is = by (p x) refl is (found_in Q p xs j (All-tail Q x xs all))
  where
    by : (b : Bool) → p x ≡ b → cond b (Some x) (find p xs) ≡ Some j
        → (find p xs ≡ Some j → (p j ≡ true) × Q j) → (p j ≡ true) × Q j
    by true h e later =
        let same : x ≡ j = cc in
        subst (λ (y : ℕ). (p y ≡ true) × Q y) same (h, All-head Q x xs all)
    by false h e later = later e

abbrev pub IsExponent : ℕ → Type 0
IsExponent j = (2 ≤ j) × (j ≤ 7)

abbrev candidates : List ℕ
candidates = 7 ∷ 6 ∷ 5 ∷ 4 ∷ 3 ∷ 2 ∷ []

exponents : All IsExponent candidates
exponents =
    All-cons IsExponent 7 (6 ∷ 5 ∷ 4 ∷ 3 ∷ 2 ∷ []) (omega arith, omega arith)
    (All-cons IsExponent 6 (5 ∷ 4 ∷ 3 ∷ 2 ∷ []) (omega arith, omega arith)
    (All-cons IsExponent 5 (4 ∷ 3 ∷ 2 ∷ []) (omega arith, omega arith)
    (All-cons IsExponent 4 (3 ∷ 2 ∷ []) (omega arith, omega arith)
    (All-cons IsExponent 3 (2 ∷ []) (omega arith, omega arith)
    (All-cons IsExponent 2 [] (omega arith, omega arith) (All-nil IsExponent))))))

-- measures that are found are those of an exponent at which the rates fit
pub record AreFound (rates : List NumberedRate) (m : Measures) : Type 0 where
  pub exponent : ℕ
  pub is : measures_at exponent ≡ m
  pub range : IsExponent exponent
  pub fits : fit m (numbers_of rates) ≡ true

pub measured : (rates : List NumberedRate) (m : Measures) → measures_of_rates rates ≡ Ok m → AreFound rates m
measured rates m is = by (exponent_of (numbers_of rates)) refl is
  where
    by : (o : Option ℕ) → exponent_of (numbers_of rates) ≡ o → measures_by rates o ≡ Ok m → AreFound rates m
    by None found e = absurd cc
    by (Some j) found e = lost (list_any (is_lost (measures_at j)) (numbers_of rates)) e
      where
        lost : (b : Bool)
            → cond {A = Result Measures CheckFault} b (Err NoCommonMeasure) (Ok (measures_at j)) ≡ Ok m
            → AreFound rates m
        lost true h = absurd cc
        lost false h =
            let same : measures_at j ≡ m = cc in
            let there =
            found_in IsExponent (λ i. fit (measures_at i) (numbers_of rates)) candidates j exponents found in
            record {
              exponent = j;
              is = same;
              range = there.1;
              fits = subst (λ (x : Measures). fit x (numbers_of rates) ≡ true) same there.0;
            }

-- a tariff that has measures has no other fault, and its rates have these measures
pub unless_fault : (o : Option CheckFault) (found : Result Measures CheckFault) (m : Measures)
    → measures_unless o found ≡ Ok m → (o ≡ None) × (found ≡ Ok m)
unless_fault None found m is = (refl, is)
unless_fault (Some fault) found m is = absurd cc

positive_at : (j : ℕ) → IsExponent j → (0 < (measures_at j).distance) × (0 < (measures_at j).time)
positive_at zero range = absurd (omega (arith, range.0))
positive_at (suc zero) range = absurd (omega (arith, range.0))
positive_at (suc (suc zero)) range = (omega arith, omega arith)
positive_at (suc (suc (suc zero))) range = (omega arith, omega arith)
positive_at (suc (suc (suc (suc zero)))) range = (omega arith, omega arith)
positive_at (suc (suc (suc (suc (suc zero))))) range = (omega arith, omega arith)
positive_at (suc (suc (suc (suc (suc (suc zero)))))) range = (omega arith, omega arith)
positive_at (suc (suc (suc (suc (suc (suc (suc zero))))))) range = (omega arith, omega arith)
positive_at (suc (suc (suc (suc (suc (suc (suc (suc j)))))))) range = absurd (omega (arith, range.1))

-- ---- shares

div_small : (n d : ℕ) → n < d → n / d ≡ 0
div_small n d less = either (cases_lt 0 (n / d))
  where
    either : (0 < n / d) ⊎ (n / d ≤ 0) → n / d ≡ 0
    either (inl some) =
        let times : 1 * d ≤ n / d * d = mul-le 1 d (n / d) d (omega (arith, some)) (omega arith) in
        absurd (omega (arith, times, less, div-add-mod' n d))
    either (inr none) = omega (arith, none)

none_near : (measure other : ℕ) → nearest 0 measure other ≡ 0
unfolding nearest
none_near measure other = either (cases_lt 0 measure)
  where
    either : (0 < measure) ⊎ (measure ≤ 0) → (2 * 0 * other + measure) / (2 * measure) ≡ 0
    either (inl some) =
        let less : 2 * 0 * other + measure < 2 * measure = omega (arith, some) in
        div_small (2 * 0 * other + measure) (2 * measure) less
    either (inr none) =
        let same : 2 * 0 * other + measure ≡ 0 = omega (arith, none) in
        rw same (zero-div (2 * measure))

share_enough : (share amount measure near other : ℕ) → 0 < other → (amount ≡ 0 → near ≡ 0)
    → share_of amount measure near other ≤ share → IsWithin share (near * measure) (amount * other)
unfolding share_of
share_enough share amount measure near other some none upto = either (cases_lt 0 amount)
  where
    number : ℕ
    number = 10 ^ 9 * apart (near * measure) (amount * other)

    either : (0 < amount) ⊎ (amount ≤ 0) → number ≤ share * (amount * other)
    either (inl more) =
        let both : 1 * 1 ≤ amount * other = mul-le 1 1 amount other (omega (arith, more)) (omega (arith, some)) in
        let not_none : (amount == 0) ≡ false = ne_eqb amount 0 (λ e. absurd (omega (arith, e, more))) in
        let is : cond (amount == 0) 0 (rounded_up number (amount * other)) ≡ rounded_up number (amount * other) =
        rw not_none refl in
        let few : rounded_up number (amount * other) ≤ share = omega (arith, is, upto) in
        let exact = amount * other in
        let times = mul-le (rounded_up number exact) exact share exact few (omega arith) in
        omega (arith, times, up_enough number (amount * other) (omega (arith, both)))
    either (inr less) =
        let first : amount ≡ 0 = omega (arith, less) in
        let second : near ≡ 0 = none first in
        rw (first, second) (omega arith)

rate_within : (share : ℕ) (m : Measures) (r : RateNumbers) → 0 < m.distance → 0 < m.time
    → share_for r (near_rate m r) ≤ share → IsRateWithin share (near_rate m r) r
rate_within share m r way time upto = record {
  distance = share_enough share r.a r.b (nearest r.a r.b m.distance) m.distance way
      (λ e. ap (λ (x : ℕ). nearest x r.b m.distance) e ∙ none_near r.b m.distance) (omega (arith, upto));
  time = share_enough share r.c r.e (nearest r.c r.e m.time) m.time time
      (λ e. ap (λ (x : ℕ). nearest x r.e m.time) e ∙ none_near r.e m.time) (omega (arith, upto));
}

all_within : (share : ℕ) (m : Measures) (rates : List RateNumbers) → 0 < m.distance → 0 < m.time
    → greatest_share m rates ≤ share → All (λ r. IsRateWithin share (near_rate m r) r) rates
all_within share m [] way time upto = All-nil (λ r. IsRateWithin share (near_rate m r) r)
all_within share m (r ∷ rates) way time upto =
    All-cons (λ r. IsRateWithin share (near_rate m r) r) r rates
    (rate_within share m r way time (omega (arith, upto))) (all_within share m rates way time (omega (arith, upto)))

pub positive : (rates : List NumberedRate) (m : Measures) → AreFound rates m → (0 < m.distance) × (0 < m.time)
positive rates m found =
    subst (λ (x : Measures). (0 < x.distance) × (0 < x.time)) found.is (positive_at found.exponent found.range)

pub rates_within : (t : Tree) (m : Measures) → near_measures t ≡ Ok m
    → All (λ (r : RateNumbers). IsRateWithin (greatest_share m (rates_of t.lines)) (near_rate m r) r) (rates_of t.lines)
rates_within t m is =
    let parts = unless_fault (first_some (other_faults t.lines)) (measures_of_rates (numbered_rates t.lines)) m is in
    let some = positive (numbered_rates t.lines) m (measured (numbered_rates t.lines) m parts.1) in
    all_within (greatest_share m (rates_of t.lines)) m (rates_of t.lines) some.0 some.1 (omega arith)
