-- The list of a rule has exactly the changes of its years.
use Rattle.std.{specs.Prelude.{Contains, filter}, proofs.lemmas.Bool.{cases_lt, eq-eqb, Decides.{Decides-eqb}}}
use Rattle.std.proofs.Common.{[], ℕ, ℤ, ◌+◌, ◌-◌, ◌<◌, ◌∙◌, ◌∷◌, ◌≡◌, ◌≢◌, ◌≤◌, ◌⊎◌, Bool, List, ap, arith, cond, eqb}
use Rattle.std.proofs.Common.{false, inl, inr, ltb, not, refl, subst, suc, sym, true, zero}
use Rattle.std.proofs.lemmas.List.Elements.{Contains-append_cases, Contains-append_left, Contains-append_right}
use Rattle.offset_rules.specs.{Changes.{second_of_change}, Pairs.{pairs_of, IsChangeIn.{begins, ends}}}
use Rattle.offset_rules.{specs.{Common.{first_second}, Rule.{IsRule, Rule}}, proofs.Lawful.{lists_are_lawful}}
use Rattle.offset_rules.specs.Pairs.{AreYears, IsChangeIn, IsListOf, changes_of_year, changes_of_years, is_later}
use Rattle.offset_rules.proofs.Follows.{years}

abbrev Pair : Type 0
Pair = ℕ × ℤ

-- an element is the first or one of the others
first_or_other : (p q : Pair) (pairs : List Pair) → Contains (p ∷ pairs) q → (q ≡ p) ⊎ Contains pairs q
first_or_other p q pairs (zero, lt, is) = inl (sym is)
first_or_other p q pairs (suc k, lt, is) = inr (k, omega arith, is)

is_first : (p : Pair) (pairs : List Pair) → Contains (p ∷ pairs) p
is_first p pairs = (0, omega arith, refl)

is_other : (p q : Pair) (pairs : List Pair) → Contains pairs q → Contains (p ∷ pairs) q
is_other p q pairs (k, lt, is) = (suc k, omega arith, is)

none_there : (q : Pair) → Contains [] q → ⊥
none_there q (k, lt, is) = omega arith

-- what is kept is there, and later
kept_is_there : (pairs : List Pair) (q : Pair) → Contains (filter is_later pairs) q
    → Contains pairs q × (q.0 ≢ first_second)
kept_is_there [] q there = absurd (none_there q there)
kept_is_there (p ∷ pairs) q there = by (eqb p.0 first_second) refl there (kept_is_there pairs q)
  where
    by : (b : Bool) → eqb p.0 first_second ≡ b → Contains (cond (not b) (p ∷ filter is_later pairs)
        (filter is_later pairs)) q → (Contains (filter is_later pairs) q → Contains pairs q × (q.0 ≢ first_second))
        → Contains (p ∷ pairs) q × (q.0 ≢ first_second)
    by true is there rest = let more = rest there in (is_other p q pairs more.0, more.1)
    by false is there rest = elim (first_or_other p q (filter is_later pairs) there) [
      | inl same ↦ (
        subst (λ (r : Pair). Contains (p ∷ pairs) r) (sym same) (is_first p pairs),
        λ at. let here : p.0 ≡ first_second = ap (λ (r : Pair). r.0) (sym same) ∙ at in
            let e = eq-eqb p.0 first_second here in absurd cc,
      )
      | inr other ↦ let more = rest other in (is_other p q pairs more.0, more.1)
    ]

-- and what is there, and later, is kept
there_is_kept : (pairs : List Pair) (q : Pair) → Contains pairs q → q.0 ≢ first_second
    → Contains (filter is_later pairs) q
there_is_kept [] q there later = absurd (none_there q there)
there_is_kept (p ∷ pairs) q there later =
    by (eqb p.0 first_second) refl (first_or_other p q pairs there) (λ other. there_is_kept pairs q other later)
  where
    by : (b : Bool) → eqb p.0 first_second ≡ b → (q ≡ p) ⊎ Contains pairs q
        → (Contains pairs q → Contains (filter is_later pairs) q)
        → Contains (cond (not b) (p ∷ filter is_later pairs) (filter is_later pairs)) q
    by true is (inl same) rest = let here : q.0 ≡ first_second =
        ap (λ (r : Pair). r.0) same ∙ (Decides-eqb p.0 first_second).0 is in absurd (later here)
    by true is (inr other) rest = rest other
    by false is (inl same) rest =
        subst (λ (r : Pair). Contains (p ∷ filter is_later pairs) r) (sym same) (is_first p (filter is_later pairs))
    by false is (inr other) rest = is_other p q (filter is_later pairs) (rest other)

-- a year has its two changes
of_the_year : (rule : Rule) (year : ℕ) (q : Pair) → Contains (changes_of_year rule year) q
    → (q ≡ (second_of_change year rule.begin, rule.summer)) ⊎ (q ≡ (second_of_change year rule.end, rule.standard))
unfolding changes_of_year
of_the_year rule year q there = by (ltb (second_of_change year rule.begin) (second_of_change year rule.end))
    (second_of_change year rule.begin, rule.summer) (second_of_change year rule.end, rule.standard) there
  where
    two : (x y : Pair) → Contains (x ∷ y ∷ []) q → (q ≡ x) ⊎ (q ≡ y)
    two x y there = elim (first_or_other x q (y ∷ []) there) [
      | inl same ↦ inl same
      | inr other ↦
          elim (first_or_other y q [] other) [ inl same ↦ inr same | inr no_more ↦ absurd (none_there q no_more) ]
    ]

    by : (b : Bool) (x y : Pair) → Contains (cond b (x ∷ y ∷ []) (y ∷ x ∷ [])) q → (q ≡ x) ⊎ (q ≡ y)
    by true x y there = two x y there
    by false x y there = elim (two y x there) [ inl same ↦ inr same | inr same ↦ inl same ]

both_of_the_year : (rule : Rule) (year : ℕ)
    → Contains (changes_of_year rule year) (second_of_change year rule.begin, rule.summer)
    × Contains (changes_of_year rule year) (second_of_change year rule.end, rule.standard)
unfolding changes_of_year
both_of_the_year rule year = by (ltb (second_of_change year rule.begin) (second_of_change year rule.end))
    (second_of_change year rule.begin, rule.summer) (second_of_change year rule.end, rule.standard)
  where
    by : (b : Bool) (x y : Pair)
        → Contains (cond b (x ∷ y ∷ []) (y ∷ x ∷ [])) x × Contains (cond b (x ∷ y ∷ []) (y ∷ x ∷ [])) y
    by true x y = (is_first x (y ∷ []), is_other x y (y ∷ []) (is_first y []))
    by false x y = (is_other y x (x ∷ []) (is_first x []), is_first y (x ∷ []))

-- what the years have are their changes
years_have : (rule : Rule) (count year from to : ℕ) (q : Pair) → from ≤ year → year + count ≤ to + 1
    → Contains (years rule year count) q → IsChangeIn rule from to q
years_have rule zero year from to q low high there = absurd (none_there q there)
years_have rule (suc count) year from to q low high there =
    elim (Contains-append_cases (changes_of_year rule year) (years rule (year + 1) count) q there) [
      | inl here ↦ elim (of_the_year rule year q here) [
        | inl same ↦ subst (IsChangeIn rule from to) (sym same) (begins year low (omega arith))
        | inr same ↦ subst (IsChangeIn rule from to) (sym same) (ends year low (omega arith))
      ]
      | inr later ↦ years_have rule count (year + 1) from to q (omega arith) (omega arith) later
    ]

-- and each of them is there
year_is_there : (rule : Rule) (count first year : ℕ) (q : Pair) → first ≤ year → year < first + count
    → Contains (changes_of_year rule year) q → Contains (years rule first count) q
year_is_there rule zero first year q low high here = absurd (omega arith)
year_is_there rule (suc count) first year q low high here = elim (cases_lt first year) [
  | inl lt ↦ Contains-append_right (changes_of_year rule first) (years rule (first + 1) count) q
      (year_is_there rule count (first + 1) year q (omega arith) (omega arith) here)
  | inr ge ↦ let same : year ≡ first = omega arith in Contains-append_left (changes_of_year rule first)
      (years rule (first + 1) count) q (subst (λ (y : ℕ). Contains (changes_of_year rule y) q) same here)
]

has_changes : (rule : Rule) (from to : ℕ) (q : Pair) → from ≤ to → IsChangeIn rule from to q
    → Contains (changes_of_years rule from to) q
has_changes rule from to q order (begins year low high) =
    year_is_there rule (to + 1 - from) from year _ low (omega arith) (both_of_the_year rule year).0
has_changes rule from to q order (ends year low high) =
    year_is_there rule (to + 1 - from) from year _ low (omega arith) (both_of_the_year rule year).1

pub lists_have_each_change : (rule : Rule) (from to : ℕ) → IsRule rule → AreYears from to
    → IsListOf rule from to (pairs_of rule from to)
unfolding pairs_of
lists_have_each_change rule from to is asked = record {
  later = filter is_later (changes_of_years rule from to);
  pairs_are = refl;
  changes = λ pair. (
    λ there. let kept = kept_is_there (changes_of_years rule from to) pair there in
        (years_have rule (to + 1 - from) from from to pair (omega arith) (omega (arith, asked.order)) kept.0, kept.1),
    λ change. there_is_kept (changes_of_years rule from to) pair
        (has_changes rule from to pair asked.order change.0) change.1,
  );
  in_order = (lists_are_lawful rule from to is asked).list.rising;
}
