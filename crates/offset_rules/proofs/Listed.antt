-- The list of offsets as it grows, year by year.
use Rattle.{std.specs.List.{range_with_len}, offset_rules.specs.Pairs.{changes_of_year, is_later, pairs_of}}
use Rattle.std.{specs.Prelude.{filter, flat_map}, proofs.lemmas.List.{append-nil, Elements.{filter-append}}}
use Rattle.std.proofs.Common.{[], ℕ, ℤ, ◌++◌, ◌+◌, ◌-◌, ◌∙◌, ◌∷◌, ◌≡◌, Bool, List, ap, append_assoc, arith, cond, false}
use Rattle.std.proofs.{Common.{get_or, nat_lt, pos, refl, subst, suc, sym, true, zero}, lemmas.Grind.{flat_map-append}}
use Rattle.offset_rules.specs.{Changes.{second_of_change}, Common.{first_second}, Summer.{first_second_of, offset_by}}
use Rattle.offset_rules.specs.Rule.{Rule}

-- the list with the changes of `count` years from `from` on
abbrev pub so_far : Rule → (from count : ℕ) → List (ℕ × ℤ)
so_far rule from count =
    (first_second, offset_by rule (first_second_of from))
    ∷ filter is_later (flat_map (changes_of_year rule) (range_with_len from count))

-- a range goes on at its end
range_more : (a n : ℕ) → range_with_len a (suc n) ≡ range_with_len a n ++ (a + n) ∷ []
range_more a zero = let same : a ≡ a + 0 = omega arith in ap (λ (x : ℕ). x ∷ []) same
range_more a (suc n) =
    let same : a + 1 + n ≡ a + suc n = omega arith in
    ap (λ (xs : List ℕ). a ∷ xs) (range_more (a + 1) n ∙ ap (λ (x : ℕ). range_with_len (a + 1) n ++ x ∷ []) same)

-- a year more
pub one_year_more : (rule : Rule) (from count year : ℕ) (earlier later : ℕ × ℤ) → from + count ≡ year
    → changes_of_year rule year ≡ earlier ∷ later ∷ [] → so_far rule from (suc count)
    ≡ (so_far rule from count ++ filter is_later (earlier ∷ [])) ++ filter is_later (later ∷ [])
one_year_more rule from count year earlier later at is =
    let years : range_with_len from (suc count) ≡ range_with_len from count ++ year ∷ [] =
    range_more from count ∙ ap (λ (x : ℕ). range_with_len from count ++ x ∷ []) at in
    let changes : flat_map (changes_of_year rule) (range_with_len from (suc count))
    ≡ flat_map (changes_of_year rule) (range_with_len from count) ++ (earlier ∷ later ∷ []) =
    ap (flat_map (changes_of_year rule)) years ∙ (flat_map-append (changes_of_year rule) (range_with_len from count)
    (year ∷ []) ∙ ap (λ (xs : List (ℕ × ℤ)). flat_map (changes_of_year rule) (range_with_len from count) ++ xs)
    (append-nil (changes_of_year rule year) ∙ is)) in
    let kept : filter is_later (flat_map (changes_of_year rule) (range_with_len from (suc count)))
    ≡ filter is_later (flat_map (changes_of_year rule) (range_with_len from count))
    ++ (filter is_later (earlier ∷ []) ++ filter is_later (later ∷ [])) =
    ap (filter is_later) changes
    ∙ (filter-append is_later (flat_map (changes_of_year rule) (range_with_len from count)) (earlier ∷ later ∷ [])
    ∙ ap (λ (xs : List (ℕ × ℤ)). filter is_later (flat_map (changes_of_year rule) (range_with_len from count)) ++ xs)
    (filter-append is_later (earlier ∷ []) (later ∷ []))) in
    ap (λ (xs : List (ℕ × ℤ)). (first_second, offset_by rule (first_second_of from)) ∷ xs) kept
    ∙ sym (append_assoc (so_far rule from count) (filter is_later (earlier ∷ [])) (filter is_later (later ∷ [])))

-- a year has two changes
two_changes : (rule : Rule) (year : ℕ) → changes_of_year rule year
    ≡ get_or (changes_of_year rule year) 0 (0, pos 0) ∷ get_or (changes_of_year rule year) 1 (0, pos 0) ∷ []
unfolding changes_of_year
two_changes rule year = by (nat_lt (second_of_change year rule.begin) (second_of_change year rule.end))
    (second_of_change year rule.begin, rule.summer) (second_of_change year rule.end, rule.standard)
  where
    by : (b : Bool) (x y : ℕ × ℤ) → cond b (x ∷ y ∷ []) (y ∷ x ∷ []) ≡ get_or (cond b (x ∷ y ∷ []) (y ∷ x ∷ [])) 0
        (0, pos 0) ∷ get_or (cond b (x ∷ y ∷ []) (y ∷ x ∷ [])) 1 (0, pos 0) ∷ []
    by true x y = refl
    by false x y = refl

-- the list grows by the two changes of a year
pub grown : (rule : Rule) (from count next year : ℕ) (changes before once twice : List (ℕ × ℤ)) → from + count ≡ year
    → suc count ≡ next → changes ≡ changes_of_year rule year → before ≡ so_far rule from count
    → once ≡ before ++ filter is_later (get_or changes 0 (0, pos 0) ∷ [])
    → twice ≡ once ++ filter is_later (get_or changes 1 (0, pos 0) ∷ []) → twice ≡ so_far rule from next
grown rule from count next year changes before once twice at last are so a b =
    let two : changes ≡ get_or changes 0 (0, pos 0) ∷ get_or changes 1 (0, pos 0) ∷ [] =
    subst (λ (xs : List (ℕ × ℤ)). xs ≡ get_or xs 0 (0, pos 0) ∷ get_or xs 1 (0, pos 0) ∷ []) (sym are)
    (two_changes rule year) in
    let more =
    one_year_more rule from count year (get_or changes 0 (0, pos 0)) (get_or changes 1 (0, pos 0)) at (sym are ∙ two) in
    let first : once ≡ so_far rule from count ++ filter is_later (get_or changes 0 (0, pos 0) ∷ []) =
    a ∙ ap (λ (xs : List (ℕ × ℤ)). xs ++ filter is_later (get_or changes 0 (0, pos 0) ∷ [])) so in
    let second : twice ≡ so_far rule from (suc count) =
    b ∙ (ap (λ (xs : List (ℕ × ℤ)). xs ++ filter is_later (get_or changes 1 (0, pos 0) ∷ [])) first ∙ sym more) in
    second ∙ ap (so_far rule from) last

-- and the last year makes it whole
pub all_years : (rule : Rule) (from to count : ℕ) → to + 1 - from ≡ count
    → pairs_of rule from to ≡ so_far rule from count
unfolding pairs_of
all_years rule from to count is = ap (so_far rule from) is
