-- Lines that are alike but for the numbers of their rates, and perhaps of the lines.
use Rattle.std.{specs.List.{cons_option, filter_map, flat_map, list_any}, proofs.Common.{refl, true}}
use Rattle.{std.specs.Option.{option_map}, tariff_tree.specs.Tree.{holiday, positions, step, supplement, zones}}
use Rattle.std.{specs.Prelude.{⊤, count_by, is_none, is_some}, proofs.lemmas.List.Sums.{sum_by-cons}}
use Rattle.std.proofs.Common.{[], ℕ, ◌++◌, ◌||◌, ◌∙◌, ◌∷◌, ◌≡◌, Bool, List, None, Option, Some, ap, cond, false, map}
use Rattle.tariff_check.specs.{Lines.{LineTest, first_after}, Parts.{parts}}
use Rattle.near_commands.specs.Common.{Condition, Entry, Line, RateNumbers, choices, conditions_of, initial, minimum}
use Rattle.near_commands.specs.{Common.{rate, when_part}, NearTariff.{with_rate}}

module _ (f : RateNumbers → RateNumbers) (N : ℕ → ℕ → Type 0) where
  -- lines are alike if they say the same, but for the numbers of rates
  abbrev pub AreAlike : List Line → List Line → Type 0
  AreAlike [] [] = ⊤
  AreAlike [] (m ∷ ms) = ⊥
  AreAlike (l ∷ ls) [] = ⊥
  AreAlike (l ∷ ls) (m ∷ ms) = (m.entry ≡ with_rate f l.entry) × N l.line m.line × AreAlike ls ms

  pub parts_alike : {A : Type 0} (part : Entry → Option A) → ((x : Entry) → part (with_rate f x) ≡ part x)
      → (ls ms : List Line) → AreAlike ls ms → parts part ms ≡ parts part ls
  parts_alike part same [] [] alike = refl
  parts_alike part same [] (m ∷ ms) alike = absurd alike
  parts_alike part same (l ∷ ls) [] alike = absurd alike
  parts_alike part same (l ∷ ls) (m ∷ ms) alike =
      let here : part m.entry ≡ part l.entry = ap part alike.0 ∙ same l.entry in
      let rest = parts_alike part same ls ms alike.2 in
      rw (here, rest) refl

  pub any_alike : (p q : Entry → Bool) → ((x : Entry) → q (with_rate f x) ≡ p x)
      → (ls ms : List Line) → AreAlike ls ms
      → list_any (λ (m : Line). q m.entry) ms ≡ list_any (λ (l : Line). p l.entry) ls
  any_alike p q same [] [] alike = refl
  any_alike p q same [] (m ∷ ms) alike = absurd alike
  any_alike p q same (l ∷ ls) [] alike = absurd alike
  any_alike p q same (l ∷ ls) (m ∷ ms) alike =
      let here : q m.entry ≡ p l.entry = ap q alike.0 ∙ same l.entry in
      let rest = any_alike p q same ls ms alike.2 in
      rw (here, rest) refl

  pub count_alike : (p q : Entry → Bool) → ((x : Entry) → q (with_rate f x) ≡ p x)
      → (ls ms : List Line) → AreAlike ls ms
      → count_by (λ (m : Line). q m.entry) ms ≡ count_by (λ (l : Line). p l.entry) ls
  count_alike p q same [] [] alike = refl
  count_alike p q same [] (m ∷ ms) alike = absurd alike
  count_alike p q same (l ∷ ls) [] alike = absurd alike
  count_alike p q same (l ∷ ls) (m ∷ ms) alike =
      let here : q m.entry ≡ p l.entry = ap q alike.0 ∙ same l.entry in
      let rest = count_alike p q same ls ms alike.2 in
      rw (
        sum_by-cons (λ (x : Line). cond (q x.entry) 1 0) m ms,
        sum_by-cons (λ (x : Line). cond (p x.entry) 1 0) l ls,
        here,
        rest,
      ) refl

  pub flat_alike : {A : Type 0} (g : Entry → List A) → ((x : Entry) → g (with_rate f x) ≡ g x)
      → (ls ms : List Line) → AreAlike ls ms
      → flat_map (λ (m : Line). g m.entry) ms ≡ flat_map (λ (l : Line). g l.entry) ls
  flat_alike g same [] [] alike = refl
  flat_alike g same [] (m ∷ ms) alike = absurd alike
  flat_alike g same (l ∷ ls) [] alike = absurd alike
  flat_alike g same (l ∷ ls) (m ∷ ms) alike =
      let here : g m.entry ≡ g l.entry = ap g alike.0 ∙ same l.entry in
      let rest = flat_alike g same ls ms alike.2 in
      rw (here, rest) refl

  one_more : (before before' : List Line) (l m : Line) → AreAlike before before' → m.entry ≡ with_rate f l.entry
      → N l.line m.line → AreAlike (before ++ l ∷ []) (before' ++ m ∷ [])
  one_more [] [] l m alike here number = (here, number, tt)
  one_more [] (y ∷ ys) l m alike here number = absurd alike
  one_more (x ∷ xs) [] l m alike here number = absurd alike
  one_more (x ∷ xs) (y ∷ ys) l m alike here number =
      (alike.0, alike.1, one_more xs ys l m alike.2 here number)

  -- what is told of lines that are alike: no line, or lines with related numbers
  abbrev pub AreTold : Option ℕ → Option ℕ → Type 0
  AreTold None None = ⊤
  AreTold None (Some y) = ⊥
  AreTold (Some x) None = ⊥
  AreTold (Some x) (Some y) = N x y

  pub first_alike : (test other : LineTest) → ((before before' : List Line) → AreAlike before before' → (x : Entry)
      → other before' (with_rate f x) ≡ test before x) → (before before' ls ms : List Line)
      → AreAlike before before' → AreAlike ls ms
      → AreTold (first_after test before ls) (first_after other before' ms)
  first_alike test other same before before' [] [] sofar alike = tt
  first_alike test other same before before' [] (m ∷ ms) sofar alike = absurd alike
  first_alike test other same before before' (l ∷ ls) [] sofar alike = absurd alike
  first_alike test other same before before' (l ∷ ls) (m ∷ ms) sofar alike =
      let here : other before' m.entry ≡ test before l.entry =
      ap (other before') alike.0 ∙ same before before' sofar l.entry in
      rw here (by (test before l.entry) (first_alike test other same (before ++ l ∷ []) (before' ++ m ∷ []) ls ms
      (one_more before before' l m sofar alike.0 alike.1) alike.2))
    where
      by : (b : Bool) → AreTold (first_after test (before ++ l ∷ []) ls) (first_after other (before' ++ m ∷ []) ms)
          → AreTold (cond b (Some l.line) (first_after test (before ++ l ∷ []) ls))
          (cond b (Some m.line) (first_after other (before' ++ m ∷ []) ms))
      by true rest = alike.1
      by false rest = rest

-- the conditions of a kind of lines are parts
abbrev pub condition_part : {V : Type 0} → (Entry → Option V) → Entry → Option (Option Condition)
condition_part part x = option_map (λ value. when_part x) (part x)

pub conditions_are_parts : {V : Type 0} (part : Entry → Option V) (ls : List Line)
    → conditions_of (choices part ls) ≡ parts (condition_part part) ls
conditions_are_parts part [] = refl
conditions_are_parts {V} part (l ∷ ls) = by (part l.entry) (conditions_are_parts part ls)
  where
    by : (o : Option V) → conditions_of (choices part ls) ≡ parts (condition_part part) ls
        → conditions_of (cons_option (option_map (λ (value : V). record {
          value = value;
          when = when_part l.entry;
          line = l.line;
        }) o) (choices part ls))
        ≡ cons_option (option_map (λ (value : V). when_part l.entry) o) (parts (condition_part part) ls)
    by None rest = rest
    by (Some value) rest = ap (λ (xs : List (Option Condition)). when_part l.entry ∷ xs) rest
