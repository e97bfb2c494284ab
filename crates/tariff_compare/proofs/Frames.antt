-- The frame of two tariffs: nothing differs exactly if it is the same.
use Rattle.std.proofs.Common.{[], ℕ, ◌&&◌, ◌∙◌, ◌∷◌, ◌≡◌, ◌⊎◌, Bool, List, None, Option, Some, ap, arith, eqb, false}
use Rattle.std.proofs.Common.{find, if◌then◌else◌, inl, inr, not, option_map, refl, sym, true}
use Rattle.std.proofs.lemmas.Bool.{cases_lt, eq-eqb, eqb-true, false≢true, not-false}
use Rattle.drive_modes.specs.declared.meterage.Rounding.{Rounding, TheVariants.{Ahead, Behind}}
use Rattle.{tariff_check.proofs.Laws.{supplements_are_numbered_to_16}, tariff_compare.specs.Same.{HasSameFrame}}
use Rattle.tariff_compare.specs.Common.{Decimals, Difference, IsFromTo, IsWritable, Positions, Rounded, Step}
use Rattle.tariff_compare.specs.Common.{Supplement, Tree, Zones, display_step, positions_of, supplement_of, zones_of}
use Rattle.tariff_compare.specs.Differences.{frame_difference, is_same_rounding, is_same_supplement, other_supplement}
use Rattle.tariff_compare.{specs.Differences.{supplement_numbers}, proofs.Numbers.{IsIn, range_within}}
use Rattle.tariff_check.specs.declared.values.Supplement as supplements

some_none : {A : Type 0} {a : A} → Some a ≡ None → ⊥
some_none h = cc

-- ---- nothing differs in the frame

passed : (d : Difference) (b : Bool) (rest : Option Difference) → (if not b then Some d else rest) ≡ None
    → (b ≡ true) × (rest ≡ None)
passed d true rest h = (refl, h)
passed d false rest h = absurd (some_none h)

pub same_roundings : (a b : Rounding) → is_same_rounding a b ≡ true → a ≡ b
same_roundings Behind Behind h = refl
same_roundings Behind Ahead h = absurd (false≢true h)
same_roundings Ahead Behind h = absurd (false≢true h)
same_roundings Ahead Ahead h = refl

pair_same : (a b : ℕ × Rounding) → a.0 ≡ b.0 → a.1 ≡ b.1 → a ≡ b
pair_same a b first second =
    let left : (a.0, a.1) ≡ (b.0, a.1) = ap (λ (n : ℕ). (n, a.1)) first in
    let right : (b.0, a.1) ≡ (b.0, b.1) = ap (λ (r : Rounding). (b.0, r)) second in
    left ∙ right

none_mapped : (o : Option ℕ) → option_map Supplement o ≡ None → o ≡ None
none_mapped None h = refl
none_mapped (Some n) h = absurd (some_none h)

-- a test that nothing in a list passes fails of each
pub none_found : {X : Type 0} (p : X → Bool) (xs : List X) → find p xs ≡ None → (n : X) → IsIn n xs → p n ≡ false
none_found p [] h n there = absurd there
none_found p (x ∷ xs) h n there = by (p x) refl h there (λ rest later. none_found p xs rest n later)
  where
    by : (b : Bool) → p x ≡ b → (if b then Some x else find p xs) ≡ None → (n ≡ x) ⊎ IsIn n xs
        → (find p xs ≡ None → IsIn n xs → p n ≡ false) → p n ≡ false
    by true is found there later = absurd (some_none found)
    by false is found (inl e) later = ap p e ∙ is
    by false is found (inr more) later = later found more

-- two tests that pass together each pass
pub both_parts : (a b : Bool) → (a && b) ≡ true → (a ≡ true) × (b ≡ true)
both_parts true b h = (refl, h)
both_parts false b h = absurd (false≢true h)

both_passed : (a b : Bool) → (if a then b else false) ≡ true → (a ≡ true) × (b ≡ true)
both_passed true b h = (refl, h)
both_passed false b h = absurd (false≢true h)

pub same_supplements : (a b : Option supplements.Supplement) → is_same_supplement a b ≡ true → a ≡ b
same_supplements None None h = refl
same_supplements None (Some r) h = absurd (false≢true h)
same_supplements (Some s) None h = absurd (false≢true h)
same_supplements (Some s) (Some r) h =
    let parts = both_passed (eqb s.amount r.amount) (eqb s.max r.max) h in
    let amount = eqb-true s.amount r.amount parts.0 in
    let most = eqb-true s.max r.max parts.1 in
    λ i. Some (record { amount = amount i; max = most i })

in_numbers : (n : ℕ) → IsFromTo 1 16 n → IsIn n supplement_numbers
in_numbers n within = range_within 1 16 n within.0 (omega (arith, within.1))

supplement_same : (t u : Tree) (number : ℕ) → IsWritable t → IsWritable u → other_supplement t u ≡ None
    → supplement_of t.lines number ≡ supplement_of u.lines number
supplement_same t u number t_is u_is none =
    elim (cases_lt 0 number) [
      | inl from ↦ elim (cases_lt number 17) [
        | inl to ↦
            let same = not-false (is_same_supplement (supplement_of t.lines number) (supplement_of u.lines number))
            (none_found (λ n. not (is_same_supplement (supplement_of t.lines n) (supplement_of u.lines n)))
            supplement_numbers none number (in_numbers number (omega arith, omega arith))) in
            same_supplements (supplement_of t.lines number) (supplement_of u.lines number) same
        | inr beyond ↦
            supplements_are_numbered_to_16 t number t_is (λ within. omega (arith, within.1, beyond))
            ∙ sym (supplements_are_numbered_to_16 u number u_is (λ within. omega (arith, within.1, beyond)))
      ]
      | inr below ↦
          supplements_are_numbered_to_16 t number t_is (λ within. omega (arith, within.0, below))
          ∙ sym (supplements_are_numbered_to_16 u number u_is (λ within. omega (arith, within.0, below)))
    ]

-- the parts of a frame in which nothing differs
record IsSameSoFar (t u : Tree) : Type 0 where
  pub decimals : t.decimals ≡ u.decimals
  pub step : display_step t ≡ display_step u
  pub positions : positions_of t.lines ≡ positions_of u.lines
  pub zones : zones_of t.lines ≡ zones_of u.lines
  pub supplements : other_supplement t u ≡ None

frame_parts : (t u : Tree) → frame_difference t u ≡ None → IsSameSoFar t u
frame_parts t u h =
    let p₁ = passed Decimals (eqb t.decimals u.decimals) _ h in
    let p₂ = passed Step (eqb (display_step t).0 (display_step u).0) _ p₁.1 in
    let p₃ = passed Rounded (is_same_rounding (display_step t).1 (display_step u).1) _ p₂.1 in
    let p₄ = passed Positions (eqb (positions_of t.lines) (positions_of u.lines)) _ p₃.1 in
    let p₅ = passed Zones (eqb (zones_of t.lines) (zones_of u.lines)) _ p₄.1 in
    record {
      decimals = eqb-true t.decimals u.decimals p₁.0;
      step = pair_same (display_step t) (display_step u) (eqb-true (display_step t).0 (display_step u).0 p₂.0)
          (same_roundings (display_step t).1 (display_step u).1 p₃.0);
      positions = eqb-true (positions_of t.lines) (positions_of u.lines) p₄.0;
      zones = eqb-true (zones_of t.lines) (zones_of u.lines) p₅.0;
      supplements = none_mapped (other_supplement t u) p₅.1;
    }

-- if nothing differs, positions and zones are the same
pub frame_positions : (t u : Tree) → frame_difference t u ≡ None → positions_of t.lines ≡ positions_of u.lines
frame_positions t u h = (frame_parts t u h).positions

pub frame_zones : (t u : Tree) → frame_difference t u ≡ None → zones_of t.lines ≡ zones_of u.lines
frame_zones t u h = (frame_parts t u h).zones

pub frame_same : (t u : Tree) → IsWritable t → IsWritable u → frame_difference t u ≡ None → HasSameFrame t u
frame_same t u t_is u_is h =
    let parts = frame_parts t u h in
    record {
      decimals = parts.decimals;
      step = parts.step;
      positions = parts.positions;
      zones = parts.zones;
      supplements = λ number. supplement_same t u number t_is u_is parts.supplements;
    }

-- ---- and the other way round

pub rounding_self : (a : Rounding) → is_same_rounding a a ≡ true
rounding_self Behind = refl
rounding_self Ahead = refl

pub supplement_self : (o : Option supplements.Supplement) → is_same_supplement o o ≡ true
supplement_self None = refl
supplement_self (Some s) = rw (eq-eqb s.amount s.amount refl, eq-eqb s.max s.max refl) refl

none_other : (p : ℕ → Bool) (xs : List ℕ) → ((n : ℕ) → p n ≡ false) → find p xs ≡ None
none_other p [] all = refl
none_other p (x ∷ xs) all = rw (all x) (none_other p xs all)

passes : (d : Difference) (b : Bool) (rest : Option Difference) → b ≡ true → rest ≡ None
    → (if not b then Some d else rest) ≡ None
passes d b rest is none = rw is none

pub same_frame : (t u : Tree) → HasSameFrame t u → frame_difference t u ≡ None
same_frame t u same =
    let supplements : (n : ℕ) → not (is_same_supplement (supplement_of t.lines n) (supplement_of u.lines n)) ≡ false =
    λ n. ap not (ap (is_same_supplement (supplement_of t.lines n)) (sym (same.supplements n))
    ∙ supplement_self (supplement_of t.lines n)) in
    passes Decimals (eqb t.decimals u.decimals) _ (eq-eqb t.decimals u.decimals same.decimals)
    (passes Step (eqb (display_step t).0 (display_step u).0) _
    (eq-eqb (display_step t).0 (display_step u).0 (ap (λ (s : ℕ × Rounding). s.0) same.step))
    (passes Rounded (is_same_rounding (display_step t).1 (display_step u).1) _ (ap
    (λ (s : ℕ × Rounding). is_same_rounding (display_step t).1 s.1) (sym same.step) ∙ rounding_self (display_step t).1)
    (passes Positions (eqb (positions_of t.lines) (positions_of u.lines)) _
    (eq-eqb (positions_of t.lines) (positions_of u.lines) same.positions)
    (passes Zones (eqb (zones_of t.lines) (zones_of u.lines)) _
    (eq-eqb (zones_of t.lines) (zones_of u.lines) same.zones)
    (ap (option_map Supplement) (none_other
    (λ n. not (is_same_supplement (supplement_of t.lines n) (supplement_of u.lines n))) supplement_numbers
    supplements))))))
