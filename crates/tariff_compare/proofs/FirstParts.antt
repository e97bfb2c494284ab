-- The part that is found is the first one that differs: of frames, and of what is in force in a context.
use Rattle.{std.specs.List.{range_with_len}, tariff_check.proofs.Laws.{supplements_are_numbered_to_16}}
use Rattle.std.proofs.Common.{[], ℕ, ◌&&◌, ◌+◌, ◌<◌, ◌||◌, ◌∙◌, ◌∷◌, ◌≡◌, ◌≤◌, ◌⊎◌, Bool, List, None, Option, Some, ap}
use Rattle.std.proofs.Common.{arith, eqb, false, find, if◌then◌else◌, inl, inr, not, option_map, refl, subst, suc, sym}
use Rattle.std.proofs.{Common.{true, zero}, lemmas.Bool.{cases_lt, eq-eqb, eqb-true, false≢true, not-false, not-true}}
use Rattle.tariff_compare.specs.Common.{ChoiceKind, Decimals, Difference, In, Initial, IsWritable, MeterContext}
use Rattle.tariff_compare.specs.Common.{Minimum, Positions, Rate, Rounded, Step, Supplement, Tree, Zones, display_step}
use Rattle.tariff_compare.specs.{Common.{positions_of, supplement_of, zones_of}, Differences.{supplement_numbers}}
use Rattle.tariff_compare.specs.{Contexts.{context_at}, FirstParts.{kind_place}, Kinds.{is_other, is_same_of}}
use Rattle.tariff_compare.specs.Differences.{frame_difference, is_same_rounding, is_same_supplement, other_supplement}
use Rattle.tariff_compare.specs.FirstParts.{IsAskedFor, IsFirstKind, IsFirstOfFrame, IsSameBy, IsSameIn, frame_place}
use Rattle.tariff_compare.specs.Kinds.{InForce, compared_kinds, difference_at, differing_kind, in_force, is_asked}
use Rattle.tariff_compare.proofs.Frames.{both_parts, rounding_self, same_roundings, same_supplements, supplement_self}
use Rattle.tariff_compare.proofs.Numbers.{IsIn}

none_some : {A : Type 0} {a : A} → None ≡ Some a → ⊥
none_some h = cc

-- ---- the first that passes a test

-- if a test fails, what stands there is found, and else something behind it
by_test : (d e : Difference) (b : Bool) (rest : Option Difference) → (if not b then Some d else rest) ≡ Some e
    → ((b ≡ false) × (d ≡ e)) ⊎ ((b ≡ true) × (rest ≡ Some e))
by_test d e true rest h = inr (refl, h)
by_test d e false rest h = inl (refl, cc)

mapped : (o : Option ℕ) (e : Difference) → option_map Supplement o ≡ Some e
    → (n : ℕ) × (o ≡ Some n) × (Supplement n ≡ e)
mapped None e h = absurd (none_some h)
mapped (Some n) e h = (n, refl, cc)

-- the number that is found passes the test, and no number before it does
pub found_passes : (p : ℕ → Bool) (xs : List ℕ) (n : ℕ) → find p xs ≡ Some n → (p n ≡ true) × IsIn n xs
found_passes p [] n h = absurd (none_some h)
found_passes p (x ∷ xs) n h = by (p x) refl h (found_passes p xs n)
  where
    by : (b : Bool) → p x ≡ b → (if b then Some x else find p xs) ≡ Some n
        → (find p xs ≡ Some n → (p n ≡ true) × IsIn n xs) → (p n ≡ true) × IsIn n (x ∷ xs)
    by true is found later =
        let same : x ≡ n = cc in
        (subst (λ (y : ℕ). p y ≡ true) same is, inl (sym same))
    by false is found later = let there = later found in (there.0, inr there.1)

pub earlier_fail : (p : ℕ → Bool) (a count n m : ℕ) → find p (range_with_len a count) ≡ Some n → a ≤ m → m < n
    → p m ≡ false
earlier_fail p a zero n m h from to = absurd (none_some h)
earlier_fail p a (suc count) n m h from to = by (p a) refl h (earlier_fail p (a + 1) count n m)
  where
    by : (b : Bool) → p a ≡ b → (if b then Some a else find p (range_with_len (a + 1) count)) ≡ Some n
        → (find p (range_with_len (a + 1) count) ≡ Some n → (a + 1) ≤ m → m < n → p m ≡ false) → p m ≡ false
    by true is found later =
        let same : a ≡ n = cc in
        absurd (omega (arith, same, from, to))
    by false is found later =
        elim (cases_lt a m) [
          | inl above ↦ later found (omega (arith, above)) to
          | inr here ↦
              let same : m ≡ a = omega (arith, from, here) in
              subst (λ (y : ℕ). p y ≡ false) (sym same) is
        ]

-- ---- frames

test_of : (t u : Tree) (n : ℕ) → Bool
test_of t u n = is_same_supplement (supplement_of t.lines n) (supplement_of u.lines n)

-- supplements of other numbers than 1 to 16 are none
supplements_before : (t u : Tree) (n m : ℕ) → IsWritable t → IsWritable u → other_supplement t u ≡ Some n → m < n
    → supplement_of t.lines m ≡ supplement_of u.lines m
supplements_before t u n m t_is u_is found before =
    elim (cases_lt 0 m) [
      | inl from ↦ same_supplements (supplement_of t.lines m) (supplement_of u.lines m)
          (not-false (is_same_supplement (supplement_of t.lines m) (supplement_of u.lines m)) (earlier_fail
          (λ number. not (is_same_supplement (supplement_of t.lines number) (supplement_of u.lines number))) 1 16 n m
          found (omega (arith, from)) before))
      | inr zeroth ↦
          supplements_are_numbered_to_16 t m t_is (λ within. omega (arith, within.0, zeroth))
          ∙ sym (supplements_are_numbered_to_16 u m u_is (λ within. omega (arith, within.0, zeroth)))
    ]

-- the parts before a place are the same, as far as the place goes
parts_before : (t u : Tree) (place : ℕ) → (0 < place → IsSameIn t u Decimals) → (1 < place → IsSameIn t u Step)
    → (2 < place → IsSameIn t u Rounded) → (3 < place → IsSameIn t u Positions) → (4 < place → IsSameIn t u Zones)
    → ((m : ℕ) → 5 + m < place → IsSameIn t u (Supplement m))
    → (earlier : Difference) → frame_place earlier < place → IsSameIn t u earlier
parts_before t u place p₀ p₁ p₂ p₃ p₄ p₅ Decimals lt = p₀ lt
parts_before t u place p₀ p₁ p₂ p₃ p₄ p₅ Step lt = p₁ lt
parts_before t u place p₀ p₁ p₂ p₃ p₄ p₅ Rounded lt = p₂ lt
parts_before t u place p₀ p₁ p₂ p₃ p₄ p₅ Positions lt = p₃ lt
parts_before t u place p₀ p₁ p₂ p₃ p₄ p₅ Zones lt = p₄ lt
parts_before t u place p₀ p₁ p₂ p₃ p₄ p₅ (Supplement m) lt = p₅ m lt
parts_before t u place p₀ p₁ p₂ p₃ p₄ p₅ (In kind m) lt = tt

-- a test that fails says that two values aren't the same
unequal : (a b : ℕ) → eqb a b ≡ false → a ≡ b → ⊥
unequal a b fails same = false≢true (sym fails ∙ eq-eqb a b same)

pub frame_is_first : (t u : Tree) (d : Difference) → IsWritable t → IsWritable u → frame_difference t u ≡ Some d
    → IsFirstOfFrame t u d
frame_is_first t u d t_is u_is h =
    elim (by_test Decimals d (eqb t.decimals u.decimals) _ h) [
      | inl at ↦ subst (IsFirstOfFrame t u) at.1 (record {
        there = unequal t.decimals u.decimals at.0;
        first = parts_before t u 0 (λ lt. absurd (omega (arith, lt))) (λ lt. absurd (omega (arith, lt)))
            (λ lt. absurd (omega (arith, lt))) (λ lt. absurd (omega (arith, lt))) (λ lt. absurd (omega (arith, lt)))
            (λ m lt. absurd (omega (arith, lt)));
      })
      | inr on ↦ behind_decimals (eqb-true t.decimals u.decimals on.0) on.1
    ]
  where
    behind_zones : IsSameIn t u Decimals → IsSameIn t u Step → IsSameIn t u Rounded → IsSameIn t u Positions
        → IsSameIn t u Zones → option_map Supplement (other_supplement t u) ≡ Some d → IsFirstOfFrame t u d
    behind_zones p₀ p₁ p₂ p₃ p₄ h =
        let found = mapped (other_supplement t u) d h in
        let differs = not-true (is_same_supplement (supplement_of t.lines found.0) (supplement_of u.lines found.0))
        (found_passes (λ number. not (is_same_supplement (supplement_of t.lines number) (supplement_of u.lines number)))
        supplement_numbers found.0 found.1).0 in
        subst (IsFirstOfFrame t u) found.2 (record {
          there = λ same. false≢true (sym differs
              ∙ (ap (is_same_supplement (supplement_of t.lines found.0)) (sym same)
              ∙ supplement_self (supplement_of t.lines found.0)));
          first = parts_before t u (5 + found.0) (λ lt. p₀) (λ lt. p₁) (λ lt. p₂) (λ lt. p₃) (λ lt. p₄)
              (λ m lt. supplements_before t u found.0 m t_is u_is found.1 (omega (arith, lt)));
        })

    behind_positions : IsSameIn t u Decimals → IsSameIn t u Step → IsSameIn t u Rounded → IsSameIn t u Positions
        → (if not (eqb (zones_of t.lines) (zones_of u.lines)) then Some Zones
        else option_map Supplement (other_supplement t u)) ≡ Some d → IsFirstOfFrame t u d
    behind_positions p₀ p₁ p₂ p₃ h =
        elim (by_test Zones d (eqb (zones_of t.lines) (zones_of u.lines)) _ h) [
          | inl at ↦ subst (IsFirstOfFrame t u) at.1 (record {
            there = unequal (zones_of t.lines) (zones_of u.lines) at.0;
            first = parts_before t u 4 (λ lt. p₀) (λ lt. p₁) (λ lt. p₂) (λ lt. p₃) (λ lt. absurd (omega (arith, lt)))
                (λ m lt. absurd (omega (arith, lt)));
          })
          | inr on ↦ behind_zones p₀ p₁ p₂ p₃ (eqb-true (zones_of t.lines) (zones_of u.lines) on.0) on.1
        ]

    behind_rounding : IsSameIn t u Decimals → IsSameIn t u Step → IsSameIn t u Rounded
        → (if not (eqb (positions_of t.lines) (positions_of u.lines)) then Some Positions
        else (if not (eqb (zones_of t.lines) (zones_of u.lines)) then Some Zones
        else option_map Supplement (other_supplement t u))) ≡ Some d → IsFirstOfFrame t u d
    behind_rounding p₀ p₁ p₂ h =
        elim (by_test Positions d (eqb (positions_of t.lines) (positions_of u.lines)) _ h) [
          | inl at ↦ subst (IsFirstOfFrame t u) at.1 (record {
            there = unequal (positions_of t.lines) (positions_of u.lines) at.0;
            first = parts_before t u 3 (λ lt. p₀) (λ lt. p₁) (λ lt. p₂) (λ lt. absurd (omega (arith, lt)))
                (λ lt. absurd (omega (arith, lt))) (λ m lt. absurd (omega (arith, lt)));
          })
          | inr on ↦ behind_positions p₀ p₁ p₂ (eqb-true (positions_of t.lines) (positions_of u.lines) on.0) on.1
        ]

    behind_step : IsSameIn t u Decimals → IsSameIn t u Step
        → (if not (is_same_rounding (display_step t).1 (display_step u).1) then Some Rounded
        else (if not (eqb (positions_of t.lines) (positions_of u.lines)) then Some Positions
        else (if not (eqb (zones_of t.lines) (zones_of u.lines)) then Some Zones
        else option_map Supplement (other_supplement t u)))) ≡ Some d → IsFirstOfFrame t u d
    behind_step p₀ p₁ h =
        elim (by_test Rounded d (is_same_rounding (display_step t).1 (display_step u).1) _ h) [
          | inl at ↦ subst (IsFirstOfFrame t u) at.1 (record {
            there = λ same. false≢true (sym at.0 ∙ (ap (is_same_rounding (display_step t).1) (sym same)
                ∙ rounding_self (display_step t).1));
            first = parts_before t u 2 (λ lt. p₀) (λ lt. p₁) (λ lt. absurd (omega (arith, lt)))
                (λ lt. absurd (omega (arith, lt))) (λ lt. absurd (omega (arith, lt)))
                (λ m lt. absurd (omega (arith, lt)));
          })
          | inr on ↦ behind_rounding p₀ p₁ (same_roundings (display_step t).1 (display_step u).1 on.0) on.1
        ]

    behind_decimals : IsSameIn t u Decimals
        → (if not (eqb (display_step t).0 (display_step u).0) then Some Step
        else (if not (is_same_rounding (display_step t).1 (display_step u).1) then Some Rounded
        else (if not (eqb (positions_of t.lines) (positions_of u.lines)) then Some Positions
        else (if not (eqb (zones_of t.lines) (zones_of u.lines)) then Some Zones
        else option_map Supplement (other_supplement t u))))) ≡ Some d → IsFirstOfFrame t u d
    behind_decimals p₀ h =
        elim (by_test Step d (eqb (display_step t).0 (display_step u).0) _ h) [
          | inl at ↦ subst (IsFirstOfFrame t u) at.1 (record {
            there = unequal (display_step t).0 (display_step u).0 at.0;
            first = parts_before t u 1 (λ lt. p₀) (λ lt. absurd (omega (arith, lt)))
                (λ lt. absurd (omega (arith, lt))) (λ lt. absurd (omega (arith, lt)))
                (λ lt. absurd (omega (arith, lt))) (λ m lt. absurd (omega (arith, lt)));
          })
          | inr on ↦ behind_step p₀ (eqb-true (display_step t).0 (display_step u).0 on.0) on.1
        ]

-- ---- kinds

both_true : (a b : Bool) → a ≡ true → b ≡ true → (a && b) ≡ true
both_true a b first second = rw (first, second) refl

asked : (kind : ChoiceKind) (m : MeterContext) → is_asked kind m ≡ true → IsAskedFor kind m
asked Rate m h = tt
asked Initial m h =
    let parts = both_parts (eqb m.ticks 0) (eqb m.pulses 0) h in
    (eqb-true m.ticks 0 parts.0, eqb-true m.pulses 0 parts.1)
asked Minimum m h =
    let parts = both_parts (eqb m.ticks 0) (eqb m.pulses 0) h in
    (eqb-true m.ticks 0 parts.0, eqb-true m.pulses 0 parts.1)

is_then_asked : (kind : ChoiceKind) (m : MeterContext) → IsAskedFor kind m → is_asked kind m ≡ true
is_then_asked Rate m at = refl
is_then_asked Initial m at = both_true (eqb m.ticks 0) (eqb m.pulses 0) (eq-eqb m.ticks 0 at.0) (eq-eqb m.pulses 0 at.1)
is_then_asked Minimum m at = both_true (eqb m.ticks 0) (eqb m.pulses 0) (eq-eqb m.ticks 0 at.0) (eq-eqb m.pulses 0 at.1)

pub same_by : (kind : ChoiceKind) (one other : InForce) → is_same_of kind one other ≡ true → IsSameBy kind one other
same_by Rate one other h = let parts = both_parts _ _ h in (eqb-true _ _ parts.0, eqb-true _ _ parts.1)
same_by Initial one other h = let parts = both_parts _ _ h in (eqb-true _ _ parts.0, eqb-true _ _ parts.1)
same_by Minimum one other h = eqb-true _ _ h

pub is_then_same : (kind : ChoiceKind) (one other : InForce) → IsSameBy kind one other
    → is_same_of kind one other ≡ true
is_then_same Rate one other same = both_true _ _ (eq-eqb _ _ same.0) (eq-eqb _ _ same.1)
is_then_same Initial one other same = both_true _ _ (eq-eqb _ _ same.0) (eq-eqb _ _ same.1)
is_then_same Minimum one other same = eq-eqb _ _ same

-- a kind of which the test is true is asked for and isn't the same; one of which it is false is the same if it is asked
-- for
other_then : (kind : ChoiceKind) (m : MeterContext) (one other : InForce) → is_other m one other kind ≡ true
    → IsAskedFor kind m × (IsSameBy kind one other → ⊥)
other_then kind m one other h =
    let parts = both_parts (is_asked kind m) (not (is_same_of kind one other)) h in (
      asked kind m parts.0,
      λ same. false≢true (sym (not-true (is_same_of kind one other) parts.1) ∙ is_then_same kind one other same),
    )

not_other_then : (kind : ChoiceKind) (m : MeterContext) (one other : InForce) → is_other m one other kind ≡ false
    → IsAskedFor kind m → IsSameBy kind one other
not_other_then kind m one other h at =
    same_by kind one other (by (is_asked kind m) (is_same_of kind one other) h (is_then_asked kind m at))
  where
    by : (a b : Bool) → (a && not b) ≡ false → a ≡ true → b ≡ true
    by a true fails asked = refl
    by true false fails asked = absurd cc
    by false false fails asked = absurd cc

pub kind_is_first : (m : MeterContext) (one other : InForce) (kind : ChoiceKind)
    → differing_kind m one other ≡ Some kind → IsFirstKind m one other kind
unfolding differing_kind
kind_is_first m one other kind h =
    by (is_other m one other Initial) (is_other m one other Minimum) (is_other m one other Rate) refl refl refl h
  where
    before_minimum : (IsAskedFor Initial m → IsSameBy Initial one other) → (earlier : ChoiceKind)
        → kind_place earlier < 1 → IsAskedFor earlier m → IsSameBy earlier one other
    before_minimum fee Initial lt at = fee at
    before_minimum fee Minimum lt at = absurd (omega (arith, lt))
    before_minimum fee Rate lt at = absurd (omega (arith, lt))

    before_rate : (IsAskedFor Initial m → IsSameBy Initial one other)
        → (IsAskedFor Minimum m → IsSameBy Minimum one other) → (earlier : ChoiceKind) → kind_place earlier < 2
        → IsAskedFor earlier m → IsSameBy earlier one other
    before_rate fee least Initial lt at = fee at
    before_rate fee least Minimum lt at = least at
    before_rate fee least Rate lt at = absurd (omega (arith, lt))

    by : (a b c : Bool) → is_other m one other Initial ≡ a → is_other m one other Minimum ≡ b
        → is_other m one other Rate ≡ c
        → (if a then Some Initial else (if b then Some Minimum else (if c then Some Rate else None))) ≡ Some kind
        → IsFirstKind m one other kind
    by true b c first second third found =
        let same : Initial ≡ kind = cc in
        let is = other_then Initial m one other first in
        subst (IsFirstKind m one other) same
        (record { asked = is.0; there = is.1; first = λ earlier lt at. absurd (omega (arith, lt)) })
    by false true c first second third found =
        let same : Minimum ≡ kind = cc in
        let is = other_then Minimum m one other second in
        subst (IsFirstKind m one other) same
        (record { asked = is.0; there = is.1; first = before_minimum (not_other_then Initial m one other first) })
    by false false true first second third found =
        let same : Rate ≡ kind = cc in
        let is = other_then Rate m one other third in
        subst (IsFirstKind m one other) same (record {
          asked = is.0;
          there = is.1;
          first = before_rate (not_other_then Initial m one other first) (not_other_then Minimum m one other second);
        })
    by false false false first second third found = absurd (none_some found)
