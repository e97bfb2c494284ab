-- Lists of offsets: the pair in force.
use Rattle.std.{specs.List.Sorted.{IsPartitionPoint, IsPartitionedBy}, proofs.lemmas.List.Sums.{count_by-le-length}}
use Rattle.std.proofs.Common.{[], ℕ, ℤ, ◌-◌, ◌<◌, ◌∷◌, ◌≡◌, ◌≤◌, List, MatchOption, Option, Some, ap, arith, count_by}
use Rattle.std.proofs.Common.{false, inl, inr, leb, length, pos, refl, subst, suc, true, zero}
use Rattle.{std.proofs.lemmas.Bool.{cases_lt, leb-false, leb-true}, taxi_units.specs.Counted.{IsLastOf}}
use Rattle.std.proofs.lemmas.{Grind.{common_steps}, List.Sorted.{IsNonDecreasingBy-from_default, IsPartitionedBy-leb}}
use Rattle.interval_clock.specs.Offsets.{IsInForce, IsOffsetList, IsSecond, offset_from, offset_of, second_at}

-- later pairs of a lawful list begin no earlier
pub rises : (pairs : List (ℕ × ℤ)) (earlier later : ℕ) → IsOffsetList pairs → earlier ≤ later → later < length pairs
    → second_at pairs earlier ≤ second_at pairs later
rises pairs zero zero list le within = omega arith
rises pairs (suc earlier) zero list le within = absurd (omega arith)
rises pairs earlier (suc later) list le within =
    elim (cases_lt later earlier) [
      | inl lt ↦ let same : earlier ≡ suc later = omega arith in rw same (omega arith)
      | inr ge ↦
          let back : suc later - 1 ≡ later = omega arith in
          let step : second_at pairs later < second_at pairs (suc later) =
          rw back at (list.rising (suc later) within (omega arith)) in
          let rest = rises pairs earlier later list ge (omega arith) in
          omega arith
    ]

-- if no pair has begun, what was in force before stays in force
pub offset_from-none : (pairs : List (ℕ × ℤ)) (before : ℤ) (second : ℕ)
    → ((place : ℕ) → place < length pairs → second < second_at pairs place) → offset_from before pairs second ≡ before
offset_from-none [] before second later = refl
offset_from-none (pair ∷ pairs) before second later =
    let here : second < pair.0 = later 0 (omega arith) in
    let rest = offset_from-none pairs before second (λ place within. later (suc place) (omega arith)) in
    grind (arith, common_steps, rest)

-- the offset in force is that of the last pair that has begun
pub offset_from-in_force : (pairs : List (ℕ × ℤ)) (before : ℤ) (second place : ℕ) → IsInForce pairs second place
    → offset_from before pairs second ≡ offset_of pairs place
offset_from-in_force [] before second place force = absurd (omega (arith, force.within))
offset_from-in_force (pair ∷ pairs) before second zero force =
    let begun : pair.0 ≤ second = force.begun in
    let rest =
    offset_from-none pairs pair.1 second (λ place within. force.last (suc place) (omega arith) (omega arith)) in
    grind (arith, common_steps, rest)
offset_from-in_force (pair ∷ pairs) before second (suc place) force =
    offset_from-in_force pairs _ second place (record {
      within = omega (arith, force.within);
      begun = force.begun;
      last = λ later after within. force.last (suc later) (omega arith) (omega arith);
    })

-- so those that begin at or before a second stand before those that don't
pub parted : (pairs : List (ℕ × ℤ)) (second : ℕ) → IsOffsetList pairs
    → IsPartitionedBy (λ pair. leb pair.0 second) pairs
parted pairs second list =
    IsPartitionedBy-leb (λ (pair : ℕ × ℤ). pair.0) pairs second
    (IsNonDecreasingBy-from_default (λ (pair : ℕ × ℤ). pair.0) pairs (0, pos 0)
    (λ i j le within. rises pairs i j list le within))

-- and the last of them is in force
pub last_begun : (pairs : List (ℕ × ℤ)) (second count : ℕ) → IsOffsetList pairs → IsSecond second
    → count ≡ count_by (λ pair. leb pair.0 second) pairs → IsPartitionPoint (λ pair. leb pair.0 second ≡ true)
    (λ pair. leb pair.0 second ≡ false) pairs count → (0 < count) × IsInForce pairs second (count - 1)
last_begun pairs second zero list in_range counted point =
    let first : second < second_at pairs 0 =
    leb-false (second_at pairs 0) second (point.1 0 (0, pos 0) (omega arith) (omega (arith, list.some))) in
    absurd (omega (arith, list.start))
last_begun pairs second (suc n) list in_range counted point =
    let few : count_by (λ pair. leb pair.0 second) pairs ≤ length pairs =
    count_by-le-length (λ (pair : ℕ × ℤ). leb pair.0 second) pairs in
    let back : suc n - 1 ≡ n = omega arith in (
      omega arith,
      rw back (record {
        within = omega arith;
        begun = leb-true (second_at pairs n) second (point.0 n (0, pos 0) (omega arith) (omega arith));
        last = λ later after within. leb-false (second_at pairs later) second
            (point.1 later (0, pos 0) (omega arith) within);
      }),
    )

-- what was read last is that pair
pub found_in_force : (pairs : List (ℕ × ℤ)) (second count : ℕ) (last : Option (ℕ × ℤ)) (pair : ℕ × ℤ)
    → IsOffsetList pairs → IsSecond second → count ≡ count_by (λ other. leb other.0 second) pairs
    → IsPartitionPoint (λ other. leb other.0 second ≡ true) (λ other. leb other.0 second ≡ false) pairs count
    → MatchOption last (count ≡ 0) (IsLastOf pairs count) → last ≡ Some pair
    → IsInForce pairs second (count - 1) × (pair.1 ≡ offset_of pairs (count - 1))
found_in_force pairs second count last pair list in_range counted point read is =
    let here : IsLastOf pairs count pair =
    subst (λ (o : Option (ℕ × ℤ)). MatchOption o (count ≡ 0) (IsLastOf pairs count)) is read in
    ((last_begun pairs second count list in_range counted point).1, ap (λ (p : ℕ × ℤ). p.1) (here.1 (0, pos 0)))
