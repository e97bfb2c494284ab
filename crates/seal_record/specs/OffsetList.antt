-- For proofs: the test whether a list of offsets is lawful, with what it decides, as the law
-- texts_say_parameters_line_by_line says.
use Rattle.std.specs.Prelude.{[], ℕ, ℤ, ◌-◌, ◌∷◌, Bool, List, length, neg_ℤ, pos, true}
use Rattle.taxi_units.specs.Test.{◌⊕◌, at_most_signed, below, if_passes, less, stated, within}
use Rattle.{taxi_units.specs.Time.{first_second, last_second}, interval_clock.specs.Offsets.{offset_of, second_at}}
use Rattle.seal_record.specs.{Common.{◌&◌, IsOffsetList, Test, same}, Limits.{greatest_offset, most_offsets}}

-- the pair at a place has a second of the meter's and an offset of at most 14 hours
abbrev pub in_range_test : List (ℕ × ℤ) → (place : ℕ) → Test
in_range_test pairs place =
    within first_second (second_at pairs place) last_second
    & (at_most_signed (neg_ℤ (pos greatest_offset)) (offset_of pairs place)
    & at_most_signed (offset_of pairs place) (pos greatest_offset))

-- the second at a place is greater than the one before, if one is before
abbrev pub rising_test : List (ℕ × ℤ) → (place : ℕ) → Test
rising_test pairs place = if_passes (less 0 place) (less (second_at pairs (place - 1)) (second_at pairs place))

-- a list of offsets
abbrev pub offsets_test : List (ℕ × ℤ) → Test
offsets_test pairs = stated (IsOffsetList pairs)
    (within 1 (length pairs) most_offsets
    & same (second_at pairs 0) first_second
    & below (in_range_test pairs) (length pairs)
    & below (rising_test pairs) (length pairs))
    (λ facts. record {
      some = facts.0.0.0.0;
      few = facts.0.0.0.1;
      start = facts.0.0.1;
      in_range = facts.0.1;
      rising = facts.1;
    })
    (λ is. is.some ⊕ is.few ⊕ is.start ⊕ is.in_range ⊕ is.rising)

-- a test whether a list has 1 to 32 pairs in range, the first of 2000-01-01T00:00Z, with rising seconds
abbrev pub is_offset_list : List (ℕ × ℤ) → Bool
is_offset_list pairs = (offsets_test pairs).passes

-- a test whether a list that is being read has no pair yet or is lawful
abbrev pub is_list_so_far : List (ℕ × ℤ) → Bool
is_list_so_far [] = true
is_list_so_far (pair ∷ pairs) = is_offset_list (pair ∷ pairs)
