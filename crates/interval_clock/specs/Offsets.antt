-- Rules: lists of pairs of a second and the offset from UTC that is in force from that second on.
use Rattle.std.specs.Prelude.{[], ℕ, ℤ, ◌-◌, ◌<◌, ◌∷◌, ◌≡◌, ◌≢◌, ◌≤ℤ◌, ◌≤◌, List, if◌then◌else◌, length, nat_le, neg_ℤ}
use Rattle.{std.specs.Prelude.{pos, slice_index_or}, taxi_units.specs.Time.{first_second}}
use Rattle.interval_clock.specs.declared.offsets.OffsetFault.{OffsetFault, TheVariants.{TooMany}}
use Rattle.interval_clock.specs.declared.offsets.OffsetFault.TheVariants.{Empty, FirstNotStart, NotRising, OutOfRange}
pub use Rattle.taxi_units.specs.Time.{IsSecond}

-- an offset is at most 50,400 seconds, which are 14 hours, to either side
abbrev pub greatest_offset : ℕ
greatest_offset = 50400

-- an offset is at most 14 hours, counted in seconds, before or after UTC
abbrev pub IsOffset : ℤ → Type 0
IsOffset offset = (neg_ℤ (pos greatest_offset) ≤ℤ offset) × (offset ≤ℤ pos greatest_offset)

-- the second of a pair is its first part, at a place of the list counted from 0
abbrev pub second_at : List (ℕ × ℤ) → ℕ → ℕ
second_at pairs place = (slice_index_or pairs place (0, pos 0)).0

-- the offset of a pair is its second part, at a place of the list counted from 0
abbrev pub offset_of : List (ℕ × ℤ) → ℕ → ℤ
offset_of pairs place = (slice_index_or pairs place (0, pos 0)).1

-- the pair at a place is in range if its second is one of the meter's and its offset is at most 14 hours
abbrev pub IsInRangeAt : List (ℕ × ℤ) → ℕ → Type 0
IsInRangeAt pairs place = IsSecond (second_at pairs place) × IsOffset (offset_of pairs place)

-- a list of pairs rises at a place if the second there is greater than the one before, or if none is before
abbrev pub RisesAt : List (ℕ × ℤ) → ℕ → Type 0
RisesAt pairs place = 0 < place → second_at pairs (place - 1) < second_at pairs place

-- a property of places holds for a list if it holds at each place of the list
abbrev pub EachPlace : List (ℕ × ℤ) → (ℕ → Type 0) → Type 0
EachPlace pairs Holds = (place : ℕ) → place < length pairs → Holds place

-- a place is the first at which a property fails if it fails there and holds at each place before
pub record FirstPlace (pairs : List (ℕ × ℤ)) (Holds : ℕ → Type 0) (place : ℕ) : Type 0 where
  pub within : place < length pairs
  pub fails : ¬ (Holds place)
  pub before : (earlier : ℕ) → earlier < place → Holds earlier

-- a list of offsets has 1 to 32 pairs, begins at 2000-01-01T00:00Z, has each pair in range, and its seconds rise
pub record IsOffsetList (pairs : List (ℕ × ℤ)) : Type 0 where
  pub some : 1 ≤ length pairs
  pub few : length pairs ≤ 32
  pub start : second_at pairs 0 ≡ first_second
  pub in_range : EachPlace pairs (IsInRangeAt pairs)
  pub rising : EachPlace pairs (RisesAt pairs)

-- a list is of a good length if it has 1 to 32 pairs
abbrev pub IsOfLength : List (ℕ × ℤ) → Type 0
IsOfLength pairs = (1 ≤ length pairs) × (length pairs ≤ 32)

-- the fault of a list is the first that it has in the order of the cases below: no pair, more than 32, a first second
-- other than 2000-01-01T00:00Z, the first pair out of range, the first second that isn't greater than the one before
abbrev pub IsFaultOf : List (ℕ × ℤ) → OffsetFault → Type 0
IsFaultOf pairs Empty = pairs ≡ []
IsFaultOf pairs TooMany = 32 < length pairs
IsFaultOf pairs FirstNotStart = IsOfLength pairs × (second_at pairs 0 ≢ first_second)
IsFaultOf pairs (OutOfRange place) =
    IsOfLength pairs × (second_at pairs 0 ≡ first_second) × FirstPlace pairs (IsInRangeAt pairs) place
IsFaultOf pairs (NotRising place) =
    IsOfLength pairs × (second_at pairs 0 ≡ first_second) × EachPlace pairs (IsInRangeAt pairs)
    × FirstPlace pairs (RisesAt pairs) place

-- the pair in force at a second is the last one that begins at or before that second
pub record IsInForce (pairs : List (ℕ × ℤ)) (second place : ℕ) : Type 0 where
  pub within : place < length pairs
  pub begun : second_at pairs place ≤ second
  pub last : (later : ℕ) → place < later → later < length pairs → second < second_at pairs later

-- the offset at a second is that of the last pair that begins at or before it, and `before` if none does
abbrev pub offset_from : (before : ℤ) → List (ℕ × ℤ) → (second : ℕ) → ℤ
offset_from before [] second = before
offset_from before (pair ∷ pairs) second =
    offset_from (if nat_le pair.0 second then pair.1 else before) pairs second

-- the offset at a second is that of the last pair that begins at or before it, and 0 if none does
abbrev pub offset_at : List (ℕ × ℤ) → (second : ℕ) → ℤ
offset_at pairs second = offset_from (pos 0) pairs second
