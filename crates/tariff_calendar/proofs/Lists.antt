-- The lists of a tariff: they don't fall, are short, and have nothing at 0.
use Rattle.std.{specs.List.{All, flat_map}, proofs.{Math.Nat.{mul-le-mul_left}, lemmas.List.{get_or-map, length-map}}}
use Rattle.std.proofs.Common.{[], ℕ, ◌*◌, ◌<◌, ◌∷◌, ◌≡◌, ◌≤◌, List, arith, get_or, length, map, refl}
use Rattle.std.proofs.lemmas.List.Elements.{All-append, All-cons, All-head, All-nil, All-tail, All-weaker}
use Rattle.tariff_check.{specs.Cuts.{IsRising, all_cuts}, proofs.Laws.{sound_tariffs_have_sound_parts-parts}}
use Rattle.{tariff_check.specs.Lines.{atoms_in}, tariff_calendar.specs.Common.{holidays_of}}
use Rattle.tariff_calendar.specs.Common.{Condition, Dimension, Distance, HasSoundParts, IsFromTo, IsGoodAtom, IsSound}
use Rattle.tariff_calendar.specs.Common.{IsWritable, Line, Minute, MonthDay, Time, Tree, atom_cuts, cuts_of, greatest}
use Rattle.tariff_calendar.specs.Lists.{AreOrdered, IsNotFalling, count_at_most, day_of, list_in, lists_of, pulses_for}
use Rattle.tariff_calendar.proofs.Counts.{count_at_most-zero}
use Rattle.tariff_calendar.proofs.Insertions.{All-with_each, IsRising-none, IsRising-with_each, length-with_each}
use Rattle.tariff_tree.specs.Condition as tree

-- numbers that rise don't fall
IsNotFalling-rising : (xs : List ℕ) → IsRising xs → IsNotFalling xs
IsNotFalling-rising xs rising = λ i j lt within. let less = rising i j lt within in omega arith

-- what a further distance takes isn't less
pulses_for-le : (k near far : ℕ) → near ≤ far → pulses_for k near ≤ pulses_for k far
pulses_for-le k near far le = omega (arith, mul-le-mul_left k le)

IsNotFalling-in_pulses : (k : ℕ) (xs : List ℕ) → IsNotFalling xs → IsNotFalling (map (pulses_for k) xs)
IsNotFalling-in_pulses k xs ordered = λ i j lt within.
    let within_xs : j < length xs = omega (arith, length-map xs (pulses_for k)) in
    let i_is = get_or-map (pulses_for k) xs i 0 0 (omega arith) in
    let j_is = get_or-map (pulses_for k) xs j 0 0 within_xs in
    rw (i_is, j_is) (pulses_for-le k (get_or xs i 0) (get_or xs j 0) (ordered i j lt within_xs))

cuts_of-not_falling : (dimension : Dimension) (lines : List Line) → IsNotFalling (cuts_of dimension lines)
cuts_of-not_falling dimension lines =
    IsNotFalling-rising (cuts_of dimension lines) (IsRising-with_each [] (all_cuts dimension lines) IsRising-none)

-- the cuts of a tariff don't fall
pub IsNotFalling-list_in : (t : Tree) (k : ℕ) (dimension : Dimension) → IsNotFalling (list_in (lists_of t k) dimension)
IsNotFalling-list_in t k MonthDay = cuts_of-not_falling MonthDay t.lines
IsNotFalling-list_in t k Minute = cuts_of-not_falling Minute t.lines
IsNotFalling-list_in t k Distance =
    IsNotFalling-in_pulses k (cuts_of Distance t.lines) (cuts_of-not_falling Distance t.lines)
IsNotFalling-list_in t k Time = cuts_of-not_falling Time t.lines

-- as many as its different cuts
pub length-list_in : (t : Tree) (k : ℕ) (dimension : Dimension)
    → length (list_in (lists_of t k) dimension) ≡ length (cuts_of dimension t.lines)
length-list_in t k MonthDay = refl
length-list_in t k Minute = refl
length-list_in t k Distance = length-map (cuts_of Distance t.lines) (pulses_for k)
length-list_in t k Time = refl

-- the lists of a sound tariff are no longer than a look-up reaches
pub AreOrdered-lists_of : (t : Tree) (k : ℕ) → HasSoundParts t → AreOrdered (lists_of t k)
AreOrdered-lists_of t k parts = record {
  month_days = record { few = parts.cuts MonthDay; not_falling = IsNotFalling-list_in t k MonthDay };
  minutes = record { few = parts.cuts Minute; not_falling = IsNotFalling-list_in t k Minute };
  distances = record {
    few = omega (arith, length-list_in t k Distance, parts.cuts Distance);
    not_falling = IsNotFalling-list_in t k Distance;
  };
  times = record { few = parts.cuts Time; not_falling = IsNotFalling-list_in t k Time };
  holidays = record {
    few = omega (
      arith,
      length-with_each [] (map day_of (holidays_of t.lines)),
      length-map (holidays_of t.lines) day_of,
      parts.holiday_count,
    );
    not_falling = IsNotFalling-rising (lists_of t k).holidays
        (IsRising-with_each [] (map day_of (holidays_of t.lines)) IsRising-none);
  };
}

-- lists that are these are too
pub AreOrdered-same : (t : Tree) (k : ℕ) (month_days minutes distances times holidays : List ℕ) → HasSoundParts t
    → month_days ≡ (lists_of t k).month_days → minutes ≡ (lists_of t k).minutes → distances ≡ (lists_of t k).distances
    → times ≡ (lists_of t k).times → holidays ≡ (lists_of t k).holidays
    → AreOrdered
    (record { month_days = month_days; minutes = minutes; distances = distances; times = times; holidays = holidays })
AreOrdered-same t k month_days minutes distances times holidays parts a b c d e =
    let ordered = AreOrdered-lists_of t k parts in
    record {
      month_days = rw a ordered.month_days;
      minutes = rw b ordered.minutes;
      distances = rw c ordered.distances;
      times = rw d ordered.times;
      holidays = rw e ordered.holidays;
    }

-- the same of a tariff whose numbers a text can have
pub lists_ordered : (t : Tree) (k : ℕ) → IsWritable t → IsSound t → AreOrdered (lists_of t k)
lists_ordered t k writable sound = AreOrdered-lists_of t k (sound_tariffs_have_sound_parts-parts t writable sound)

-- what holds of all that is made of each element holds of all that is made of the list
All-flat_map : {X : Type 0} (P : ℕ → Type 0) (f : X → List ℕ) (xs : List X) → All (λ x. All P (f x)) xs
    → All P (flat_map f xs)
All-flat_map P f [] all = All-nil P
All-flat_map P f (x ∷ xs) all =
    All-append P (f x) (flat_map f xs) (All-head (λ x. All P (f x)) x xs all)
    (All-flat_map P f xs (All-tail (λ x. All P (f x)) x xs all))

-- what holds of all cuts of each good atom holds of all cuts of a sound tariff
All-cuts_of : (P : ℕ → Type 0) (dimension : Dimension) (t : Tree) → ((atom : Condition) → IsGoodAtom atom
    → All P (atom_cuts dimension atom)) → HasSoundParts t → All P (cuts_of dimension t.lines)
All-cuts_of P dimension t of_atom parts =
    All-with_each P [] (all_cuts dimension t.lines) (All-nil P)
    (All-flat_map P (λ (l : Line). flat_map (atom_cuts dimension) (atoms_in l.entry)) t.lines
    (All-weaker (λ (l : Line). All IsGoodAtom (atoms_in l.entry))
    (λ (l : Line). All P (flat_map (atom_cuts dimension) (atoms_in l.entry)))
    (λ l good. All-flat_map P (atom_cuts dimension) (atoms_in l.entry)
    (All-weaker IsGoodAtom (λ atom. All P (atom_cuts dimension atom)) of_atom (atoms_in l.entry) good))
    t.lines parts.atoms))

All-one : (P : ℕ → Type 0) (n : ℕ) → P n → All P (n ∷ [])
All-one P n holds = All-cons P n [] holds (All-nil P)

-- a distance cut is one that a text can have, and above 0
distance_cuts : (atom : Condition) → IsGoodAtom atom → All (IsFromTo 1 greatest) (atom_cuts Distance atom)
distance_cuts (tree.after_distance decimetres) good = All-one (IsFromTo 1 greatest) decimetres (good.1, good.0)
distance_cuts atom good = All-nil (IsFromTo 1 greatest)

time_cuts : (atom : Condition) → IsGoodAtom atom → All (IsFromTo 1 greatest) (atom_cuts Time atom)
time_cuts (tree.after_time tenths) good = All-one (IsFromTo 1 greatest) tenths (good.1, good.0)
time_cuts atom good = All-nil (IsFromTo 1 greatest)

-- the distance cuts of a sound tariff
pub distances_fit : (t : Tree) → HasSoundParts t → All (IsFromTo 1 greatest) (cuts_of Distance t.lines)
distances_fit t parts = All-cuts_of (IsFromTo 1 greatest) Distance t distance_cuts parts

-- its time cuts
pub times_fit : (t : Tree) → HasSoundParts t → All (IsFromTo 1 greatest) (cuts_of Time t.lines)
times_fit t parts = All-cuts_of (IsFromTo 1 greatest) Time t time_cuts parts

-- some pulses are needed for a distance
pulses_for-some : (k decimetres : ℕ) → 0 < k → 0 < decimetres → 0 < pulses_for k decimetres
pulses_for-some k decimetres some far =
    let more : k * 1 ≤ k * decimetres = mul-le-mul_left k far in
    omega arith

-- at the hiring no distance is reached
pub no_distance_at_hiring : (t : Tree) (k : ℕ) → HasSoundParts t → 0 < k
    → count_at_most 0 (list_in (lists_of t k) Distance) ≡ 0
no_distance_at_hiring t k parts some =
    count_at_most-zero (map (pulses_for k) (cuts_of Distance t.lines))
    (λ i within.
    let within_cuts : i < length (cuts_of Distance t.lines) =
    omega (arith, length-map (cuts_of Distance t.lines) (pulses_for k)) in
    rw (get_or-map (pulses_for k) (cuts_of Distance t.lines) i 0 0 within_cuts)
    (pulses_for-some k (get_or (cuts_of Distance t.lines) i 0) some (distances_fit t parts i 0 within_cuts).0))

-- and no time
pub no_time_at_hiring : (t : Tree) (k : ℕ) → HasSoundParts t → count_at_most 0 (list_in (lists_of t k) Time) ≡ 0
no_time_at_hiring t k parts = count_at_most-zero (cuts_of Time t.lines) (λ i within. (times_fit t parts i 0 within).0)
