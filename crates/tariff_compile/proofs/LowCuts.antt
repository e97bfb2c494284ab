-- The cuts of days and of minutes are low enough for a context.
use Rattle.std.specs.{BTreeSet.{insert_key}, List.{flat_map}, Ordering.{nat_cmp}}
use Rattle.std.proofs.Common.{[], ℕ, ◌+◌, ◌-◌, ◌<◌, ◌==◌, ◌^◌, ◌||◌, ◌∷◌, ◌≤◌, All, Bool, List, arith, false}
use Rattle.std.proofs.{Common.{if◌then◌else◌, true}, lemmas.{List.Sums.{sum_by-take-le}, Map.Views.{All-insert_key}}}
use Rattle.std.proofs.lemmas.List.Elements.{All-append, All-cons, All-head, All-nil, All-tail, All-weaker}
use Rattle.taxi_units.specs.Calendar.{date_place, month_lengths}
use Rattle.tariff_check.specs.{Cuts.{all_cuts, atom_cuts, cuts_of, day_cut, minute_cut, with_each}, Lines.{atoms_in}}
use Rattle.tariff_check.specs.{Sound.{IsGoodAtom}, declared.fault.Dimension.{Dimension, TheVariants.{Minute, MonthDay}}}
use Rattle.tariff_compile.specs.{Cells.{HasLowCuts}, Common.{Condition, HasSoundParts, Line, Tree, lists_of}}
use Rattle.tariff_tree.specs.Condition as tree

abbrev IsLow : ℕ → Type 0
IsLow cut = cut < 2 ^ 16

low_if : (b : Bool) (n : ℕ) → IsLow n → All IsLow (if b then [] else n ∷ [])
low_if true n low = All-nil IsLow
low_if false n low = All-cons IsLow n [] low (All-nil IsLow)

low_day : (place : ℕ) → place ≤ 466 → All IsLow (day_cut place)
low_day place most = low_if ((place == 0) || (place == 366)) place (omega arith)

low_minute : (minute : ℕ) → minute ≤ 1439 → All IsLow (minute_cut minute)
low_minute minute most = low_if (minute == 0) minute (omega arith)

-- a place of a year that a text can name
low_place : (month date : ℕ) → date ≤ 99 → date_place month date ≤ 465
low_place month date small = let days = sum_by-take-le (λ (n : ℕ). n) (month_lengths true) (month - 1) in omega arith

day_cuts : (atom : Condition) → IsGoodAtom atom → All IsLow (atom_cuts MonthDay atom)
day_cuts (tree.date from_month from_date to_month to_date) good =
    let from = low_place from_month from_date good.0.1 in
    let to = low_place to_month to_date good.0.3 in
    All-append IsLow (day_cut (date_place from_month from_date)) (day_cut (date_place to_month to_date + 1))
    (low_day (date_place from_month from_date) (omega arith)) (low_day (date_place to_month to_date + 1) (omega arith))
day_cuts atom good = All-nil IsLow

minute_cuts : (atom : Condition) → IsGoodAtom atom → All IsLow (atom_cuts Minute atom)
minute_cuts (tree.time from to) good =
    All-append IsLow (minute_cut from) (minute_cut to) (low_minute from good.0.0) (low_minute to good.0.1)
minute_cuts atom good = All-nil IsLow

all_made : {X : Type 0} (f : X → List ℕ) (xs : List X) → All (λ x. All IsLow (f x)) xs → All IsLow (flat_map f xs)
all_made f [] all = All-nil IsLow
all_made {X = X} f (x ∷ xs) all =
    let P = λ (x : X). All IsLow (f x) in
    All-append IsLow (f x) (flat_map f xs) (All-head P x xs all) (all_made f xs (All-tail P x xs all))

-- numbers that are put in their places one by one
low_each : (xs ns : List ℕ) → All IsLow xs → All IsLow ns → All IsLow (with_each xs ns)
low_each xs [] all more = all
low_each xs (n ∷ ns) all more =
    low_each (insert_key nat_cmp xs n) ns (All-insert_key nat_cmp n IsLow xs all (All-head IsLow n ns more))
    (All-tail IsLow n ns more)

low_cuts_of : (dimension : Dimension) (t : Tree) → ((atom : Condition) → IsGoodAtom atom
    → All IsLow (atom_cuts dimension atom)) → HasSoundParts t → All IsLow (cuts_of dimension t.lines)
low_cuts_of dimension t of_atom parts =
    low_each [] (all_cuts dimension t.lines) (All-nil IsLow)
    (all_made (λ (l : Line). flat_map (atom_cuts dimension) (atoms_in l.entry)) t.lines
    (All-weaker (λ (l : Line). All IsGoodAtom (atoms_in l.entry))
    (λ (l : Line). All IsLow (flat_map (atom_cuts dimension) (atoms_in l.entry)))
    (λ l good. all_made (atom_cuts dimension) (atoms_in l.entry)
    (All-weaker IsGoodAtom (λ atom. All IsLow (atom_cuts dimension atom)) of_atom (atoms_in l.entry) good))
    t.lines parts.atoms))

-- the cuts of a sound tariff
pub low_cuts : (t : Tree) (k : ℕ) → HasSoundParts t → HasLowCuts (lists_of t k)
low_cuts t k parts = record {
  month_days = low_cuts_of MonthDay t day_cuts parts;
  minutes = low_cuts_of Minute t minute_cuts parts;
}
