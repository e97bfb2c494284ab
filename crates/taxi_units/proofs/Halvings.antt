-- Look-ups by halving: how many elements they count, and in how many steps.
use Rattle.{std.{specs.List.Sorted.{IsPartitionedBy}, proofs.Math.Nat.{pow-suc}}, taxi_units.specs.Halving.{EndsWithin}}
use Rattle.std.proofs.Common.{[], ℕ, ◌*◌, ◌+◌, ◌/◌, ◌<◌, ◌^◌, ◌∙◌, ◌∷◌, ◌≡◌, ◌≤◌, Bool, List, ap, arith, cond, count_by}
use Rattle.std.proofs.{Common.{false, get_or, length, refl, suc, sym, true, zero}, lemmas.List.Sums.{sum_by-cons}}
use Rattle.taxi_units.specs.Counted.{IsElement}

-- a halving is one step, and leaves at most half
halved : (spent bound width half rounds : ℕ) → spent + rounds ≤ bound → width < 2 ^ rounds → 0 < width
    → half ≤ width / 2 → EndsWithin (spent + 1) bound half
halved spent bound width half zero room fits some less = absurd (omega arith)
halved spent bound width half (suc rounds) room fits some less =
    let twice : width < 2 ^ rounds * 2 = rw pow-suc at fits in
    record { rounds = rounds; room = omega arith; fits = omega arith }

pub ends_after : (spent bound width half : ℕ) → EndsWithin spent bound width → 0 < width → half ≤ width / 2
    → EndsWithin (spent + 1) bound half
ends_after spent bound width half within some less =
    halved spent bound width half within.rounds within.room within.fits some less

-- if the first n elements pass a test and no later one does, n pass it
pub count_by-at : {T : Type 0} (test : T → Bool) (n : ℕ) (list : List T) → n ≤ length list
    → ((place : ℕ) (other : T) → place < n → test (get_or list place other) ≡ true) → ((place : ℕ) (other : T)
    → n ≤ place → place < length list → test (get_or list place other) ≡ false) → count_by test list ≡ n
count_by-at test n [] few before after = omega arith
count_by-at test zero (x ∷ xs) few before after =
    let here : test x ≡ false = after 0 x (omega arith) (omega arith) in
    let rest = count_by-at test 0 xs (omega arith) (λ place other lt. absurd (omega arith))
    (λ place other le lt. after (suc place) other (omega arith) (omega arith)) in
    sum_by-cons (λ y. cond (test y) 1 0) x xs ∙ rw here (omega (arith, rest))
count_by-at test (suc n) (x ∷ xs) few before after =
    let here : test x ≡ true = before 0 x (omega arith) in
    let rest = count_by-at test n xs (omega arith) (λ place other lt. before (suc place) other (omega arith))
    (λ place other le lt. after (suc place) other (omega arith) (omega arith)) in
    sum_by-cons (λ y. cond (test y) 1 0) x xs ∙ rw here (omega (arith, rest))

-- if the element at a place passes, so do those before it
pub passes_before : {T : Type 0} (test : T → Bool) (list : List T) (middle : ℕ) (element : T) (passed : Bool)
    → IsPartitionedBy test list → IsElement list middle element → middle < length list → passed ≡ test element
    → passed ≡ true → (place : ℕ) (other : T) → place < middle + 1 → test (get_or list place other) ≡ true
passes_before test list middle element passed parted here within tells passes place other before =
    parted place middle other (omega arith) within (ap test (sym (here other)) ∙ sym tells ∙ passes)

fails_or : (b : Bool) → (b ≡ true → ⊥) → b ≡ false
fails_or true h = absurd (h refl)
fails_or false h = refl

-- if it fails, so do those after it
pub fails_after : {T : Type 0} (test : T → Bool) (list : List T) (middle : ℕ) (element : T) (passed : Bool)
    → IsPartitionedBy test list → IsElement list middle element → passed ≡ test element → passed ≡ false → (place : ℕ)
    (other : T) → middle ≤ place → place < length list → test (get_or list place other) ≡ false
fails_after test list middle element passed parted here tells fails place other from within =
    fails_or (test (get_or list place other)) (λ passes.
    let also = parted middle place other from within passes in
    let same = ap test (here other) in
    cc)
