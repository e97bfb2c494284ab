-- The cells block by block, and the contexts of a block.
use Rattle.std.specs.List.{range_with_len, slice_get}
use Rattle.std.proofs.Common.{[], ℕ, ◌++◌, ◌+◌, ◌<◌, ◌∙◌, ◌∷◌, ◌≡◌, List, Some, ap, arith, get_or, length, map, refl}
use Rattle.std.proofs.{Common.{suc, sym, take, zero}, lemmas.{List.{map-append, take_more}, Option.{slice_get-get_or}}}

-- the element at a place
pub at_place : {X : Type 0} (xs : List X) (place : ℕ) → place < length xs
    → (x : X) × (slice_get xs place ≡ Some x) × (take (place + 1) xs ≡ take place xs ++ x ∷ [])
at_place [] place within = absurd (omega (arith, within))
at_place (d ∷ xs) place within =
    (get_or (d ∷ xs) place d, slice_get-get_or (d ∷ xs) place d within, take_more (d ∷ xs) place d within)

-- numbers that go on
range_joined : (a b n m : ℕ) → b ≡ a + n → range_with_len a n ++ range_with_len b m ≡ range_with_len a (n + m)
range_joined a b zero m next =
    let start : b ≡ a = omega (arith, next) in
    let count : m ≡ 0 + m = omega arith in
    ap (λ (k : ℕ). range_with_len k m) start ∙ ap (range_with_len a) count
range_joined a b (suc n) m next =
    let count : suc (n + m) ≡ suc n + m = omega arith in
    ap (λ (ks : List ℕ). a ∷ ks) (range_joined (a + 1) b n m (omega (arith, next))) ∙ ap (range_with_len a) count

map_twice : {X Y : Type 0} (f : ℕ → X) (g : X → Y) (ks : List ℕ) → map g (map f ks) ≡ map (λ (k : ℕ). g (f k)) ks
map_twice f g [] = refl
map_twice f g (k ∷ ks) = ap (λ ys. g (f k) ∷ ys) (map_twice f g ks)

-- a block more
pub block_more : {X Y : Type 0} (f : ℕ → X) (g : X → Y) (first n : ℕ) → map (λ (k : ℕ). g (f k)) (range_with_len 0
    first) ++ map g (map f (range_with_len first n)) ≡ map (λ (k : ℕ). g (f k)) (range_with_len 0 (first + n))
block_more f g first n =
    ap (λ ys. map (λ (k : ℕ). g (f k)) (range_with_len 0 first) ++ ys) (map_twice f g (range_with_len first n))
    ∙ (sym (map-append (λ (k : ℕ). g (f k)) (range_with_len 0 first) (range_with_len first n))
    ∙ ap (map (λ (k : ℕ). g (f k))) (range_joined 0 first first n (omega arith)))
