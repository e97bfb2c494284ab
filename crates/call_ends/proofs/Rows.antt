-- The rows of tables that are printed, one after the other.
use Rattle.std.{specs.List.{flat_map, range_with_len}, proofs.{Common.{zero}, lemmas.List.Concat.{flat_map-append}}}
use Rattle.std.proofs.Common.{[], ℕ, ◌++◌, ◌+◌, ◌-◌, ◌<◌, ◌∙◌, ◌∷◌, ◌≡◌, List, ap, append_assoc, arith, subst, suc, sym}
use Rattle.{std.proofs.lemmas.List.{append-nil}, outside.proofs.Laws.{begins_after, begins_more}}
use Rattle.call_ends.specs.Common.{Begins}

range-more : (a n last : ℕ) → a + n ≡ last → range_with_len a (suc n) ≡ range_with_len a n ++ last ∷ []
range-more a zero last e = ap (λ (m : ℕ). m ∷ []) (omega (arith, e))
range-more a (suc n) last e = ap (λ (ms : List ℕ). a ∷ ms) (range-more (a + 1) n last (omega (arith, e)))

-- one row more
pub rows-more : (row : ℕ → List ℕ) (i : ℕ)
    → flat_map row (range_with_len 0 (i + 1)) ≡ flat_map row (range_with_len 0 i) ++ row i
rows-more row i =
    let next : i + 1 ≡ suc i = omega arith in
    ap (λ (n : ℕ). flat_map row (range_with_len 0 n)) next
    ∙ ap (flat_map row) (range-more 0 i i (omega arith))
    ∙ flat_map-append row (range_with_len 0 i) (i ∷ [])
    ∙ ap (λ (t : List ℕ). flat_map row (range_with_len 0 i) ++ t) (append-nil (row i))

-- behind the first rows that were printed a row was printed
pub printed-row : (row : ℕ → List ℕ) (i : ℕ) (a b c text : List ℕ) → text ≡ row i
    → b ≡ a ++ flat_map row (range_with_len 0 i) → c ≡ b ++ text → c ≡ a ++ flat_map row (range_with_len 0 (i + 1))
printed-row row i a b c text e so_far whole =
    whole ∙ ap (λ (t : List ℕ). b ++ t) e ∙ ap (λ (t : List ℕ). t ++ row i) so_far
    ∙ append_assoc a (flat_map row (range_with_len 0 i)) (row i) ∙ ap (λ (t : List ℕ). a ++ t) (sym (rows-more row i))

-- the first rows, and those that are left
pub rows-split : (row : ℕ → List ℕ) (i d : ℕ)
    → (rest : List ℕ) × (flat_map row (range_with_len 0 (i + d)) ≡ flat_map row (range_with_len 0 i) ++ rest)
rows-split row i zero = (
  [],
  ap (λ (n : ℕ). flat_map row (range_with_len 0 n)) (omega arith)
      ∙ sym (append-nil (flat_map row (range_with_len 0 i))),
)
rows-split row i (suc d) =
    let before = rows-split row i d in
    let next : i + suc d ≡ i + d + 1 = omega arith in (
      before.0 ++ row (i + d),
      ap (λ (n : ℕ). flat_map row (range_with_len 0 n)) next
          ∙ rows-more row (i + d)
          ∙ ap (λ (t : List ℕ). t ++ row (i + d)) before.1
          ∙ append_assoc (flat_map row (range_with_len 0 i)) before.0 (row (i + d)),
    )

-- a beginning of a row at its place begins all rows
pub begins-row : (row : ℕ → List ℕ) (n i : ℕ) (a b c text : List ℕ) → i < n → text ≡ row i
    → b ≡ a ++ flat_map row (range_with_len 0 i) → Begins b c text → Begins a c (flat_map row (range_with_len 0 n))
begins-row row n i a b c text h e so_far begun =
    let rest = rows-split row (i + 1) (n - (i + 1)) in
    let all : i + 1 + (n - (i + 1)) ≡ n = omega (arith, h) in
    let front = flat_map row (range_with_len 0 i) in
    let one : Begins a c (front ++ row i) =
    begins_after a b c front (row i) so_far (subst (λ (t : List ℕ). Begins b c t) e begun) in
    let more : Begins a c (flat_map row (range_with_len 0 (i + 1)) ++ rest.0) = begins_more a c (flat_map row
    (range_with_len 0 (i + 1))) rest.0 (subst (λ (t : List ℕ). Begins a c t) (sym (rows-more row i)) one) in
    subst (λ (m : ℕ). Begins a c (flat_map row (range_with_len 0 m))) all
    (subst (λ (t : List ℕ). Begins a c t) (sym rest.1) more)
