-- Rows of values, one after another.
use Rattle.std.proofs.Common.{[], ℕ, ◌*◌, ◌++◌, ◌+◌, ◌∙◌, ◌∷◌, ◌≡◌, List, ap, arith, length, mul-suc, refl, suc, zero}
use Rattle.slot_bodies.specs.Codec.{Codec, read_row}

-- a row that is read has as many values as were asked for
pub length-read_row : {A : Type 0} (codec : Codec A) (n : ℕ) (bytes : List ℕ) (place : ℕ)
    → length (read_row codec n bytes place) ≡ n
length-read_row codec zero bytes place = refl
length-read_row codec (suc n) bytes place = ap suc (length-read_row codec n bytes (place + codec.size))

-- a row of one more value ends with the one that stands behind the others
pub one_more : {A : Type 0} (codec : Codec A) (n : ℕ) (bytes : List ℕ) (place : ℕ)
    → read_row codec (n + 1) bytes place
    ≡ read_row codec n bytes place ++ codec.read bytes (place + codec.size * n) ∷ []
one_more codec zero bytes place =
    let here : place ≡ place + codec.size * zero = omega arith in
    ap (λ (p : ℕ). codec.read bytes p ∷ []) here
one_more codec (suc n) bytes place =
    let more : suc n + 1 ≡ suc (n + 1) = omega arith in
    let there : place + codec.size + codec.size * n ≡ place + codec.size * suc n =
    omega (arith, mul-suc codec.size n) in
    ap (λ (k : ℕ). read_row codec k bytes place) more
    ∙ ap (λ (l : List _). codec.read bytes place ∷ l) (one_more codec n bytes (place + codec.size))
    ∙ ap (λ (p : ℕ). codec.read bytes place ∷ (read_row codec n bytes (place + codec.size) ++ codec.read bytes p ∷ []))
    there
