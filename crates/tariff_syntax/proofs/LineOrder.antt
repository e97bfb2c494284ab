-- The lines of a text, one after another.
use Rattle.std.proofs.Common.{[], ℕ, ◌+◌, ◌<◌, ◌==◌, ◌∷◌, ◌≡◌, Bool, List, arith, drop, false, length, length-drop}
use Rattle.{std.proofs.Common.{refl, suc, take, true}, tariff_syntax.specs.TextLines.{in_front, is_inner, lines_of}}
use Rattle.tariff_syntax.specs.TokenReading.{run_end}

joined_by : (c n : ℕ) (cs : List ℕ) → lines_of cs ≡ take n cs ∷ lines_of (drop 1 (drop n cs))
    → in_front c (lines_of cs) ≡ take (1 + n) (c ∷ cs) ∷ lines_of (drop 1 (drop (1 + n) (c ∷ cs)))
joined_by c n cs h =
    let one : 1 + n ≡ suc n = omega arith in
    rw (h, one) refl

cut_by : (b : Bool) (c : ℕ) (cs : List ℕ) → (c == 10) ≡ b → ((d : ℕ) (ds : List ℕ) → cs ≡ d ∷ ds → lines_of cs
    ≡ take (run_end is_inner cs) cs ∷ lines_of (drop 1 (drop (run_end is_inner cs) cs))) → lines_of (c ∷ cs)
    ≡ take (run_end is_inner (c ∷ cs)) (c ∷ cs) ∷ lines_of (drop 1 (drop (run_end is_inner (c ∷ cs)) (c ∷ cs)))
cut_by true c cs e some = rw e refl
cut_by false c [] e some = rw e refl
cut_by false c (d ∷ ds) e some = rw e (joined_by c (run_end is_inner (d ∷ ds)) (d ∷ ds) (some d ds refl))

lines_cut : (c : ℕ) (cs : List ℕ) → lines_of (c ∷ cs)
    ≡ take (run_end is_inner (c ∷ cs)) (c ∷ cs) ∷ lines_of (drop 1 (drop (run_end is_inner (c ∷ cs)) (c ∷ cs)))
lines_cut c [] = cut_by (c == 10) c [] refl (λ d ds e. absurd cc)
lines_cut c (d ∷ ds) = cut_by (c == 10) c (d ∷ ds) refl (λ x xs e. lines_cut d ds)

-- the first line of a text, and those of what stands after it
pub lines_at : (text : List ℕ) → 0 < length text
    → lines_of text ≡ take (run_end is_inner text) text ∷ lines_of (drop 1 (drop (run_end is_inner text) text))
lines_at [] h = absurd (omega arith)
lines_at (c ∷ cs) h = lines_cut c cs

-- less stands after it
pub shorter : (n : ℕ) (text : List ℕ) → 0 < length text → length (drop 1 (drop n text)) < length text
shorter n text some = omega (arith, length-drop 1 (drop n text), length-drop n text)

pub first_line_is : (text line rest below : List ℕ) (n : ℕ) → 0 < length text → n ≡ run_end is_inner text
    → line ≡ take n text → rest ≡ drop n text → below ≡ drop 1 rest
    → (lines_of text ≡ line ∷ lines_of below) × (length below < length text)
first_line_is text line rest below n some count front back after =
    let at = lines_at text some in
    let less = shorter n text some in
    (rw (after, back, front, count) at, rw (after, back) less)
