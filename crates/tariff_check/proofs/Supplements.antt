-- Supplements outside the numbers that a text can have, and what holds of each holds of the one of a number.
use Rattle.std.specs.{List.{cons_option, find}, Option.{option_map}}
use Rattle.std.proofs.Common.{[], ℕ, ◌==◌, ◌∷◌, ◌≡◌, All, Bool, List, None, Option, Some, arith, cond, false, refl}
use Rattle.std.proofs.{Common.{subst, true}, lemmas.{Bool.{ne_eqb}, List.Elements.{All-head, All-tail}}}
use Rattle.tariff_check.specs.Common.{Entry, IsFromTo, IsWritable, IsWritableEntry, Line, Supplement, Tree, supplement}
use Rattle.tariff_check.specs.Parts.{numbered_supplement, parts, supplement_numbered, supplement_of}
use Rattle.tariff_tree.specs.Part as part

none_more : (n : ℕ) (entry : Entry) (rest : List (ℕ × Supplement)) → (IsFromTo 1 16 n → ⊥) → IsWritableEntry entry
    → supplement_numbered rest n ≡ None
    → supplement_numbered (cons_option (numbered_supplement entry) rest) n ≡ None
none_more n (supplement number amount most) rest out writable h =
    let range : IsFromTo 1 16 number = writable 0 part.comma (omega arith) in
    let other : n == number ≡ false = ne_eqb n number (λ same. out (rw same range)) in
    rw other h
none_more n entry rest out writable h = h

none_numbered : (n : ℕ) (lines : List Line) → (IsFromTo 1 16 n → ⊥) → All (λ (l : Line). IsWritableEntry l.entry) lines
    → supplement_of lines n ≡ None
none_numbered n [] out writable = refl
none_numbered n (l ∷ ls) out writable =
    let P = λ (l : Line). IsWritableEntry l.entry in
    none_more n l.entry (parts numbered_supplement ls) out (All-head P l ls writable)
    (none_numbered n ls out (All-tail P l ls writable))

-- a tariff has no supplement of another number than 1 to 16
pub none_of_other_numbers : (t : Tree) (n : ℕ) → IsWritable t → (IsFromTo 1 16 n → ⊥) → supplement_of t.lines n ≡ None
none_of_other_numbers t n writable out = none_numbered n t.lines out writable.lines

has_by : (P : Supplement → Type 0) (b : Bool) (said : ℕ × Supplement) (found : Option (ℕ × Supplement)) (s : Supplement)
    → P said.1 → (option_map (λ (x : ℕ × Supplement). x.1) found ≡ Some s → P s)
    → option_map (λ (x : ℕ × Supplement). x.1) (cond b (Some said) found) ≡ Some s → P s
has_by P true said found s here there e = let same : said.1 ≡ s = cc in subst P same here
has_by P false said found s here there e = there e

-- what holds of each supplement holds of the one of a number
pub numbered_has : (P : Supplement → Type 0) (all : List (ℕ × Supplement)) (n : ℕ) (s : Supplement)
    → All (λ (x : ℕ × Supplement). P x.1) all → supplement_numbered all n ≡ Some s → P s
numbered_has P [] n s each e = absurd cc
numbered_has P (said ∷ rest) n s each e =
    let Each = λ (x : ℕ × Supplement). P x.1 in
    has_by P (n == said.0) said (find (λ (x : ℕ × Supplement). n == x.0) rest) s (All-head Each said rest each)
    (λ more. numbered_has P rest n s (All-tail Each said rest each) more) e
