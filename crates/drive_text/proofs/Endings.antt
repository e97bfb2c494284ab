-- The CR at a line's end, comments, and lines that are too long.
use Rattle.std.{specs.Str.Lines.{strip_carriage_return}, proofs.lemmas.List.{length-take-le}}
use Rattle.std.proofs.Common.{[], ℕ, ◌&&◌, ◌++◌, ◌+◌, ◌-◌, ◌<◌, ◌∙◌, ◌∷◌, ◌≡◌, ◌≤◌, Bool, List, None, Some, ap, arith}
use Rattle.std.proofs.Common.{cond, eqb, false, get_or, length, length-append, ltb, not, refl, suc, take, true}
use Rattle.std.proofs.{Math.Seq.{get_or-append_seam, take-append_seam}, lemmas.Bool.{eqb-true, lt-ltb, ltb-true}}
use Rattle.drive_text.specs.{Fields.{line_runs, text_runs}, Lines.{is_comment, is_too_long}}

-- a CR at the end is no part of the line
pub strip-snoc : (t : List ℕ) (c : ℕ) → strip_carriage_return (t ++ c ∷ []) ≡ cond (eqb c 13) t (t ++ c ∷ [])
strip-snoc t c =
    let last : length (t ++ c ∷ []) - 1 ≡ length t = omega (arith, length-append t (c ∷ [])) in
    rw (last, get_or-append_seam t c [] 0, take-append_seam t (c ∷ [])) refl

length_by : (cr : Bool) (t : List ℕ) (c : ℕ) → length (cond cr t (t ++ c ∷ [])) ≡ cond cr (length t) (length t + 1)
length_by true t c = refl
length_by false t c = length-append t (c ∷ [])

-- the length without a CR at the end
pub length_with_byte : (t : List ℕ) (c : ℕ)
    → length (strip_carriage_return (t ++ c ∷ [])) ≡ cond (eqb c 13) (length t) (length t + 1)
length_with_byte t c = ap length (strip-snoc t c) ∙ length_by (eqb c 13) t c

strip_le_by : (cr : Bool) (t : List ℕ) → length (cond cr (take (length t - 1) t) t) ≤ length t
strip_le_by true t = omega (arith, length-take-le (length t - 1) t (omega arith))
strip_le_by false t = omega arith

strip_le : (t : List ℕ) → length (strip_carriage_return t) ≤ length t
strip_le t = strip_le_by (eqb (get_or t (length t - 1) 0) 13) t

strip_ge_by : (cr : Bool) (t : List ℕ) → length t ≤ length (cond cr (take (length t - 1) t) t) + 1
strip_ge_by true t = omega (arith, length-take-le (length t - 1) t (omega arith))
strip_ge_by false t = omega arith

grows_by : (cr : Bool) (n : ℕ) → n ≤ cond cr n (n + 1)
grows_by true n = omega arith
grows_by false n = omega arith

-- without a CR at the end a line doesn't get shorter by a byte more
strip_grows : (t : List ℕ) (c : ℕ) → length (strip_carriage_return t) ≤ length (strip_carriage_return (t ++ c ∷ []))
strip_grows t c = rw (length_with_byte t c) (omega (arith, strip_le t, grows_by (eqb c 13) (length t)))

comment_by : (cr : Bool) (x y : ℕ) (ys : List ℕ)
    → is_comment (cond cr (take (length (x ∷ y ∷ ys) - 1) (x ∷ y ∷ ys)) (x ∷ y ∷ ys)) ≡ eqb x 35
comment_by true x y ys =
    let front : length (x ∷ y ∷ ys) - 1 ≡ suc (length ys) = omega arith in
    rw front refl
comment_by false x y ys = refl

one_by : (cr : Bool) (x : ℕ) → eqb x 13 ≡ cr → is_comment (cond cr [] (x ∷ [])) ≡ eqb x 35
one_by true x e =
    let cr : x ≡ 13 = eqb-true x 13 e in
    rw cr refl
one_by false x e = refl

-- the CR doesn't decide whether a line is a comment
comment-strip : (t : List ℕ) → is_comment (strip_carriage_return t) ≡ is_comment t
comment-strip [] = refl
comment-strip (x ∷ []) = one_by (eqb x 13) x refl
comment-strip (x ∷ y ∷ ys) = comment_by (eqb (get_or (x ∷ y ∷ ys) (length (x ∷ y ∷ ys) - 1) 0) 13) x y ys

-- more bytes leave a comment a comment
pub comment-append : (t u : List ℕ) → 0 < length t → is_comment (t ++ u) ≡ is_comment t
comment-append [] u some = absurd (omega arith)
comment-append (x ∷ xs) u some = refl

-- a comment is never empty
pub comment_some : (t : List ℕ) → is_comment t ≡ true → 0 < length t
comment_some [] e = cc
comment_some (x ∷ xs) e = omega arith

text_comment : (l : List ℕ) → is_comment l ≡ true → text_runs l ≡ Some []
unfolding text_runs
text_comment [] e = refl
text_comment (x ∷ xs) e = rw e refl

-- a comment has no runs
pub line_runs-comment : (t : List ℕ) → is_comment t ≡ true → line_runs t ≡ Some []
line_runs-comment t e = text_comment (strip_carriage_return t) (comment-strip t ∙ e)

text_long : (l : List ℕ) → is_comment l ≡ false → ltb 80 (length l) ≡ true → text_runs l ≡ None
unfolding text_runs
text_long [] e long = cc
text_long (x ∷ xs) e long = rw (e, long) refl

both_by : (long comment : Bool) → (long && not comment) ≡ true → (long ≡ true) × (comment ≡ false)
both_by true false e = (refl, refl)
both_by true true e = absurd (cc)
both_by false comment e = absurd (cc)

-- what is too long
pub long_is : (t : List ℕ) → is_too_long t ≡ true
    → (ltb 80 (length (strip_carriage_return t)) ≡ true) × (is_comment t ≡ false)
long_is t e = both_by (ltb 80 (length (strip_carriage_return t))) (is_comment t) e

-- a line that is too long is no line of a drive
pub line_runs-long : (t : List ℕ) → is_too_long t ≡ true → line_runs t ≡ None
line_runs-long t e = text_long (strip_carriage_return t) (comment-strip t ∙ (long_is t e).1) (long_is t e).0

-- a comment isn't too long
pub comment_fits : (t : List ℕ) → is_comment t ≡ true → is_too_long t ≡ false
comment_fits t e = rw e (by (ltb 80 (length (strip_carriage_return t))))
  where
    by : (long : Bool) → (long && false) ≡ false
    by true = refl
    by false = refl

-- and what has more is too long if it is no comment
pub long_fails : (t : List ℕ) → 80 < length (strip_carriage_return t) → is_comment t ≡ false → is_too_long t ≡ true
long_fails t many plain = rw (lt-ltb 80 (length (strip_carriage_return t)) many, plain) refl

-- a line that is too long stays so
pub too_long-append : (t : List ℕ) (c : ℕ) → is_too_long t ≡ true → is_too_long (t ++ c ∷ []) ≡ true
too_long-append t c e =
    let long : 80 < length (strip_carriage_return t) = ltb-true 80 (length (strip_carriage_return t)) (long_is t e).0 in
    long_fails (t ++ c ∷ []) (omega (arith, strip_grows t c, long))
    (comment-append t (c ∷ []) (omega (arith, strip_le t, long)) ∙ (long_is t e).1)

-- with more than 81 bytes there are more than 80 before a CR
pub many_fail : (t : List ℕ) → 81 < length t → is_comment t ≡ false → is_too_long t ≡ true
many_fail t many plain = long_fails t (omega (arith, many, strip_ge_by (eqb (get_or t (length t - 1) 0) 13) t)) plain

-- by the test
pub long_by_test : (t : List ℕ) → ltb 80 (length (strip_carriage_return t)) ≡ true → is_comment t ≡ false
    → is_too_long t ≡ true
long_by_test t long plain = rw (long, plain) refl

pub short_by_test : (t : List ℕ) → ltb 80 (length (strip_carriage_return t)) ≡ false → is_too_long t ≡ false
short_by_test t short = rw short refl

-- if bytes begin a comment, nothing stood before them
pub nothing_before : (t p : List ℕ) → is_comment t ≡ false → is_comment (t ++ p) ≡ true → t ≡ []
nothing_before [] p plain e = refl
nothing_before (x ∷ xs) p plain e = absurd (cc)
