-- The tokens of a line, one after another.
use Rattle.{std.specs.Char.{is_ascii_digit}, tariff_syntax.specs.TokenReading.{tokens_of, tokens_within}}
use Rattle.std.proofs.Common.{[], ℕ, ◌&&◌, ◌<◌, ◌==◌, ◌∷◌, ◌≡◌, ◌≤◌, Bool, List, MatchOption, None, Option, Some, ap}
use Rattle.std.proofs.Common.{arith, cond, drop, false, length, length-drop, refl, suc, sym, true, zero}
use Rattle.tariff_syntax.specs.{Common.{Gives}, Token.{Token, figure, goes_on, is_blank, is_letter, sign, word}}
use Rattle.tariff_syntax.specs.TokenReading.{cut_token, run_end, sign_end, token_at, token_before, token_here}

two_or_one : (b : Bool) → 0 < cond b 2 1
two_or_one true = omega arith
two_or_one false = omega arith

sign_some : (c : ℕ) (cs : List ℕ) → 0 < sign_end c cs
sign_some c [] = omega arith
sign_some c (d ∷ ds) = two_or_one ((c == 46) && (d == 46))

run_some : (test : ℕ → List ℕ → Bool) (c : ℕ) (cs : List ℕ) → test c cs ≡ true → 0 < run_end test (c ∷ cs)
run_some test c cs e = rw e (omega arith)

digit_goes_on : (b : Bool) (c : ℕ) (cs : List ℕ) → is_ascii_digit c ≡ b → b ≡ true → goes_on c cs ≡ true
digit_goes_on b c cs e h = rw (e, h) refl

-- a token that is cut has bytes, so less stands after it
cut_shorter : (kind : List ℕ → Token) (c : ℕ) (cs : List ℕ) (end : ℕ) (x : Token × List ℕ) → 0 < end
    → Some (cut_token kind (c ∷ cs) end) ≡ Some x → length x.1 < length (c ∷ cs)
cut_shorter kind c cs end x some e =
    let after : drop end (c ∷ cs) ≡ x.1 = cc in
    omega (arith, length-drop end (c ∷ cs), ap length after)

shorter_by : (comment letter digit : Bool) (c : ℕ) (cs : List ℕ) (x : Token × List ℕ) → is_letter c cs ≡ letter
    → is_ascii_digit c ≡ digit
    → cond comment None (cond letter (Some (cut_token word (c ∷ cs) (run_end is_letter (c ∷ cs)))) (cond digit
    (Some (cut_token figure (c ∷ cs) (run_end goes_on (c ∷ cs)))) (Some (cut_token sign (c ∷ cs) (sign_end c cs)))))
    ≡ Some x → length x.1 < length (c ∷ cs)
shorter_by true letter digit c cs x l d e = absurd cc
shorter_by false true digit c cs x l d e =
    cut_shorter word c cs (run_end is_letter (c ∷ cs)) x (run_some is_letter c cs l) e
shorter_by false false true c cs x l d e =
    cut_shorter figure c cs (run_end goes_on (c ∷ cs)) x (run_some goes_on c cs (digit_goes_on true c cs d refl)) e
shorter_by false false false c cs x l d e = cut_shorter sign c cs (sign_end c cs) x (sign_some c cs) e

here_shorter : (text : List ℕ) (x : Token × List ℕ) → token_here text ≡ Some x → length x.1 < length text
here_shorter [] x e = absurd cc
here_shorter (c ∷ cs) x e = shorter_by (c == 35) (is_letter c cs) (is_ascii_digit c) c cs x refl refl e

-- less stands after the first token
pub token_shorter : (text : List ℕ) (x : Token × List ℕ) → token_at text ≡ Some x → length x.1 < length text
unfolding token_at
token_shorter text x e =
    omega (arith, here_shorter (drop (run_end is_blank text) text) x e, length-drop (run_end is_blank text) text)

empty : (text : List ℕ) → length text ≤ 0 → text ≡ []
empty [] h = refl
empty (c ∷ cs) h = absurd (omega arith)

no_token : token_at [] ≡ None
unfolding token_at
no_token = refl

none_within : (n : ℕ) → tokens_within n [] ≡ []
unfolding tokens_within
none_within zero = refl
none_within (suc n) = rw no_token refl

-- the number of tokens that are looked for is no matter, if it is enough
same_before : (n m : ℕ) (first : Option (Token × List ℕ)) → ((x : Token × List ℕ) → first ≡ Some x → tokens_within n x.1
    ≡ tokens_within m x.1) → token_before (tokens_within n) first ≡ token_before (tokens_within m) first
same_before n m None h = refl
same_before n m (Some x) h = ap (λ (ts : List Token). x.0 ∷ ts) (h x refl)

same_within : (n m : ℕ) (text : List ℕ) → length text ≤ n → length text ≤ m
    → tokens_within n text ≡ tokens_within m text
unfolding tokens_within
same_within zero m text a b = rw (empty text a, none_within m) (none_within zero)
same_within (suc n) zero text a b = rw (empty text b, none_within (suc n)) (sym (none_within zero))
same_within (suc n) (suc m) text a b =
    same_before n m (token_at text)
    (λ x e. same_within n m x.1 (omega (arith, token_shorter text x e)) (omega (arith, token_shorter text x e)))

none_at : (n : ℕ) (text : List ℕ) → token_at text ≡ None → tokens_within n text ≡ []
unfolding tokens_within
none_at zero text e = refl
none_at (suc n) text e = rw e refl

some_at : (n : ℕ) (text : List ℕ) (x : Token × List ℕ) → token_at text ≡ Some x → length text ≤ suc n
    → tokens_within (suc n) text ≡ x.0 ∷ tokens_of x.1
unfolding tokens_within tokens_of
some_at n text x e h =
    rw e (ap (λ (ts : List Token). x.0 ∷ ts)
    (same_within n (length x.1) x.1 (omega (arith, token_shorter text x e)) (omega arith)))

-- a line without a first token has none
pub tokens_of-none : (text : List ℕ) → token_at text ≡ None → tokens_of text ≡ []
unfolding tokens_of
tokens_of-none text e = none_at (length text) text e

tokens_some : (text : List ℕ) (n : ℕ) (x : Token × List ℕ) → length text ≡ n → token_at text ≡ Some x
    → tokens_within n text ≡ x.0 ∷ tokens_of x.1
tokens_some text zero x l e = absurd (omega (arith, token_shorter text x e))
tokens_some text (suc n) x l e = some_at n text x e (omega arith)

-- the tokens of a line are the first and those of what stands after it
pub tokens_of-some : (text : List ℕ) (x : Token × List ℕ) → token_at text ≡ Some x
    → tokens_of text ≡ x.0 ∷ tokens_of x.1
unfolding tokens_of
tokens_of-some text x e = tokens_some text (length text) x refl e

-- what a reader of the first token found
abbrev pub Begins : {X : Type 0} → (X → Token × List ℕ) → List ℕ → Option X → Type 0
Begins view text found = MatchOption found (tokens_of text ≡ [])
    (λ x. (tokens_of text ≡ (view x).0 ∷ tokens_of (view x).1) × (length (view x).1 < length text))

pub first_is : {X : Type 0} (view : X → Token × List ℕ) (text : List ℕ) (found : Option X)
    → Gives view found (token_at text) → Begins view text found
first_is view text None e = tokens_of-none text e
first_is view text (Some x) e = (tokens_of-some text (view x) e, token_shorter text (view x) e)
