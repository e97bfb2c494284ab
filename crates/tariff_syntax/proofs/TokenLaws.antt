-- The tokens of a line are those that stand in it.
use Rattle.std.{specs.Char.{is_ascii_digit}, proofs.lemmas.{Bool.Decides.{nat_tests}, List.{take-append-drop}}}
use Rattle.{std.specs.Prelude.{⊤}, tariff_syntax.proofs.TokenOrder.{token_shorter, tokens_of-none, tokens_of-some}}
use Rattle.std.proofs.Common.{[], ℕ, ◌&&◌, ◌++◌, ◌+◌, ◌<◌, ◌==◌, ◌∙◌, ◌∷◌, ◌≡◌, ◌≤◌, Bool, List, None, Option, Some, ap}
use Rattle.std.proofs.Common.{arith, cond, drop, false, length, refl, subst, suc, sym, take, true, zero}
use Rattle.std.proofs.{Math.Seq.{drop-append_seam, take-append_seam}, lemmas.Bool.{and_parts, eqb-true}}
use Rattle.tariff_syntax.specs.Spelled.{IsEnd, IsRun, IsSign, IsSpelled, IsToken, NoDots, text_of}
use Rattle.tariff_syntax.specs.Token.{Token, begins_with_digit, figure, goes_on, is_blank, is_letter, sign, word}
use Rattle.tariff_syntax.specs.TokenReading.{cut_token, run_end, sign_end, token_at, token_here, tokens_of}

-- a run is as long as it goes on
pub run_of : (test : ℕ → List ℕ → Bool) (text rest : List ℕ) → IsRun test text rest
    → run_end test (text ++ rest) ≡ length text
run_of test [] [] h = refl
run_of test [] (c ∷ rest) h = rw h refl
run_of test (c ∷ text) rest h = rw h.0 (omega (arith, run_of test text rest h.1))

run_by : (b : Bool) (test : ℕ → List ℕ → Bool) (c : ℕ) (cs : List ℕ) → test c cs ≡ b
    → IsRun test (take (run_end test cs) cs) (drop (run_end test cs) cs)
    → IsRun test (take (cond b (1 + run_end test cs) 0) (c ∷ cs)) (drop (cond b (1 + run_end test cs) 0) (c ∷ cs))
run_by true test c cs e h =
    let n = run_end test cs in
    let one : 1 + n ≡ suc n = omega arith in
    rw one (rw (take-append-drop n cs) e, h)
run_by false test c cs e h = e

-- what goes on is a run
pub run_is : (test : ℕ → List ℕ → Bool) (text : List ℕ)
    → IsRun test (take (run_end test text) text) (drop (run_end test text) text)
run_is test [] = tt
run_is test (c ∷ cs) = run_by (test c cs) test c cs refl (run_is test cs)

-- what the first token of a text without blanks in front is
abbrev StandsHere : List ℕ → Option (Token × List ℕ) → Type 0
StandsHere text None = IsEnd text
StandsHere text (Some x) = (text ≡ text_of x.0 ++ x.1) × IsToken x.0 x.1

-- the test fails at the front
abbrev Stops : (ℕ → List ℕ → Bool) → List ℕ → Type 0
Stops test [] = ⊤
Stops test (c ∷ cs) = test c cs ≡ false

run_stops : (test : ℕ → List ℕ → Bool) (text rest : List ℕ) → IsRun test text rest → Stops test rest
run_stops test [] [] h = tt
run_stops test [] (c ∷ rest) h = h
run_stops test (c ∷ text) rest h = run_stops test text rest h.1

run_some : (test : ℕ → List ℕ → Bool) (c : ℕ) (cs : List ℕ) → test c cs ≡ true → 0 < run_end test (c ∷ cs)
run_some test c cs e = rw e (omega arith)

take_some : (n c : ℕ) (cs : List ℕ) → 0 < n → 0 < length (take n (c ∷ cs))
take_some zero c cs h = absurd (omega arith)
take_some (suc n) c cs h = omega arith

take_digit : (n c : ℕ) (cs : List ℕ) → 0 < n → is_ascii_digit c ≡ true → begins_with_digit (take n (c ∷ cs)) ≡ true
take_digit zero c cs h e = absurd (omega arith)
take_digit (suc n) c cs h e = e

digit_goes_on : (c : ℕ) (cs : List ℕ) → is_ascii_digit c ≡ true → goes_on c cs ≡ true
digit_goes_on c cs e = rw e refl

sign_by : (b : Bool) (c d : ℕ) (ds : List ℕ) → (c == 46 && d == 46) ≡ b → is_blank c (d ∷ ds) ≡ false
    → (c == 35) ≡ false → is_letter c (d ∷ ds) ≡ false → is_ascii_digit c ≡ false
    → IsSign (take (cond b 2 1) (c ∷ d ∷ ds)) (drop (cond b 2 1) (c ∷ d ∷ ds))
sign_by true c d ds e blank comment letter digit = let parts = and_parts _ _ e in
    (eqb-true c 46 parts.0, eqb-true d 46 parts.1)
sign_by false c d ds e blank comment letter digit = (blank, comment, letter, digit, e)

sign_is : (c : ℕ) (cs : List ℕ) → is_blank c cs ≡ false → (c == 35) ≡ false → is_letter c cs ≡ false
    → is_ascii_digit c ≡ false → IsSign (take (sign_end c cs) (c ∷ cs)) (drop (sign_end c cs) (c ∷ cs))
sign_is c [] blank comment letter digit = (blank, comment, letter, digit, tt)
sign_is c (d ∷ ds) blank comment letter digit = sign_by (c == 46 && d == 46) c d ds refl blank comment letter digit

here_by : (comment letter digit : Bool) (c : ℕ) (cs : List ℕ) → (c == 35) ≡ comment → is_letter c cs ≡ letter
    → is_ascii_digit c ≡ digit → is_blank c cs ≡ false → StandsHere (c ∷ cs)
    (cond comment None (cond letter (Some (cut_token word (c ∷ cs) (run_end is_letter (c ∷ cs)))) (cond digit
    (Some (cut_token figure (c ∷ cs) (run_end goes_on (c ∷ cs)))) (Some (cut_token sign (c ∷ cs) (sign_end c cs))))))
here_by true letter digit c cs e l d blank = eqb-true c 35 e
here_by false true digit c cs e l d blank =
    let n = run_end is_letter (c ∷ cs) in
    (sym (take-append-drop n (c ∷ cs)), (take_some n c cs (run_some is_letter c cs l), run_is is_letter (c ∷ cs)))
here_by false false true c cs e l d blank =
    let n = run_end goes_on (c ∷ cs) in (
      sym (take-append-drop n (c ∷ cs)),
      (take_digit n c cs (run_some goes_on c cs (digit_goes_on c cs d)) d, run_is goes_on (c ∷ cs)),
    )
here_by false false false c cs e l d blank = (sym (take-append-drop (sign_end c cs) (c ∷ cs)), sign_is c cs blank e l d)

stands_here : (text : List ℕ) → Stops is_blank text → StandsHere text (token_here text)
stands_here [] h = tt
stands_here (c ∷ cs) h = here_by (c == 35) (is_letter c cs) (is_ascii_digit c) c cs refl refl refl h

-- what the first token of a text is
abbrev Stands : List ℕ → Option (Token × List ℕ) → Type 0
Stands text found =
    (blanks : List ℕ) × (rest : List ℕ) × (text ≡ blanks ++ rest) × IsRun is_blank blanks rest × StandsHere rest found

stands : (text : List ℕ) (found : Option (Token × List ℕ)) → token_at text ≡ found → Stands text found
unfolding token_at
stands text found e =
    let n = run_end is_blank text in
    let run = run_is is_blank text in (
      take n text,
      drop n text,
      sym (take-append-drop n text),
      run,
      subst (StandsHere (drop n text)) e
          (stands_here (drop n text) (run_stops is_blank (take n text) (drop n text) run)),
    )

spelled_by : (n : ℕ) (text : List ℕ) (found : Option (Token × List ℕ)) → token_at text ≡ found → length text ≤ n
    → ((rest : List ℕ) → length rest < n → IsSpelled rest (tokens_of rest)) → IsSpelled text (tokens_of text)
spelled_by n text None e h more =
    let at = stands text None e in
    subst (IsSpelled text) (sym (tokens_of-none text e)) (at.0, at.1, at.2, at.3, at.4)
spelled_by n text (Some x) e h more =
    let at = stands text (Some x) e in
    let rest : at.1 ≡ text_of x.0 ++ x.1 = at.4.0 in
    let front : text ≡ at.0 ++ (text_of x.0 ++ x.1) = subst (λ (r : List ℕ). text ≡ at.0 ++ r) rest at.2 in
    let run : IsRun is_blank at.0 (text_of x.0 ++ x.1) = subst (IsRun is_blank at.0) rest at.3 in
    subst (IsSpelled text) (sym (tokens_of-some text x e))
    (at.0, x.1, front, run, at.4.1, more x.1 (omega (arith, token_shorter text x e)))

spelled_within : (n : ℕ) (text : List ℕ) → length text ≤ n → IsSpelled text (tokens_of text)
spelled_within zero text h = spelled_by zero text (token_at text) refl h (λ rest less. absurd (omega arith))
spelled_within (suc n) text h =
    spelled_by (suc n) text (token_at text) refl h (λ rest less. spelled_within n rest (omega arith))

-- the tokens of a line stand in it
pub spelled : (text : List ℕ) → IsSpelled text (tokens_of text)
spelled text = spelled_within (length text) text (omega arith)

letter_is_other : (c : ℕ) (cs : List ℕ) → is_letter c cs ≡ true → (c == 35) ≡ false
letter_is_other c cs e = grind (arith, nat_tests)

digit_is_other : (c : ℕ) → is_ascii_digit c ≡ true → (c == 35) ≡ false
digit_is_other c e = grind (arith, nat_tests)

digit_is_no_letter : (c : ℕ) (cs : List ℕ) → is_ascii_digit c ≡ true → is_letter c cs ≡ false
digit_is_no_letter c cs e = grind (arith, nat_tests)

cut_at : (kind : List ℕ → Token) (text rest : List ℕ) (n : ℕ) → n ≡ length text
    → Some (cut_token kind (text ++ rest) n) ≡ Some (kind text, rest)
cut_at kind text rest n e = rw (e, take-append_seam text rest, drop-append_seam text rest) refl

sign_one : (c : ℕ) (rest : List ℕ) → NoDots c rest → sign_end c rest ≡ 1
sign_one c [] h = refl
sign_one c (d ∷ rest) h = rw h refl

token_stands : (t : Token) (rest : List ℕ) → IsToken t rest → token_here (text_of t ++ rest) ≡ Some (t, rest)
token_stands (word []) rest h = absurd (omega (arith, h.0))
token_stands (word (c ∷ text)) rest h =
    let letter : is_letter c (text ++ rest) ≡ true = h.1.0 in
    rw (letter_is_other c (text ++ rest) letter, letter) (cut_at word (c ∷ text) rest
    (1 + run_end is_letter (text ++ rest)) (omega (arith, run_of is_letter text rest h.1.1)))
token_stands (figure []) rest h = absurd cc
token_stands (figure (c ∷ text)) rest h =
    let digit : is_ascii_digit c ≡ true = h.0 in
    rw (digit_is_other c digit, digit_is_no_letter c (text ++ rest) digit, digit)
    (cut_at figure (c ∷ text) rest (1 + run_end goes_on (text ++ rest)) (omega (arith, run_of goes_on text rest h.1.1)))
token_stands (sign []) rest h = absurd h
token_stands (sign (c ∷ [])) rest h =
    rw (h.1, h.2, h.3) (cut_at sign (c ∷ []) rest (sign_end c rest) (sign_one c rest h.4))
token_stands (sign (c ∷ d ∷ [])) rest h = rw (h.0, h.1) refl
token_stands (sign (c ∷ d ∷ e ∷ text)) rest h = absurd h

blanks_go : (text blanks rest : List ℕ) (found : Option (Token × List ℕ)) → text ≡ blanks ++ rest
    → IsRun is_blank blanks rest → token_here rest ≡ found → token_at text ≡ found
unfolding token_at
blanks_go text blanks rest found e run here =
    rw (e, run_of is_blank blanks rest run, drop-append_seam blanks rest) here

end_stands : (rest : List ℕ) → IsEnd rest → token_here rest ≡ None
end_stands [] h = refl
end_stands (c ∷ rest) h = rw h refl

-- no other tokens stand in it
pub spelled_alone : (text : List ℕ) (ts : List Token) → IsSpelled text ts → tokens_of text ≡ ts
spelled_alone text [] h = tokens_of-none text (blanks_go text h.0 h.1 None h.2 h.3 (end_stands h.1 h.4))
spelled_alone text (t ∷ ts) h =
    let here : token_at text ≡ Some (t, h.1) =
    blanks_go text h.0 (text_of t ++ h.1) (Some (t, h.1)) h.2 h.3 (token_stands t h.1 h.4) in
    tokens_of-some text (t, h.1) here ∙ ap (λ (rest : List Token). t ∷ rest) (spelled_alone h.1 ts h.5)
