-- The lines of a text are what stands between its LFs.
use Rattle.std.{specs.List.{join_with_byte, onto_first, slice_split}, proofs.Common.{flat_map, refl, subst, sym, true}}
use Rattle.std.proofs.Common.{[], ℕ, ◌++◌, ◌↔◌, ◌∙◌, ◌∷◌, ◌≡◌, ◌≢◌, All, Bool, List, ap, append_assoc, cond, eqb, false}
use Rattle.std.proofs.lemmas.{Bool.{eqb-false, ne_eqb}, List.Elements.{All-cons, All-head, All-nil, All-tail}}
use Rattle.std.proofs.lemmas.List.Splits.{join_with_byte-slice_split, slice_split_at, slice_split_none}
use Rattle.drive_text.specs.Lines.{IsOneLine, all_but_last, ended_lines, last_of, text_of, unfinished_line}

front_of : (ps : List (List ℕ)) (q : List ℕ) → all_but_last (ps ++ q ∷ []) ≡ ps
front_of [] q = refl
front_of (p ∷ []) q = refl
front_of (p ∷ r ∷ ps) q = ap (λ (xs : List (List ℕ)). p ∷ xs) (front_of (r ∷ ps) q)

back_of : (ps : List (List ℕ)) (q : List ℕ) → last_of (ps ++ q ∷ []) ≡ q
back_of [] q = refl
back_of (p ∷ []) q = refl
back_of (p ∷ r ∷ ps) q = back_of (r ∷ ps) q

joined : (ps : List (List ℕ)) → text_of (all_but_last ps) (last_of ps) ≡ join_with_byte 10 ps
joined [] = refl
joined (p ∷ []) = refl
joined (p ∷ q ∷ ps) =
    append_assoc (p ++ 10 ∷ []) (flat_map (λ line. line ++ 10 ∷ []) (all_but_last (q ∷ ps))) (last_of (q ∷ ps))
    ∙ (ap (λ (l : List ℕ). (p ++ 10 ∷ []) ++ l) (joined (q ∷ ps))
    ∙ append_assoc p (10 ∷ []) (join_with_byte 10 (q ∷ ps)))

one_byte_more : (x : ℕ) (line : List ℕ) → x ≢ 10 → IsOneLine line → IsOneLine (x ∷ line)
one_byte_more x line other h = All-cons (λ b. b ≢ 10) x line other h

no_byte : IsOneLine []
no_byte = All-nil (λ b. b ≢ 10)

each_by : (lf : Bool) (x : ℕ) (ps : List (List ℕ)) → eqb x 10 ≡ lf → All IsOneLine ps
    → All IsOneLine (cond lf ([] ∷ ps) (onto_first x ps))
each_by true x ps e h = All-cons IsOneLine [] ps no_byte h
each_by false x [] e h =
    All-cons IsOneLine (x ∷ []) [] (one_byte_more x [] (eqb-false x 10 e) no_byte) (All-nil IsOneLine)
each_by false x (p ∷ ps) e h = All-cons IsOneLine (x ∷ p) ps
    (one_byte_more x p (eqb-false x 10 e) (All-head IsOneLine p ps h)) (All-tail IsOneLine p ps h)

each : (bytes : List ℕ) → All IsOneLine (slice_split (λ b. eqb b 10) bytes)
each [] = All-cons IsOneLine [] [] no_byte (All-nil IsOneLine)
each (x ∷ xs) = each_by (eqb x 10) x (slice_split (λ b. eqb b 10) xs) refl (each xs)

ended_ones : (ps : List (List ℕ)) → All IsOneLine ps → All IsOneLine (all_but_last ps)
ended_ones [] h = All-nil IsOneLine
ended_ones (p ∷ []) h = All-nil IsOneLine
ended_ones (p ∷ q ∷ ps) h = All-cons IsOneLine p (all_but_last (q ∷ ps)) (All-head IsOneLine p (q ∷ ps) h)
    (ended_ones (q ∷ ps) (All-tail IsOneLine p (q ∷ ps) h))

last_one : (ps : List (List ℕ)) → All IsOneLine ps → IsOneLine (last_of ps)
last_one [] h = no_byte
last_one (p ∷ []) h = All-head IsOneLine p [] h
last_one (p ∷ q ∷ ps) h = last_one (q ∷ ps) (All-tail IsOneLine p (q ∷ ps) h)

tests_fail : (line : List ℕ) → IsOneLine line → All (λ b. eqb b 10 ≡ false) line
tests_fail line h = λ k d lt. ne_eqb _ 10 (h k d lt)

parts_of_text : (lines : List (List ℕ)) (rest : List ℕ) → All IsOneLine lines → IsOneLine rest
    → slice_split (λ b. eqb b 10) (text_of lines rest) ≡ lines ++ rest ∷ []
parts_of_text [] rest h last = slice_split_none (λ b. eqb b 10) rest (tests_fail rest last)
parts_of_text (line ∷ lines) rest h last =
    let more : text_of (line ∷ lines) rest ≡ line ++ 10 ∷ text_of lines rest = append_assoc (line ++ 10 ∷ [])
    (flat_map (λ l. l ++ 10 ∷ []) lines) rest ∙ append_assoc line (10 ∷ []) (text_of lines rest) in
    ap (slice_split (λ b. eqb b 10)) more
    ∙ (slice_split_at (λ b. eqb b 10) line 10 (text_of lines rest)
    (tests_fail line (All-head IsOneLine line lines h)) refl
    ∙ ap (λ (x : List (List ℕ)). line ∷ x) (parts_of_text lines rest (All-tail IsOneLine line lines h) last))

found : (bytes : List ℕ) (lines : List (List ℕ)) (rest : List ℕ) → (ended_lines bytes ≡ lines)
    × (unfinished_line bytes ≡ rest) → (bytes ≡ text_of lines rest) × All IsOneLine lines × IsOneLine rest
found bytes lines rest h =
    let ps = slice_split (λ b. eqb b 10) bytes in (
      sym (joined ps ∙ join_with_byte-slice_split 10 bytes)
          ∙ (ap (λ (x : List (List ℕ)). text_of x (unfinished_line bytes)) h.0 ∙ ap (text_of lines) h.1),
      subst (All IsOneLine) h.0 (ended_ones ps (each bytes)),
      subst IsOneLine h.1 (last_one ps (each bytes)),
    )

made : (bytes : List ℕ) (lines : List (List ℕ)) (rest : List ℕ) → (bytes ≡ text_of lines rest) × All IsOneLine lines
    × IsOneLine rest → (ended_lines bytes ≡ lines) × (unfinished_line bytes ≡ rest)
made bytes lines rest h =
    let ps : slice_split (λ b. eqb b 10) bytes ≡ lines ++ rest ∷ [] =
    ap (slice_split (λ b. eqb b 10)) h.0 ∙ parts_of_text lines rest h.1 h.2 in
    (ap all_but_last ps ∙ front_of lines rest, ap last_of ps ∙ back_of lines rest)

-- a text is its ended lines, each with its LF, and the unfinished one
pub lines_make_the_text : (bytes : List ℕ) (lines : List (List ℕ)) (rest : List ℕ) → ((ended_lines bytes ≡ lines)
    × (unfinished_line bytes ≡ rest)) ↔ ((bytes ≡ text_of lines rest) × All IsOneLine lines × IsOneLine rest)
lines_make_the_text bytes lines rest = (found bytes lines rest, made bytes lines rest)
