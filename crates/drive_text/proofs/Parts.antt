-- A part of a text without an LF, and a line with its LF, behind other bytes.
use Rattle.std.proofs.Common.{[], ℕ, ◌++◌, ◌+◌, ◌∙◌, ◌∷◌, ◌≡◌, ◌≢◌, ◌≤◌, All, List, ap, append_assoc, arith, flat_map}
use Rattle.std.proofs.{Common.{length, length-append, refl, sym}, lemmas.List.{append-nil}}
use Rattle.std.proofs.lemmas.{Grind.{flat_map-append}, List.Elements.{All-append, All-cons, All-nil, All-push}}
use Rattle.drive_text.specs.{Drive.{runs_in, runs_of_lines}, Lines.{IsOneLine, ended_lines, text_of, unfinished_line}}
use Rattle.drive_text.proofs.LineLaw.{lines_make_the_text}

pub text_append : (xs ys : List (List ℕ)) (t : List ℕ) → text_of (xs ++ ys) t ≡ text_of xs (text_of ys t)
text_append xs ys t =
    ap (λ (l : List ℕ). l ++ t) (flat_map-append (λ (line : List ℕ). line ++ 10 ∷ []) xs ys)
    ∙ append_assoc (flat_map (λ line. line ++ 10 ∷ []) xs) (flat_map (λ line. line ++ 10 ∷ []) ys) t

pub one_line : (line t : List ℕ) (lines : List (List ℕ)) → text_of (line ∷ lines) t ≡ line ++ 10 ∷ text_of lines t
one_line line t lines = append_assoc (line ++ 10 ∷ []) (flat_map (λ l. l ++ 10 ∷ []) lines) t
    ∙ append_assoc line (10 ∷ []) (text_of lines t)

pub lines_of : (bytes : List ℕ) → (bytes ≡ text_of (ended_lines bytes) (unfinished_line bytes))
    × All IsOneLine (ended_lines bytes) × IsOneLine (unfinished_line bytes)
lines_of bytes = (lines_make_the_text bytes (ended_lines bytes) (unfinished_line bytes)).0 (refl, refl)

-- more bytes behind those of a text
text_then : (b t : List ℕ) → b ++ t ≡ text_of (ended_lines b) (unfinished_line b ++ t)
text_then b t = ap (λ (x : List ℕ). x ++ t) (lines_of b).0
    ∙ append_assoc (flat_map (λ line. line ++ 10 ∷ []) (ended_lines b)) (unfinished_line b) t

one_then : (b t : List ℕ) → IsOneLine t → IsOneLine (unfinished_line b ++ t)
one_then b t one = All-append (λ c. c ≢ 10) (unfinished_line b) t (lines_of b).2 one

-- a part without an LF goes on with the unfinished line
pub part_goes_on : (b t : List ℕ) → IsOneLine t
    → (ended_lines (b ++ t) ≡ ended_lines b) × (unfinished_line (b ++ t) ≡ unfinished_line b ++ t)
part_goes_on b t one = (lines_make_the_text (b ++ t) (ended_lines b) (unfinished_line b ++ t)).1
    (text_then b t, (lines_of b).1, one_then b t one)

-- it gives no run
pub no_runs : (b t : List ℕ) → IsOneLine t → runs_in (b ++ t) ≡ runs_in b
no_runs b t p = ap runs_of_lines (part_goes_on b t p).0

-- a line with its LF ends the unfinished line
pub line_ends : (b t : List ℕ) → IsOneLine t → (ended_lines (b ++ (t ++ 10 ∷ []))
    ≡ ended_lines b ++ (unfinished_line b ++ t) ∷ []) × (unfinished_line (b ++ (t ++ 10 ∷ [])) ≡ [])
line_ends b t one =
    let lines = ended_lines b in
    let line = unfinished_line b ++ t in
    let more : text_of (lines ++ line ∷ []) [] ≡ text_of lines (unfinished_line b ++ (t ++ 10 ∷ [])) =
    text_append lines (line ∷ []) []
    ∙ ap (text_of lines) (one_line line [] [] ∙ append_assoc (unfinished_line b) t (10 ∷ [])) in
    (lines_make_the_text (b ++ (t ++ 10 ∷ [])) (lines ++ line ∷ []) []).1 (
      text_then b (t ++ 10 ∷ []) ∙ sym more,
      All-push IsOneLine lines line (lines_of b).1 (one_then b t one),
      All-nil (λ (c : ℕ). c ≢ 10),
    )

-- an LF ends the line
pub lf_ends : (b : List ℕ)
    → (ended_lines (b ++ 10 ∷ []) ≡ ended_lines b ++ unfinished_line b ∷ []) × (unfinished_line (b ++ 10 ∷ []) ≡ [])
lf_ends b =
    let h = line_ends b [] (All-nil (λ (c : ℕ). c ≢ 10)) in
    (h.0 ∙ ap (λ (x : List ℕ). ended_lines b ++ x ∷ []) (append-nil (unfinished_line b)), h.1)

-- another byte goes on with it
pub byte_goes_on : (b : List ℕ) (c : ℕ) → c ≢ 10
    → (ended_lines (b ++ c ∷ []) ≡ ended_lines b) × (unfinished_line (b ++ c ∷ []) ≡ unfinished_line b ++ c ∷ [])
byte_goes_on b c other = part_goes_on b (c ∷ []) (All-cons (λ (x : ℕ). x ≢ 10) c [] other (All-nil (λ (x : ℕ). x ≢ 10)))

text_long : (lines : List (List ℕ)) (t : List ℕ) → length lines + length t ≤ length (text_of lines t)
text_long [] t = omega arith
text_long (line ∷ lines) t =
    omega (arith, text_long lines t, ap length (one_line line t lines), length-append line (10 ∷ text_of lines t))

-- each ended line has its LF
pub lines_fit : (b : List ℕ) → length (ended_lines b) + length (unfinished_line b) ≤ length b
lines_fit b = omega (arith, ap length (lines_of b).0, text_long (ended_lines b) (unfinished_line b))
