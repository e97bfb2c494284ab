-- The lines of a text are cut at its line feeds.
use Rattle.std.proofs.Common.{[], ℕ, ◌++◌, ◌==◌, ◌↔◌, ◌∙◌, ◌∷◌, ◌≡◌, ◌≢◌, Bool, List, ap, arith, false, inl, inr, refl}
use Rattle.std.proofs.{Common.{subst, true}, lemmas.List.Elements.{All-cons, All-head, All-nil, All-tail}}
use Rattle.std.proofs.lemmas.Bool.{eqb-true, Decides.{nat_tests}}
use Rattle.tariff_syntax.{specs.TextLines.{AreLines, IsLine, in_front, lines_of}, proofs.Shows.{cut_front}}

abbrev IsOther : ℕ → Type 0
IsOther c = c ≢ 10

other_byte : (c : ℕ) → c ≢ 10 → (c == 10) ≡ false
other_byte c h = grind (arith, nat_tests)

byte_other : (c : ℕ) → (c == 10) ≡ false → c ≢ 10
byte_other c e = λ same. grind (arith, nat_tests)

fed : (line rest : List ℕ) → IsLine line → lines_of (line ++ 10 ∷ rest) ≡ line ∷ lines_of rest
fed [] rest h = refl
fed (c ∷ line) rest h =
    cut_front c (line ++ 10 ∷ rest) line (lines_of rest) (other_byte c (All-head IsOther c line h))
    (fed line rest (All-tail IsOther c line h))

last : (line : List ℕ) → IsLine line → line ≢ [] → lines_of line ≡ line ∷ []
last [] h some = absurd (some refl)
last (c ∷ []) h some = let other = other_byte c (All-head IsOther c [] h) in rw other refl
last (c ∷ d ∷ line) h some =
    cut_front c (d ∷ line) (d ∷ line) [] (other_byte c (All-head IsOther c (d ∷ line) h))
    (last (d ∷ line) (All-tail IsOther c (d ∷ line) h) (λ e. cc))

lines_again : (text : List ℕ) (lines : List (List ℕ)) → AreLines text lines → lines_of text ≡ lines
lines_again text [] h = rw h refl
lines_again text (line ∷ lines) (is, inl h) = rw (h.0, h.2) (last line is h.1)
lines_again text (line ∷ lines) (is, inr h) =
    rw h.1 (fed line h.0 is ∙ ap (λ (ls : List (List ℕ)). line ∷ ls) (lines_again h.0 lines h.2))

front : (c : ℕ) (cs : List ℕ) (lines : List (List ℕ)) → c ≢ 10 → AreLines cs lines
    → AreLines (c ∷ cs) (in_front c lines)
front c cs [] other h =
    (All-cons IsOther c [] other (All-nil IsOther), inl (ap (λ (r : List ℕ). c ∷ r) h, (λ e. cc), refl))
front c cs (line ∷ lines) other (is, inl h) =
    (All-cons IsOther c line other is, inl (ap (λ (r : List ℕ). c ∷ r) h.0, (λ e. cc), h.2))
front c cs (line ∷ lines) other (is, inr h) =
    (All-cons IsOther c line other is, inr (h.0, ap (λ (r : List ℕ). c ∷ r) h.1, h.2))

cut_by : (b : Bool) (c : ℕ) (cs : List ℕ) → (c == 10) ≡ b → AreLines cs (lines_of cs)
    → AreLines (c ∷ cs) (lines_of (c ∷ cs))
cut_by true c cs e h = rw e (All-nil IsOther, inr (cs, ap (λ (d : ℕ). d ∷ cs) (eqb-true c 10 e), h))
cut_by false c cs e h = rw e (front c cs (lines_of cs) (byte_other c e) h)

are_lines : (text : List ℕ) → AreLines text (lines_of text)
are_lines [] = refl
are_lines (c ∷ cs) = cut_by (c == 10) c cs refl (are_lines cs)

-- the law of lines
pub lines_are : (text : List ℕ) (lines : List (List ℕ)) → AreLines text lines ↔ (lines_of text ≡ lines)
lines_are text lines = (lines_again text lines, λ e. subst (AreLines text) e (are_lines text))
