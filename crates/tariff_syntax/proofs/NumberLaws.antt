-- The lines of a text rise in number.
use Rattle.std.{specs.List.{AllPairs}, proofs.lemmas.List.Elements.{All-cons, All-nil, All-weaker}}
use Rattle.std.proofs.Common.{[], ℕ, ◌+◌, ◌<◌, ◌∷◌, ◌≤◌, All, List, arith, inl, inr, subst, suc, sym, zero}
use Rattle.{tariff_tree.specs.Tree.{RiseInNumber}, tariff_syntax.specs.Reads.{AreTextsOfLines, AreTextsOfTariff, Reads}}
use Rattle.tariff_syntax.specs.{Common.{Line, Tree}, TextLines.{lines_of}}

pub pairs_cons : {X : Type 0} (R : X → X → Type 0) (x : X) (xs : List X) → All (R x) xs → AllPairs R xs
    → AllPairs R (x ∷ xs)
pairs_cons R x xs first rest i zero d less within = absurd (omega arith)
pairs_cons R x xs first rest zero (suc j) d less within = first j d (omega arith)
pairs_cons R x xs first rest (suc i) (suc j) d less within = rest i j d (omega arith) (omega arith)

abbrev IsFrom : ℕ → Line → Type 0
IsFrom number l = number ≤ l.line

abbrev IsAbove : Line → Line → Type 0
IsAbove a b = a.line < b.line

-- from a number on, each with a greater one than those above it
abbrev Rises : ℕ → List Line → Type 0
Rises number lines = All (IsFrom number) lines × RiseInNumber lines

lines_rise : (decimals number : ℕ) (texts : List (List ℕ)) (lines : List Line)
    → AreTextsOfLines decimals number texts lines → Rises number lines
lines_rise decimals number [] lines h =
    subst (Rises number) (sym h) (All-nil (IsFrom number), λ i j d less within. absurd (omega arith))
lines_rise decimals number (text ∷ texts) lines (inl h) =
    let more = lines_rise decimals (number + 1) texts lines h.1 in
    (All-weaker (IsFrom (number + 1)) (IsFrom number) (λ l later. omega arith) lines more.0, more.1)
lines_rise decimals number (text ∷ texts) lines (inr h) =
    let more = lines_rise decimals (number + 1) texts h.1 h.4 in
    let l : Line = record { line = number; entry = h.0 } in
    subst (Rises number) (sym h.2) (
      All-cons (IsFrom number) l h.1 (omega arith)
          (All-weaker (IsFrom (number + 1)) (IsFrom number) (λ l later. omega arith) h.1 more.0),
      pairs_cons IsAbove l h.1
          (All-weaker (IsFrom (number + 1)) (IsAbove l) (λ l later. omega arith) h.1 more.0) more.1,
    )

tariff_rises : (number : ℕ) (texts : List (List ℕ)) (t : Tree) → AreTextsOfTariff number texts t → RiseInNumber t.lines
tariff_rises number [] t h = (lines_rise 2 number [] t.lines h.1).1
tariff_rises number (text ∷ texts) t (inl h) = tariff_rises (number + 1) texts t h.1
tariff_rises number (text ∷ texts) t (inr (inl h)) = (lines_rise t.decimals (number + 1) texts t.lines h.1).1
tariff_rises number (text ∷ texts) t (inr (inr h)) = (lines_rise 2 number (text ∷ texts) t.lines h.2).1

-- the law of line numbers
pub numbers_rise : (text : List ℕ) (t : Tree) → Reads text t → RiseInNumber t.lines
numbers_rise text t h = tariff_rises 1 (lines_of text) t h
