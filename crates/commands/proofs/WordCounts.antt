-- Words that are two, and four.
use Rattle.std.proofs.Common.{[], ℕ, ◌<◌, ◌∙◌, ◌∷◌, ◌≡◌, ◌≤◌, List, ap, arith, get_or, length, map}
use Rattle.commands.specs.Words.{four_words, row_of, two_words}

-- the command that two words are
pub row-two : {S : Type 0} (f : S → List ℕ) (words : List S) (command last : S) (a b : List ℕ) → 2 ≤ length words
    → length words < 3
    → command ≡ get_or words 0 command → last ≡ get_or words 1 last → a ≡ f command → b ≡ f last
    → two_words a b ≡ row_of (map f words)
row-two f [] command last a b lo hi d e i j = absurd (omega (arith, lo))
row-two f (w ∷ []) command last a b lo hi d e i j = absurd (omega (arith, lo))
row-two f (w ∷ x ∷ []) command last a b lo hi d e i j =
    ap (λ (t : List ℕ). two_words t b) (i ∙ ap f d) ∙ ap (two_words (f w)) (j ∙ ap f e)
row-two f (w ∷ x ∷ y ∷ ys) command last a b lo hi d e i j = absurd (omega (arith, hi))

-- the command that four words are, by the first, the third and the last of them
pub row-four : {S : Type 0} (f : S → List ℕ) (words : List S) (command third last : S) (a b c : List ℕ)
    → 4 ≤ length words → length words < 5
    → command ≡ get_or words 0 command → third ≡ get_or words 2 third → last ≡ get_or words 3 last → a ≡ f command
    → b ≡ f third → c ≡ f last → four_words a b c ≡ row_of (map f words)
row-four f [] command third last a b c lo hi d e g i j k = absurd (omega (arith, lo))
row-four f (w ∷ []) command third last a b c lo hi d e g i j k = absurd (omega (arith, lo))
row-four f (w ∷ x ∷ []) command third last a b c lo hi d e g i j k = absurd (omega (arith, lo))
row-four f (w ∷ x ∷ y ∷ []) command third last a b c lo hi d e g i j k = absurd (omega (arith, lo))
row-four f (w ∷ x ∷ y ∷ z ∷ []) command third last a b c lo hi d e g i j k =
    ap (λ (t : List ℕ). four_words t b c) (i ∙ ap f d)
    ∙ ap (λ (t : List ℕ). four_words (f w) t c) (j ∙ ap f e)
    ∙ ap (λ (t : List ℕ). four_words (f w) (f y) t) (k ∙ ap f g)
row-four f (w ∷ x ∷ y ∷ z ∷ v ∷ vs) command third last a b c lo hi d e g i j k = absurd (omega (arith, hi))
