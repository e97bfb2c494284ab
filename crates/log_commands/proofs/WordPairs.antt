-- Words that are two.
use Rattle.std.proofs.Common.{[], ℕ, ◌<◌, ◌∙◌, ◌∷◌, ◌≡◌, ◌≤◌, List, ap, arith, get_or, length, map}
use Rattle.log_commands.specs.Words.{call_of, two_words}

-- the command that two words are, by the first of them
pub call-two : {S : Type 0} (f : S → List ℕ) (words : List S) (command : S) (a : List ℕ) → 2 ≤ length words
    → length words < 3
    → command ≡ get_or words 0 command → a ≡ f command → two_words a ≡ call_of (map f words)
call-two f [] command a lo hi d i = absurd (omega (arith, lo))
call-two f (w ∷ []) command a lo hi d i = absurd (omega (arith, lo))
call-two f (w ∷ x ∷ []) command a lo hi d i = ap two_words (i ∙ ap f d)
call-two f (w ∷ x ∷ y ∷ ys) command a lo hi d i = absurd (omega (arith, hi))
