-- Rules: the parentheses of a printed condition.
use Rattle.std.specs.Prelude.{[], ℕ, ◌++◌, ◌∷◌, ◌≡◌, List, codes}
use Rattle.tariff_syntax.specs.{Common.{Condition}, IsCondition.{IsCondition}, PrintedCondition.{condition_text, whole}}
use Rattle.tariff_syntax.specs.{Spelled.{IsSpelled}, TextLines.{lines_of}, Token.{Token, sign}}

-- a line is a condition's printed form if it is the one line that the condition is printed as
abbrev pub IsPrinted : Condition → (line : List ℕ) → Type 0
IsPrinted c line = lines_of (condition_text c (codes "\n")) ≡ line ∷ []

-- tokens have a pair of parentheses if they are some tokens, `(`, some tokens, `)`, and some tokens
abbrev pub with_pair : (before inside behind : List Token) → List Token
with_pair before inside behind = before ++ sign (codes "(") ∷ (inside ++ sign (codes ")") ∷ behind)

-- a condition needs its parentheses if no pair of them could go from its printed form: the tokens without that pair
-- don't read as the condition
abbrev pub NeedsParentheses : Condition → Type 0
NeedsParentheses c =
    (line : List ℕ) (before inside behind : List Token)
    → IsPrinted c line → IsSpelled line (with_pair before inside behind)
    → ¬ (IsCondition whole (before ++ (inside ++ behind)) c)
