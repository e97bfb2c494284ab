-- Rules: the grammar of conditions.
use Rattle.std.specs.Prelude.{[], ℕ, ◌++◌, ◌+◌, ◌∷◌, List, codes}
use Rattle.tariff_syntax.specs.{Common.{Condition}, Forms.{IsAtom}}
use Rattle.tariff_syntax.specs.{PrintedCondition.{Level, factor, term, whole}, Token.{Token, sign, word}}
use Rattle.tariff_tree.specs.Condition as tree

-- tokens are a condition at a level of the grammar: a factor is an atom, `not` and a factor, or a whole condition in
-- parentheses; a term is a factor, or a term, `and` and a factor; a whole condition is a term, or a whole condition,
-- `or` and a term
pub data IsCondition : Level → List Token → Condition → Type 0 where
  atom : (ts : List Token) (c : Condition) → IsAtom ts c → IsCondition factor ts c
  negation : (ts : List Token) (c : Condition) → IsCondition factor ts c
      → IsCondition factor (word (codes "not") ∷ ts) (tree.not c)
  parentheses : (ts : List Token) (c : Condition) → IsCondition whole ts c
      → IsCondition factor (sign (codes "(") ∷ (ts ++ sign (codes ")") ∷ [])) c
  one_factor : (ts : List Token) (c : Condition) → IsCondition factor ts c → IsCondition term ts c
  conjunction : (left right : List Token) (p q : Condition) → IsCondition term left p → IsCondition factor right q
      → IsCondition term (left ++ word (codes "and") ∷ right) (tree.and p q)
  one_term : (ts : List Token) (c : Condition) → IsCondition term ts c → IsCondition whole ts c
  disjunction : (left right : List Token) (p q : Condition) → IsCondition whole left p → IsCondition term right q
      → IsCondition whole (left ++ word (codes "or") ∷ right) (tree.or p q)

-- the size of a condition is how many atoms, `not` and `(` it is made of, together
abbrev pub size_of : (level : Level) (ts : List Token) (c : Condition) → IsCondition level ts c → ℕ
size_of factor ts c (atom ts' c' h) = 1
size_of factor ts c (negation ts' c' h) = 1 + size_of factor ts' c' h
size_of factor ts c (parentheses ts' c' h) = 1 + size_of whole ts' c' h
size_of term ts c (one_factor ts' c' h) = size_of factor ts' c' h
size_of term ts c (conjunction left right p q h g) = size_of term left p h + size_of factor right q g
size_of whole ts c (one_term ts' c' h) = size_of term ts' c' h
size_of whole ts c (disjunction left right p q h g) = size_of whole left p h + size_of term right q g
