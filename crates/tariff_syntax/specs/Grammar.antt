-- For proofs: conditions, read at the front of a list of tokens. The law texts_are_parsed_as_they_read says what the
-- answers mean.
use Rattle.std.specs.Prelude.{[], ℕ, ◌∷◌, List, None, Option, Some, codes, if◌then◌else◌, nat_le, suc, zero}
use Rattle.{std.specs.Str.{bytes_eq}, tariff_syntax.specs.{Atom.{atom_named}, Words.{after_sign, after_word, ended}}}
use Rattle.tariff_syntax.specs.{Common.{◌>>=◌, Condition}, Token.{Token, figure, sign, word}, Weight.{weight}}
use Rattle.tariff_tree.specs.Condition as tree

-- a reader gives the condition at the front of tokens, and the tokens after it
abbrev pub Reader : Type 0
Reader = List Token → Option (Condition × List Token)

-- the negation of what was read, and the tokens after it
abbrev pub negated : Option (Condition × List Token) → Option (Condition × List Token)
negated inner = inner >>= λ x. Some (tree.not x.0, x.1)

-- what was read, if a closing parenthesis follows it, and the tokens after that
abbrev pub closed_after : Option (Condition × List Token) → Option (Condition × List Token)
closed_after inner = inner >>= λ x. (after_sign (codes ")") x.1 >>= λ rest. Some (x.0, rest))

-- the factor that stands first: `not` and a factor, a condition in parentheses, or an atom
abbrev pub factor_by : (factors conditions : Reader) → Reader
factor_by factors conditions [] = None
factor_by factors conditions (word name ∷ ts) =
    if bytes_eq name (codes "not") then negated (factors ts) else atom_named name ts
factor_by factors conditions (figure text ∷ ts) = None
factor_by factors conditions (sign text ∷ ts) = if bytes_eq text (codes "(") then closed_after (conditions ts) else None

-- what stands to the left, joined to what follows each further `joint`, of which there are fewer than `most`
unfoldable pub chain_on : (joint : List ℕ) → (joined : Condition → Reader) → (most : ℕ) → Condition → Reader
chain_on joint joined zero left ts = None
chain_on joint joined (suc most) left ts =
    elim (after_word joint ts) [
      | None ↦ Some (left, ts)
      | Some rest ↦ joined left rest >>= λ x. chain_on joint joined most x.0 x.1
    ]

-- what stands to the left, joined by `and` to the factor that stands first
abbrev pub and_joined : (factors : Reader) → Condition → Reader
and_joined factors left ts = factors ts >>= λ x. Some (tree.and left x.0, x.1)

-- the term that stands first: factors joined by `and`
unfoldable pub term_by : (factors : Reader) → Reader
term_by factors ts = factors ts >>= λ x. chain_on (codes "and") (and_joined factors) 64 x.0 x.1

-- what stands to the left, joined by `or` to the term that stands first
abbrev pub or_joined : (factors : Reader) → Condition → Reader
or_joined factors left ts = term_by factors ts >>= λ x. Some (tree.or left x.0, x.1)

-- the condition that stands first: terms joined by `or`
unfoldable pub condition_by : (factors : Reader) → Reader
condition_by factors ts = term_by factors ts >>= λ x. chain_on (codes "or") (or_joined factors) 64 x.0 x.1

-- the factor that stands first, if fewer than `depth` `not` and `(` are around each of its atoms
unfoldable pub factor_first : (depth : ℕ) → Reader
factor_first zero ts = None
factor_first (suc depth) ts = factor_by (factor_first depth) (condition_by (factor_first depth)) ts

-- the condition that all of the tokens are
abbrev pub condition_alone : List Token → Option Condition
condition_alone ts = condition_by (factor_first 64) ts >>= λ x. ended x.1 x.0

-- the condition that all of the tokens are, if they have at most 64 atoms, `not` and `(` together
unfoldable pub bounded_condition : List Token → Option Condition
bounded_condition ts = if nat_le (weight ts) 64 then condition_alone ts else None

-- the condition at the end of a line: none if the line ends, or the one behind `when`
unfoldable pub when_read : List Token → Option (Option Condition)
when_read [] = Some None
when_read (t ∷ ts) = after_word (codes "when") (t ∷ ts) >>= λ rest. (bounded_condition rest >>= λ c. Some (Some c))
