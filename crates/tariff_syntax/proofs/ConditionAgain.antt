-- What is a condition is read.
use Rattle.std.proofs.Common.{[], ℕ, ◌++◌, ◌+◌, ◌-◌, ◌∙◌, ◌∷◌, ◌≡◌, ◌≤◌, List, None, Some, ap, append_assoc, arith}
use Rattle.{std.proofs.Common.{codes, refl, sym}, tariff_syntax.specs.IsCondition.{parentheses, size_of}}
use Rattle.tariff_syntax.specs.{Common.{Condition}, Weight.{weight}}
use Rattle.tariff_syntax.specs.Grammar.{and_joined, chain_on, condition_by, factor_first, or_joined, term_by}
use Rattle.tariff_syntax.specs.IsCondition.{IsCondition, atom, conjunction, disjunction, negation, one_factor, one_term}
use Rattle.tariff_syntax.specs.{PrintedCondition.{Level, factor, term, whole}, Words.{after_sign, after_word}}
use Rattle.tariff_syntax.{specs.Token.{Token, sign, word}, proofs.Tools.{after_sign_here, after_word_here}}
use Rattle.tariff_syntax.proofs.{AtomLaws.{atom_again, atom_weighs}, GrammarSteps.{chain_ends, chain_goes, factor_step}}
use Rattle.tariff_tree.specs.Condition as tree

pub weight-append : (xs ys : List Token) → weight (xs ++ ys) ≡ weight xs + weight ys
weight-append [] ys = omega arith
weight-append (x ∷ xs) ys = omega (arith, weight-append xs ys)

-- the reader counts, before it reads, what a condition is made of
pub size_is : (place : Level) (ts : List Token) (c : Condition) (h : IsCondition place ts c)
    → size_of place ts c h ≡ weight ts
size_is factor ts c (atom ts' c' h) = sym (atom_weighs ts' c' h)
size_is factor ts c (negation ts' c' h) = omega (arith, size_is factor ts' c' h)
size_is factor ts c (parentheses ts' c' h) =
    omega (arith, weight-append ts' (sign (codes ")") ∷ []), size_is whole ts' c' h)
size_is term ts c (one_factor ts' c' h) = size_is factor ts' c' h
size_is term ts c (conjunction left right p q h g) =
    omega (arith, weight-append left (word (codes "and") ∷ right), size_is term left p h, size_is factor right q g)
size_is whole ts c (one_term ts' c' h) = size_is term ts' c' h
size_is whole ts c (disjunction left right p q h g) =
    omega (arith, weight-append left (word (codes "or") ∷ right), size_is whole left p h, size_is term right q g)

-- nothing follows that a condition of the place goes on with
abbrev pub Free : Level → List Token → Type 0
Free factor rest = after_sign (codes "..") rest ≡ None
Free term rest = (after_sign (codes "..") rest ≡ None) × (after_word (codes "and") rest ≡ None)
Free whole rest = (after_sign (codes "..") rest ≡ None) × (after_word (codes "and") rest ≡ None)
    × (after_word (codes "or") rest ≡ None)

-- what is read of a condition: a term and a whole condition up to the joint behind it
abbrev Claim : Level → (depth : ℕ) → List Token → Condition → Type 0
Claim factor depth ts c =
    (1 ≤ weight ts) × ((rest : List Token) → Free factor rest → factor_first depth (ts ++ rest) ≡ Some (c, rest))
Claim term depth ts c =
    (n : ℕ) × (n + 1 ≤ weight ts) × ((rest : List Token) → Free factor rest → term_by (factor_first depth) (ts ++ rest)
    ≡ chain_on (codes "and") (and_joined (factor_first depth)) (64 - n) c rest)
Claim whole depth ts c =
    (n : ℕ) × (n + 1 ≤ weight ts) × ((rest : List Token) → Free term rest → condition_by (factor_first depth)
    (ts ++ rest) ≡ chain_on (codes "or") (or_joined (factor_first depth)) (64 - n) c rest)

word_ends : (w : List ℕ) (rest : List Token) → after_sign (codes "..") (word w ∷ rest) ≡ None
unfolding after_sign
word_ends w rest = refl

or_ends : (rest : List Token) → after_word (codes "and") (word (codes "or") ∷ rest) ≡ None
unfolding after_word
or_ends rest = refl

close_ends : (rest : List Token) → after_sign (codes "..") (sign (codes ")") ∷ rest) ≡ None
unfolding after_sign
close_ends rest = refl

close_joins : (w : List ℕ) (rest : List Token) → after_word w (sign (codes ")") ∷ rest) ≡ None
unfolding after_word
close_joins w rest = refl

-- a term that nothing goes on is read
term_ends : (depth : ℕ) (ts : List Token) (c : Condition) (rest : List Token) → weight ts ≤ 64 → Claim term depth ts c
    → Free term rest → term_by (factor_first depth) (ts ++ rest) ≡ Some (c, rest)
term_ends depth ts c rest few claim free =
    claim.2 rest free.0
    ∙ chain_ends (codes "and") (and_joined (factor_first depth)) (64 - claim.0) c rest (omega (arith, claim.1)) free.1

whole_ends : (depth : ℕ) (ts : List Token) (c : Condition) (rest : List Token) → weight ts ≤ 64 → Claim whole depth ts c
    → Free whole rest → condition_by (factor_first depth) (ts ++ rest) ≡ Some (c, rest)
whole_ends depth ts c rest few claim free =
    claim.2 rest (free.0, free.1)
    ∙ chain_ends (codes "or") (or_joined (factor_first depth)) (64 - claim.0) c rest (omega (arith, claim.1)) free.2

one_factor_read : (depth : ℕ) (ts : List Token) (c : Condition) (rest : List Token)
    → factor_first depth (ts ++ rest) ≡ Some (c, rest)
    → term_by (factor_first depth) (ts ++ rest) ≡ chain_on (codes "and") (and_joined (factor_first depth)) 64 c rest
unfolding term_by
one_factor_read depth ts c rest e = rw e refl

one_term_read : (depth : ℕ) (ts : List Token) (c : Condition) (rest : List Token)
    → term_by (factor_first depth) (ts ++ rest) ≡ Some (c, rest)
    → condition_by (factor_first depth) (ts ++ rest) ≡ chain_on (codes "or") (or_joined (factor_first depth)) 64 c rest
unfolding condition_by
one_term_read depth ts c rest e = rw e refl

conjunction_read : (depth : ℕ) (left right : List Token) (p q : Condition) (rest : List Token) (n : ℕ) → n + 1 ≤ 63
    → term_by (factor_first depth) (left ++ word (codes "and") ∷ (right ++ rest))
    ≡ chain_on (codes "and") (and_joined (factor_first depth)) (64 - n) p (word (codes "and") ∷ (right ++ rest))
    → factor_first depth (right ++ rest) ≡ Some (q, rest)
    → term_by (factor_first depth) ((left ++ word (codes "and") ∷ right) ++ rest)
    ≡ chain_on (codes "and") (and_joined (factor_first depth)) (64 - (n + 1)) (tree.and p q) rest
conjunction_read depth left right p q rest n few first second =
    let joined : and_joined (factor_first depth) p (right ++ rest) ≡ Some (tree.and p q, rest) = rw second refl in
    let goes = chain_goes (codes "and") (and_joined (factor_first depth)) (64 - n) (64 - (n + 1)) p (word (codes "and")
    ∷ (right ++ rest)) (right ++ rest) (omega arith) (after_word_here (codes "and") (right ++ rest)) in
    ap (term_by (factor_first depth)) (append_assoc left (word (codes "and") ∷ right) rest)
    ∙ (first ∙ (goes ∙ rw joined refl))

disjunction_read : (depth : ℕ) (left right : List Token) (p q : Condition) (rest : List Token) (n : ℕ) → n + 1 ≤ 63
    → condition_by (factor_first depth) (left ++ word (codes "or") ∷ (right ++ rest))
    ≡ chain_on (codes "or") (or_joined (factor_first depth)) (64 - n) p (word (codes "or") ∷ (right ++ rest))
    → term_by (factor_first depth) (right ++ rest) ≡ Some (q, rest)
    → condition_by (factor_first depth) ((left ++ word (codes "or") ∷ right) ++ rest)
    ≡ chain_on (codes "or") (or_joined (factor_first depth)) (64 - (n + 1)) (tree.or p q) rest
disjunction_read depth left right p q rest n few first second =
    let joined : or_joined (factor_first depth) p (right ++ rest) ≡ Some (tree.or p q, rest) = rw second refl in
    let goes = chain_goes (codes "or") (or_joined (factor_first depth)) (64 - n) (64 - (n + 1)) p (word (codes "or")
    ∷ (right ++ rest)) (right ++ rest) (omega arith) (after_word_here (codes "or") (right ++ rest)) in
    ap (condition_by (factor_first depth)) (append_assoc left (word (codes "or") ∷ right) rest)
    ∙ (first ∙ (goes ∙ rw joined refl))

negation_read : (depth : ℕ) (ts : List Token) (c : Condition) (rest : List Token) → 1 ≤ depth → factor_first (depth - 1)
    (ts ++ rest) ≡ Some (c, rest) → factor_first depth (word (codes "not") ∷ (ts ++ rest)) ≡ Some (tree.not c, rest)
negation_read depth ts c rest some e =
    factor_step depth (depth - 1) (word (codes "not") ∷ (ts ++ rest)) (omega arith) ∙ rw e refl

parentheses_read : (depth : ℕ) (ts : List Token) (c : Condition) (rest : List Token) → 1 ≤ depth
    → condition_by (factor_first (depth - 1)) (ts ++ sign (codes ")") ∷ rest) ≡ Some (c, sign (codes ")") ∷ rest)
    → factor_first depth (sign (codes "(") ∷ ((ts ++ sign (codes ")") ∷ []) ++ rest)) ≡ Some (c, rest)
parentheses_read depth ts c rest some e =
    factor_step depth (depth - 1) (sign (codes "(") ∷ ((ts ++ sign (codes ")") ∷ []) ++ rest)) (omega arith)
    ∙ rw (append_assoc ts (sign (codes ")") ∷ []) rest, e, after_sign_here (codes ")") rest) refl

claimed : (place : Level) (ts : List Token) (c : Condition) → IsCondition place ts c → (depth : ℕ) → weight ts ≤ depth
    → depth ≤ 64 → Claim place depth ts c
claimed factor ts c (atom ts' c' h) depth few deep =
    let counts = atom_weighs ts' c' h in (
      omega (arith, counts),
      λ rest free. factor_step depth (depth - 1) (ts' ++ rest) (omega arith)
          ∙ atom_again (factor_first (depth - 1)) (condition_by (factor_first (depth - 1))) ts' c' rest free h,
    )
claimed factor ts c (negation ts' c' h) depth few deep =
    let inner = claimed factor ts' c' h (depth - 1) (omega arith) (omega arith) in
    (omega arith, λ rest free. negation_read depth ts' c' rest (omega arith) (inner.1 rest free))
claimed factor ts c (parentheses ts' c' h) depth few deep =
    let counts = weight-append ts' (sign (codes ")") ∷ []) in
    let inner = claimed whole ts' c' h (depth - 1) (omega (arith, counts)) (omega arith) in (
      omega arith,
      λ rest free. parentheses_read depth ts' c' rest (omega arith)
          (whole_ends (depth - 1) ts' c' (sign (codes ")") ∷ rest) (omega (arith, counts)) inner
          (close_ends rest, close_joins (codes "and") rest, close_joins (codes "or") rest)),
    )
claimed term ts c (one_factor ts' c' h) depth few deep =
    let first = claimed factor ts' c' h depth few deep in
    (0, omega (arith, first.0), λ rest free. one_factor_read depth ts' c' rest (first.1 rest free))
claimed term ts c (conjunction left right p q h g) depth few deep =
    let counts = weight-append left (word (codes "and") ∷ right) in
    let first = claimed term left p h depth (omega (arith, counts)) deep in
    let second = claimed factor right q g depth (omega (arith, counts)) deep in (
      first.0 + 1,
      omega (arith, counts, first.1, second.0),
      λ rest free. conjunction_read depth left right p q rest first.0 (omega (arith, counts, first.1, second.0))
          (first.2 (word (codes "and") ∷ (right ++ rest)) (word_ends (codes "and") (right ++ rest)))
          (second.1 rest free),
    )
claimed whole ts c (one_term ts' c' h) depth few deep =
    let first = claimed term ts' c' h depth few deep in (
      0,
      omega (arith, first.1),
      λ rest free. one_term_read depth ts' c' rest (term_ends depth ts' c' rest (omega arith) first free),
    )
claimed whole ts c (disjunction left right p q h g) depth few deep =
    let counts = weight-append left (word (codes "or") ∷ right) in
    let first = claimed whole left p h depth (omega (arith, counts)) deep in
    let second = claimed term right q g depth (omega (arith, counts)) deep in (
      first.0 + 1,
      omega (arith, counts, first.1, second.1),
      λ rest free. disjunction_read depth left right p q rest first.0 (omega (arith, counts, first.1, second.1))
          (first.2 (word (codes "or") ∷ (right ++ rest))
          (word_ends (codes "or") (right ++ rest), or_ends (right ++ rest)))
          (term_ends depth right q rest (omega (arith, counts)) second free),
    )

-- a condition with few atoms, `not` and `(` is read, if nothing follows that it goes on with
pub condition_again : (ts : List Token) (c : Condition) (rest : List Token) → IsCondition whole ts c → weight ts ≤ 64
    → Free whole rest → condition_by (factor_first 64) (ts ++ rest) ≡ Some (c, rest)
condition_again ts c rest h few free = whole_ends 64 ts c rest few (claimed whole ts c h 64 few (omega arith)) free
