-- Conditions are read by their grammar.
use Rattle.std.{specs.Str.{bytes_eq}, proofs.Common.{inr, refl, subst, suc, sym, true, zero}}
use Rattle.std.proofs.Common.{[], ℕ, ◌++◌, ◌∙◌, ◌∷◌, ◌≡◌, List, None, Option, Some, ap, append_assoc, arith, codes, inl}
use Rattle.tariff_syntax.{specs.{Atom.{atom_named}, Common.{Condition}}, proofs.AtomLaws.{atom_is}}
use Rattle.tariff_syntax.specs.Grammar.{Reader, and_joined, chain_on, closed_after, condition_by, factor_by}
use Rattle.tariff_syntax.specs.{Grammar.{factor_first, negated, or_joined, term_by}, IsCondition.{parentheses}}
use Rattle.tariff_syntax.specs.IsCondition.{IsCondition, atom, conjunction, disjunction, negation, one_factor, one_term}
use Rattle.tariff_syntax.specs.{PrintedCondition.{Level, factor, term, whole}, Token.{Token, figure, sign, word}}
use Rattle.tariff_syntax.{specs.Words.{after_sign, after_word}, proofs.GrammarSteps.{chain_ends, chain_goes}}
use Rattle.tariff_syntax.proofs.Tools.{after_sign_is, after_word_is, bind_some, chosen, same_text, some_same}
use Rattle.tariff_tree.specs.Condition as tree

-- a reader finds conditions of a place
abbrev Finds : Level → Reader → Type 0
Finds place read = (ts : List Token) (x : Condition × List Token) → read ts ≡ Some x
    → (used : List Token) × (ts ≡ used ++ x.1) × IsCondition place used x.0

-- what was read, with what stands to its left, is a condition of a place
abbrev Grows : Level → (left : List Token) → List Token → Condition × List Token → Type 0
Grows place left ts x = (used : List Token) × (left ++ ts ≡ used ++ x.1) × IsCondition place used x.0

-- joining to what stands to the left makes a condition of the place
abbrev Joins : Level → (joint : List ℕ) → (Condition → Reader) → Type 0
Joins place joint joined = (left ts rest : List Token) (p : Condition) (x : Condition × List Token)
    → IsCondition place left p → ts ≡ word joint ∷ rest → joined p rest ≡ Some x → Grows place left ts x

chain_by : (place : Level) (joint : List ℕ) (joined : Condition → Reader) → Joins place joint joined → (most : ℕ)
    → ((left ts : List Token) (p : Condition) (x : Condition × List Token) → IsCondition place left p
    → chain_on joint joined most p ts ≡ Some x → Grows place left ts x) → (left ts : List Token) (p : Condition)
    (x : Condition × List Token) → IsCondition place left p → (more : Option (List Token)) → after_word joint ts ≡ more
    → chain_on joint joined (suc most) p ts ≡ Some x → Grows place left ts x
chain_by place joint joined joins most chain left ts p x h None here e =
    let found = some_same (p, ts) x (sym (chain_ends joint joined (suc most) p ts (omega arith) here) ∙ e) in
    subst (Grows place left ts) found (left, refl, h)
chain_by place joint joined joins most chain left ts p x h (Some rest) here e =
    let one = bind_some (joined p rest) (λ y. chain_on joint joined most y.0 y.1) x
    (sym (chain_goes joint joined (suc most) most p ts rest (omega arith) here) ∙ e) in
    let grown = joins left ts rest p one.0 h (after_word_is joint ts rest here) one.1 in
    let more = chain grown.0 one.0.1 one.0.0 x grown.2 one.2 in
    (more.0, ◌∙◌ {c = more.0 ++ x.1} grown.1 more.1, more.2)

chain_grows : (place : Level) (joint : List ℕ) (joined : Condition → Reader) → Joins place joint joined
    → (most : ℕ) (left ts : List Token) (p : Condition) (x : Condition × List Token) → IsCondition place left p
    → chain_on joint joined most p ts ≡ Some x → Grows place left ts x
unfolding chain_on
chain_grows place joint joined joins zero left ts p x h e = absurd cc
chain_grows place joint joined joins (suc most) left ts p x h e =
    chain_by place joint joined joins most (chain_grows place joint joined joins most) left ts p x h
    (after_word joint ts) refl e

and_joins : (factors : Reader) → Finds factor factors → Joins term (codes "and") (and_joined factors)
and_joins factors finds left ts rest p x h here e =
    let one = bind_some (factors rest) _ x e in
    let found = some_same (tree.and p one.0.0, one.0.1) x one.2 in
    let right = finds rest one.0 one.1 in
    let used = left ++ word (codes "and") ∷ right.0 in
    let all : left ++ ts ≡ used ++ one.0.1 =
    ap (λ (r : List Token). left ++ r) (here ∙ ap (λ (r : List Token). word (codes "and") ∷ r) right.1)
    ∙ sym (append_assoc left (word (codes "and") ∷ right.0) one.0.1) in
    subst (Grows term left ts) found (used, all, conjunction left right.0 p one.0.0 h right.2)

finds_term : (factors : Reader) → Finds factor factors → Finds term (term_by factors)
unfolding term_by
finds_term factors finds ts x e =
    let one = bind_some (factors ts) _ x e in
    let first = finds ts one.0 one.1 in
    let grown = chain_grows term (codes "and") (and_joined factors)
    (and_joins factors finds) 64 first.0 one.0.1 one.0.0 x (one_factor first.0 one.0.0 first.2) one.2 in
    (grown.0, first.1 ∙ grown.1, grown.2)

or_joins : (factors : Reader) → Finds factor factors → Joins whole (codes "or") (or_joined factors)
or_joins factors finds left ts rest p x h here e =
    let one = bind_some (term_by factors rest) _ x e in
    let found = some_same (tree.or p one.0.0, one.0.1) x one.2 in
    let right = finds_term factors finds rest one.0 one.1 in
    let used = left ++ word (codes "or") ∷ right.0 in
    let all : left ++ ts ≡ used ++ one.0.1 =
    ap (λ (r : List Token). left ++ r) (here ∙ ap (λ (r : List Token). word (codes "or") ∷ r) right.1)
    ∙ sym (append_assoc left (word (codes "or") ∷ right.0) one.0.1) in
    subst (Grows whole left ts) found (used, all, disjunction left right.0 p one.0.0 h right.2)

finds_whole : (factors : Reader) → Finds factor factors → Finds whole (condition_by factors)
unfolding condition_by
finds_whole factors finds ts x e =
    let one = bind_some (term_by factors ts) _ x e in
    let first = finds_term factors finds ts one.0 one.1 in
    let grown = chain_grows whole (codes "or") (or_joined factors) (or_joins factors finds) 64 first.0 one.0.1 one.0.0 x
    (one_term first.0 one.0.0 first.2) one.2 in
    (grown.0, first.1 ∙ grown.1, grown.2)

-- a factor was found at the front
abbrev FoundFactor : List Token → Condition × List Token → Type 0
FoundFactor ts x = (used : List Token) × (ts ≡ used ++ x.1) × IsCondition factor used x.0

finds_negation : (factors : Reader) → Finds factor factors → (name : List ℕ) (ts : List Token) (x : Condition
    × List Token) → bytes_eq name (codes "not") ≡ true → negated (factors ts) ≡ Some x → FoundFactor (word name ∷ ts) x
finds_negation factors finds name ts x same e =
    let one = bind_some (factors ts) _ x e in
    let found = some_same (tree.not one.0.0, one.0.1) x one.2 in
    let inner = finds ts one.0 one.1 in
    let all : word name ∷ ts ≡ word (codes "not") ∷ inner.0 ++ one.0.1 =
    ap (λ (t : List ℕ). word t ∷ ts) (same_text name (codes "not") same)
    ∙ ap (λ (r : List Token). word (codes "not") ∷ r) inner.1 in
    subst (FoundFactor (word name ∷ ts)) found (word (codes "not") ∷ inner.0, all, negation inner.0 one.0.0 inner.2)

finds_closed : (conditions : Reader) → Finds whole conditions
    → (text : List ℕ) (ts : List Token) (x : Condition × List Token) → bytes_eq text (codes "(") ≡ true
    → closed_after (conditions ts) ≡ Some x → FoundFactor (sign text ∷ ts) x
finds_closed conditions finds text ts x same e =
    let one = bind_some (conditions ts) _ x e in
    let two = bind_some (after_sign (codes ")") one.0.1) _ x one.2 in
    let found = some_same (one.0.0, two.0) x two.2 in
    let inner = finds ts one.0 one.1 in
    let used = sign (codes "(") ∷ (inner.0 ++ sign (codes ")") ∷ []) in
    let all : sign text ∷ ts ≡ used ++ two.0 =
    ap (λ (t : List ℕ). sign t ∷ ts) (same_text text (codes "(") same)
    ∙ ap (λ (r : List Token). sign (codes "(") ∷ r) (inner.1 ∙ (ap (λ (r : List Token). inner.0 ++ r)
    (after_sign_is (codes ")") one.0.1 two.0 two.1) ∙ sym (append_assoc inner.0 (sign (codes ")") ∷ []) two.0))) in
    subst (FoundFactor (sign text ∷ ts)) found (used, all, parentheses inner.0 one.0.0 inner.2)

finds_by : (factors conditions : Reader) → Finds factor factors → Finds whole conditions
    → Finds factor (factor_by factors conditions)
finds_by factors conditions finds wholes [] x e = absurd cc
finds_by factors conditions finds wholes (figure text ∷ ts) x e = absurd cc
finds_by factors conditions finds wholes (word name ∷ ts) x e =
    elim (chosen (bytes_eq name (codes "not")) (negated (factors ts)) (atom_named name ts) (Some x) e) [
      | inl a ↦ finds_negation factors finds name ts x a.0 a.1
      | inr a ↦ (let is = atom_is name ts x a.1 in
          (word name ∷ is.0, ap (λ (r : List Token). word name ∷ r) is.1, atom (word name ∷ is.0) x.0 is.2))
    ]
finds_by factors conditions finds wholes (sign text ∷ ts) x e =
    elim (chosen (bytes_eq text (codes "(")) (closed_after (conditions ts)) None (Some x) e) [
      | inl a ↦ finds_closed conditions wholes text ts x a.0 a.1
      | inr a ↦ absurd (let none : None ≡ Some x = a.1 in cc)
    ]

finds_factor : (depth : ℕ) → Finds factor (factor_first depth)
unfolding factor_first
finds_factor zero ts x e = absurd cc
finds_factor (suc depth) ts x e =
    finds_by (factor_first depth) (condition_by (factor_first depth)) (finds_factor depth)
    (finds_whole (factor_first depth) (finds_factor depth)) ts x e

-- what is read is a condition
pub condition_found : Finds whole (condition_by (factor_first 64))
condition_found ts x e = finds_whole (factor_first 64) (finds_factor 64) ts x e
