-- Names are read as their numbers.
use Rattle.std.proofs.Common.{[], ℕ, ◌++◌, ◌+◌, ◌-◌, ◌<◌, ◌∙◌, ◌∷◌, ◌≡◌, ◌≤◌, List, None, Option, Some, ap, arith}
use Rattle.{std.proofs.Common.{get_or, length, refl, subst, suc, zero}, taxi_units.specs.Reading.{word_at}}
use Rattle.{taxi_units.proofs.Laws.{words_are_read_by_their_text}, offset_rules.specs.Common.{day_names}}
use Rattle.offset_rules.specs.{Names.{IsName, month_names, name_of, number_names}, Reading.{found_or, numbered_at}}

-- a name that stands at the front gives its number
pub name_here : (number : ℕ) (found : Option (List ℕ)) (rest : List ℕ) (others : Option (ℕ × List ℕ))
    → found ≡ Some rest → found_or number found others ≡ Some (number, rest)
name_here number found rest others is = rw is refl

-- and one that doesn't leaves it to the others
pub name_later : (number : ℕ) (found : Option (List ℕ)) (others x : Option (ℕ × List ℕ)) → found ≡ None → others ≡ x
    → found_or number found others ≡ x
name_later number found others x none is = rw none is

-- a name stands at the front, and the names are numbered from one on
record NamedFrom (names : List (List ℕ)) (first : ℕ) (text : List ℕ) (x : ℕ × List ℕ) : Type 0 where
  place : ℕ
  within : place < length names
  number_is : x.0 ≡ first + place
  text_is : text ≡ get_or names place [] ++ x.1

named_from : (names : List (List ℕ)) (first : ℕ) (text : List ℕ) (x : ℕ × List ℕ)
    → numbered_at names first text ≡ Some x → NamedFrom names first text x
named_from [] first text x e = absurd cc
named_from (name ∷ names) first text x e =
    by name names first text x (word_at name text) refl e (named_from names (first + 1) text x)
  where
    by : (name : List ℕ) (names : List (List ℕ)) (first : ℕ) (text : List ℕ) (x : ℕ × List ℕ) (found : Option (List ℕ))
        → word_at name text ≡ found → found_or first found (numbered_at names (first + 1) text) ≡ Some x
        → (numbered_at names (first + 1) text ≡ Some x → NamedFrom names (first + 1) text x)
        → NamedFrom (name ∷ names) first text x
    by name names first text x (Some rest) is e later =
        let same : (first, rest) ≡ x = cc in
        let there : NamedFrom (name ∷ names) first text (first, rest) = record {
          place = 0;
          within = omega arith;
          number_is = omega arith;
          text_is = (words_are_read_by_their_text name text rest).0 is;
        } in
        subst (NamedFrom (name ∷ names) first text) same there
    by name names first text x None is e later =
        let there = later e in
        record {
          place = suc there.place;
          within = omega (arith, there.within);
          number_is = omega (arith, there.number_is);
          text_is = there.text_is;
        }

-- a name of a list stands at the front
pub record NameFirst (names : List (List ℕ)) (text : List ℕ) (number : ℕ) (rest : List ℕ) : Type 0 where
  pub name : List ℕ
  pub text_is : text ≡ name ++ rest
  pub is : IsName names number name

pub name_is : (names : List (List ℕ)) (text : List ℕ) (x : ℕ × List ℕ) → numbered_at names 1 text ≡ Some x
    → NameFirst names text x.0 x.1
name_is names text x e =
    let there = named_from names 1 text x e in
    let place : there.place ≡ x.0 - 1 = omega (arith, there.number_is) in
    record {
      name = name_of names x.0;
      text_is = there.text_is ∙ ap (λ (k : ℕ). get_or names k [] ++ x.1) place;
      is = (omega (arith, there.number_is), omega (arith, there.number_is, there.within), refl);
    }

number_again : (number : ℕ) (rest : List ℕ) → 1 ≤ number → number ≤ 5
    → numbered_at number_names 1 (name_of number_names number ++ rest) ≡ Some (number, rest)
unfolding word_at
number_again zero rest low high = absurd (omega arith)
number_again (suc zero) rest low high = refl
number_again (suc (suc zero)) rest low high = refl
number_again (suc (suc (suc zero))) rest low high = refl
number_again (suc (suc (suc (suc zero)))) rest low high = refl
number_again (suc (suc (suc (suc (suc zero))))) rest low high = refl
number_again (suc (suc (suc (suc (suc (suc more)))))) rest low high = absurd (omega arith)

day_again : (number : ℕ) (rest : List ℕ) → 1 ≤ number → number ≤ 7
    → numbered_at day_names 1 (name_of day_names number ++ rest) ≡ Some (number, rest)
unfolding word_at
day_again zero rest low high = absurd (omega arith)
day_again (suc zero) rest low high = refl
day_again (suc (suc zero)) rest low high = refl
day_again (suc (suc (suc zero))) rest low high = refl
day_again (suc (suc (suc (suc zero)))) rest low high = refl
day_again (suc (suc (suc (suc (suc zero))))) rest low high = refl
day_again (suc (suc (suc (suc (suc (suc zero)))))) rest low high = refl
day_again (suc (suc (suc (suc (suc (suc (suc zero))))))) rest low high = refl
day_again (suc (suc (suc (suc (suc (suc (suc (suc more)))))))) rest low high = absurd (omega arith)

month_again : (number : ℕ) (rest : List ℕ) → 1 ≤ number → number ≤ 12
    → numbered_at month_names 1 (name_of month_names number ++ rest) ≡ Some (number, rest)
unfolding word_at
month_again zero rest low high = absurd (omega arith)
month_again (suc zero) rest low high = refl
month_again (suc (suc zero)) rest low high = refl
month_again (suc (suc (suc zero))) rest low high = refl
month_again (suc (suc (suc (suc zero)))) rest low high = refl
month_again (suc (suc (suc (suc (suc zero))))) rest low high = refl
month_again (suc (suc (suc (suc (suc (suc zero)))))) rest low high = refl
month_again (suc (suc (suc (suc (suc (suc (suc zero))))))) rest low high = refl
month_again (suc (suc (suc (suc (suc (suc (suc (suc zero)))))))) rest low high = refl
month_again (suc (suc (suc (suc (suc (suc (suc (suc (suc zero))))))))) rest low high = refl
month_again (suc (suc (suc (suc (suc (suc (suc (suc (suc (suc zero)))))))))) rest low high = refl
month_again (suc (suc (suc (suc (suc (suc (suc (suc (suc (suc (suc zero))))))))))) rest low high = refl
month_again (suc (suc (suc (suc (suc (suc (suc (suc (suc (suc (suc (suc zero)))))))))))) rest low high = refl
month_again (suc (suc (suc (suc (suc (suc (suc (suc (suc (suc (suc (suc (suc more))))))))))))) rest low high =
    absurd (omega arith)

pub number_from : (name rest : List ℕ) (number : ℕ) → IsName number_names number name
    → numbered_at number_names 1 (name ++ rest) ≡ Some (number, rest)
number_from name rest number is =
    ap (λ (t : List ℕ). numbered_at number_names 1 (t ++ rest)) is.2 ∙ number_again number rest is.0 is.1

pub day_from : (name rest : List ℕ) (number : ℕ) → IsName day_names number name
    → numbered_at day_names 1 (name ++ rest) ≡ Some (number, rest)
day_from name rest number is =
    ap (λ (t : List ℕ). numbered_at day_names 1 (t ++ rest)) is.2 ∙ day_again number rest is.0 is.1

pub month_from : (name rest : List ℕ) (number : ℕ) → IsName month_names number name
    → numbered_at month_names 1 (name ++ rest) ≡ Some (number, rest)
month_from name rest number is =
    ap (λ (t : List ℕ). numbered_at month_names 1 (t ++ rest)) is.2 ∙ month_again number rest is.0 is.1
