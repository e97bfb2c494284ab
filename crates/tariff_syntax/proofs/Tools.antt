-- Tools for reading that may fail.
use Rattle.std.{specs.Str.{bytes_eq}, proofs.{Common.{sym, true}, lemmas.Slice.Eq.{bytes_eq-Decides}}}
use Rattle.std.proofs.Common.{[], ℕ, ◌∷◌, ◌≡◌, ◌⊎◌, Bool, List, None, Option, Some, cond, false, inl, inr, refl, subst}
use Rattle.tariff_syntax.specs.{Common.{◌>>=◌}, Words.{after_sign, after_word, ended, figure_first, word_first}}
use Rattle.tariff_syntax.specs.Token.{Token, figure, sign, word}

-- something that was read on from something that was read
pub bind_some : {A B : Type 0} (o : Option A) (f : A → Option B) (y : B) → (o >>= f) ≡ Some y
    → (x : A) × (o ≡ Some x) × (f x ≡ Some y)
bind_some None f y e = absurd cc
bind_some (Some x) f y e = (x, refl, e)

-- one of two
pub chosen : {A : Type 0} (b : Bool) (x y z : A) → cond b x y ≡ z → ((b ≡ true) × (x ≡ z)) ⊎ ((b ≡ false) × (y ≡ z))
chosen true x y z e = inl (refl, e)
chosen false x y z e = inr (refl, e)

-- what stands behind a test that passed
pub passed : {A : Type 0} (b : Bool) (x z : A) → cond b (Some x) None ≡ Some z → (b ≡ true) × (x ≡ z)
passed true x z e = (refl, cc)
passed false x z e = absurd cc

pub same_text : (a b : List ℕ) → bytes_eq a b ≡ true → a ≡ b
same_text a b e = (bytes_eq-Decides a b).0 e

pub text_same : (a : List ℕ) → bytes_eq a a ≡ true
text_same a = (bytes_eq-Decides a a).1 refl

-- what was read is read behind this word, or behind another
pub by_word : {A : Type 0} (P : List ℕ → Type 0) (name text : List ℕ) (read other : Option A) (x : A)
    → cond (bytes_eq name text) read other ≡ Some x → (read ≡ Some x → P text) → (other ≡ Some x → P name) → P name
by_word P name text read other x e here others = elim (chosen (bytes_eq name text) read other (Some x) e) [
  | inl a ↦ subst P (sym (same_text name text a.0)) (here a.1)
  | inr a ↦ others a.1
]

pub ended_is : {A B : Type 0} (ts : List B) (x y : A) → ended ts x ≡ Some y → (ts ≡ []) × (x ≡ y)
ended_is [] x y e = (refl, cc)
ended_is (t ∷ ts) x y e = absurd cc

pub after_word_is : (text : List ℕ) (ts rest : List Token) → after_word text ts ≡ Some rest → ts ≡ word text ∷ rest
unfolding after_word
after_word_is text [] rest e = absurd cc
after_word_is text (word w ∷ ts) rest e =
    let test = passed (bytes_eq w text) ts rest e in
    let same = same_text w text test.0 in
    let behind : ts ≡ rest = test.1 in
    cc
after_word_is text (figure f ∷ ts) rest e = absurd cc
after_word_is text (sign s ∷ ts) rest e = absurd cc

pub after_word_here : (text : List ℕ) (rest : List Token) → after_word text (word text ∷ rest) ≡ Some rest
unfolding after_word
after_word_here text rest = rw (text_same text) refl

pub after_sign_is : (text : List ℕ) (ts rest : List Token) → after_sign text ts ≡ Some rest → ts ≡ sign text ∷ rest
unfolding after_sign
after_sign_is text [] rest e = absurd cc
after_sign_is text (word w ∷ ts) rest e = absurd cc
after_sign_is text (figure f ∷ ts) rest e = absurd cc
after_sign_is text (sign s ∷ ts) rest e =
    let test = passed (bytes_eq s text) ts rest e in
    let same = same_text s text test.0 in
    let behind : ts ≡ rest = test.1 in
    cc

pub after_sign_here : (text : List ℕ) (rest : List Token) → after_sign text (sign text ∷ rest) ≡ Some rest
unfolding after_sign
after_sign_here text rest = rw (text_same text) refl

pub word_first_is : (ts : List Token) (x : List ℕ × List Token) → word_first ts ≡ Some x → ts ≡ word x.0 ∷ x.1
unfolding word_first
word_first_is [] x e = absurd cc
word_first_is (word w ∷ ts) x e = cc
word_first_is (figure f ∷ ts) x e = absurd cc
word_first_is (sign s ∷ ts) x e = absurd cc

pub word_first_here : (w : List ℕ) (rest : List Token) → word_first (word w ∷ rest) ≡ Some (w, rest)
unfolding word_first
word_first_here w rest = refl

pub figure_first_is : (ts : List Token) (x : List ℕ × List Token) → figure_first ts ≡ Some x → ts ≡ figure x.0 ∷ x.1
unfolding figure_first
figure_first_is [] x e = absurd cc
figure_first_is (word w ∷ ts) x e = absurd cc
figure_first_is (figure f ∷ ts) x e = cc
figure_first_is (sign s ∷ ts) x e = absurd cc

pub figure_first_here : (f : List ℕ) (rest : List Token) → figure_first (figure f ∷ rest) ≡ Some (f, rest)
unfolding figure_first
figure_first_here f rest = refl

pub some_same : {A : Type 0} (x y : A) → Some x ≡ Some y → x ≡ y
some_same x y e = cc
