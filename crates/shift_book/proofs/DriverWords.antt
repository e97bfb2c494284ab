-- Words that are drivers.
use Rattle.std.{specs.List.{prefix_len}, proofs.lemmas.List.Sums.{prefix_len-le-length}}
use Rattle.std.{specs.Prelude.{◌==◌, ◌||◌, IfNone, IfSome, nat_lt}, proofs.lemmas.List.{append-nil, take-append-drop}}
use Rattle.std.proofs.Common.{[], ℕ, ◌++◌, ◌↔◌, ◌∙◌, ◌∷◌, ◌≡◌, ◌≤◌, Bool, List, None, Option, Some, ap, arith, cond}
use Rattle.std.proofs.{Common.{drop, false, length, length-take, refl, subst, sym, take, true}, lemmas.Bool.{ltb-false}}
use Rattle.shift_book.{specs.Common.{◌>>=◌, Gives, is_identifier_character}, proofs.Drivers.{front_passes}}
use Rattle.shift_book.specs.{Marks.{IsDriver, PassAll}, Reading.{alone, counted_driver, driver_at, driver_of}}
use Rattle.shift_book.{specs.Shares.{Driver}, proofs.Again.{driver_back}}

pub value_of : {X : Type 0} (a b : X) → Some a ≡ Some b → a ≡ b
value_of a b e = cc

counted : (count : ℕ) (text : List ℕ) (found : List ℕ × List ℕ) → count ≤ length text
    → PassAll is_identifier_character (take count text) → counted_driver count text ≡ Some found
    → IsDriver found.0 × (found.0 ++ found.1 ≡ text)
counted count text found within pass e = by (count == 0) (nat_lt 16 count) refl refl e
  where
    by : (a b : Bool) → (count == 0) ≡ a → nat_lt 16 count ≡ b
        → cond (a || b) None (Some (take count text, drop count text)) ≡ Some found
        → IsDriver found.0 × (found.0 ++ found.1 ≡ text)
    by true b zeros large none = absurd cc
    by false true zeros large none = absurd cc
    by false false zeros large some =
        let few : count ≤ 16 = ltb-false 16 count large in
        let more : 1 ≤ count = grind arith in
        subst (λ (x : List ℕ × List ℕ). IsDriver x.0 × (x.0 ++ x.1 ≡ text))
        (value_of (take count text, drop count text) found some) (
          record {
            some = omega (arith, length-take count text);
            few = omega (arith, length-take count text);
            characters = pass;
          },
          take-append-drop count text,
        )

-- what is read at the front of a text is a driver, and stands there
pub driver_read : (text : List ℕ) (found : List ℕ × List ℕ) → driver_at text ≡ Some found
    → IsDriver found.0 × (found.0 ++ found.1 ≡ text)
unfolding driver_at
driver_read text found e = counted (prefix_len is_identifier_character text) text found
    (prefix_len-le-length is_identifier_character text) (front_passes is_identifier_character text) e

-- a driver is read as it is
driver_word : (word : List ℕ) → IsDriver word → driver_of word ≡ Some word
unfolding driver_of
driver_word word valid = ap (λ (o : Option (List ℕ × List ℕ)). o >>= (λ found. alone found))
    (ap driver_at (sym (append-nil word)) ∙ driver_back word [] valid refl)

is_driver : (word driver : List ℕ) → driver_of word ≡ Some driver → IsDriver word × (word ≡ driver)
unfolding driver_of
is_driver word driver read = by (driver_at word) refl read
  where
    by : (found : Option (List ℕ × List ℕ)) → driver_at word ≡ found → (found >>= (λ both. alone both)) ≡ Some driver
        → IsDriver word × (word ≡ driver)
    by None is none = absurd cc
    by (Some (text, [])) is one =
        let found = driver_read word (text, []) is in
        let whole : text ≡ word = sym (append-nil text) ∙ found.1 in
        (subst IsDriver whole found.0, sym whole ∙ value_of text driver one)
    by (Some (text, c ∷ cs)) is none = absurd cc

pub drivers_are_their_words : (word driver : List ℕ) → (driver_of word ≡ Some driver)
    ↔ (IsDriver word × (word ≡ driver))
drivers_are_their_words word driver = (
  is_driver word driver,
  λ (both : IsDriver word × (word ≡ driver)).
      subst (λ (text : List ℕ). driver_of word ≡ Some text) both.1 (driver_word word both.0),
)

-- the same of what a call answers
pub driver_told : (word : List ℕ) (answer : Option Driver) → Gives (λ driver. driver.items) answer (driver_of word)
    → IfSome answer (λ driver. (driver.items ≡ word) × IsDriver word)
driver_told word (Some driver) read =
    let is = is_driver word driver.items read in (sym is.1, is.0)
driver_told word None read = tt

pub no_driver_told : (word : List ℕ) (answer : Option Driver) → Gives (λ driver. driver.items) answer (driver_of word)
    → IfNone answer (¬ (IsDriver word))
no_driver_told word (Some driver) read = tt
no_driver_told word None read = λ valid. let some = driver_word word valid in absurd cc
