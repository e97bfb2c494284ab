-- A word is read where it stands at the front of a text.
use Rattle.std.{specs.Str.{bytes_eq}, proofs.{Common.{take, true}, Math.Seq.{drop-append_seam, take-append_seam}}}
use Rattle.std.proofs.Common.{ℕ, ◌++◌, ◌↔◌, ◌∙◌, ◌≡◌, Bool, List, None, Some, ap, cond, drop, false, length, refl, sym}
use Rattle.std.proofs.lemmas.{List.{take-append-drop}, Slice.Eq.{bytes_eq-Decides}}
use Rattle.taxi_units.specs.Reading.{word_at}

word_found : (b : Bool) (word text rest : List ℕ) → (b ≡ true → take (length word) text ≡ word)
    → cond b (Some (drop (length word) text)) None ≡ Some rest → text ≡ word ++ rest
word_found true word text rest front e =
    let after : drop (length word) text ≡ rest = cc in
    sym (take-append-drop (length word) text)
    ∙ (ap (λ (xs : List ℕ). xs ++ drop (length word) text) (front refl) ∙ ap (λ (xs : List ℕ). word ++ xs) after)
word_found false word text rest front e = absurd cc

pub word_again : (word rest : List ℕ) → word_at word (word ++ rest) ≡ Some rest
unfolding word_at
word_again word rest =
    rw (take-append_seam word rest, drop-append_seam word rest, (bytes_eq-Decides word word).1 refl) refl

pub words_are_read_by_their_text : (word text rest : List ℕ) → (word_at word text ≡ Some rest) ↔ (text ≡ word ++ rest)
unfolding word_at
words_are_read_by_their_text word text rest = (
  word_found (bytes_eq (take (length word) text) word) word text rest
      (bytes_eq-Decides (take (length word) text) word).0,
  λ e. ap (word_at word) e ∙ word_again word rest,
)
