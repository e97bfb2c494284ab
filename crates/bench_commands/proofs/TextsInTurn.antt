-- Texts line by line, and numbered texts one after the other.
use Rattle.std.proofs.Common.{[], ℕ, ◌++◌, ◌+◌, ◌<◌, ◌∙◌, ◌∷◌, ◌≡◌, List, ap, append_assoc, arith, drop, drop-cons}
use Rattle.std.proofs.{Common.{flat_map, get_or, length, map, subst, suc, sym}, lemmas.List.{append-nil}}
use Rattle.{std.proofs.Math.Seq.{drop-length}, bench_commands.specs.ExplainedText.{numbered_texts}}

-- an element, and those behind it
here : {A : Type 0} (xs : List A) (i : ℕ) (d : A) → i < length xs → drop i xs ≡ get_or xs i d ∷ drop (i + 1) xs
here {A = A} xs i d within =
    let next : suc i ≡ i + 1 = omega arith in
    drop-cons xs i d within ∙ ap (λ (n : ℕ). get_or xs i d ∷ drop n xs) next

none_left : {A : Type 0} (xs : List A) (i : ℕ) → i ≡ length xs → drop i xs ≡ []
none_left {A = A} xs i is = ap (λ (n : ℕ). drop n xs) is ∙ drop-length xs

-- a line more, and no line more
module _ {A : Type 0} (line : A → List ℕ) (xs : List A) (all : List ℕ) where
  pub line_more : (i : ℕ) (d : A) (text next : List ℕ) → i < length xs → text ++ flat_map line (drop i xs) ≡ all
      → next ≡ text ++ line (get_or xs i d) → next ++ flat_map line (drop (i + 1) xs) ≡ all
  line_more i d text next within so_far is =
      ap (λ (t : List ℕ). t ++ flat_map line (drop (i + 1) xs)) is
      ∙ append_assoc text (line (get_or xs i d)) (flat_map line (drop (i + 1) xs))
      ∙ subst (λ (ys : List A). text ++ flat_map line ys ≡ all) (here xs i d within) so_far

  pub lines_all : (i : ℕ) (text : List ℕ) → i ≡ length xs → text ++ flat_map line (drop i xs) ≡ all → text ≡ all
  lines_all i text is so_far =
      sym (append-nil text) ∙ subst (λ (ys : List A). text ++ flat_map line ys ≡ all) (none_left xs i is) so_far

-- a numbered text more, and no more
module _ {A B : Type 0} (line : (number : ℕ) → B → List ℕ) (view : A → B) (xs : List A) (all : List ℕ) where
  pub numbered_more : (i number : ℕ) (d : A) (text next : List ℕ) → i < length xs
      → text ++ numbered_texts line (number + 1) (map view (drop i xs)) ≡ all
      → next ≡ text ++ line (number + 1) (view (get_or xs i d))
      → next ++ numbered_texts line (number + 1 + 1) (map view (drop (i + 1) xs)) ≡ all
  unfolding numbered_texts
  numbered_more i number d text next within so_far is =
      ap (λ (t : List ℕ). t ++ numbered_texts line (number + 1 + 1) (map view (drop (i + 1) xs))) is
      ∙ append_assoc text (line (number + 1) (view (get_or xs i d)))
      (numbered_texts line (number + 1 + 1) (map view (drop (i + 1) xs)))
      ∙ subst (λ (ys : List A). text ++ numbered_texts line (number + 1) (map view ys) ≡ all)
      (here xs i d within) so_far

  pub numbered_all : (i number : ℕ) (text : List ℕ) → i ≡ length xs
      → text ++ numbered_texts line number (map view (drop i xs)) ≡ all → text ≡ all
  unfolding numbered_texts
  numbered_all i number text is so_far =
      sym (append-nil text)
      ∙ subst (λ (ys : List A). text ++ numbered_texts line number (map view ys) ≡ all) (none_left xs i is) so_far
