-- First bad lines and runs of lists of lines, of which more come.
use Rattle.std.{specs.List.{flat_map, position_from, take_while}, proofs.lemmas.List.Sums.{take_while-cons}}
use Rattle.std.proofs.Common.{[], ℕ, ◌++◌, ◌+◌, ◌∙◌, ◌∷◌, ◌≡◌, Bool, List, None, Option, Some, ap, append_assoc, arith}
use Rattle.std.proofs.Common.{cond, false, is_none, is_some, length, refl, sym, true, unwrap_or}
use Rattle.{std.proofs.lemmas.List.{append-nil}, drive_text.specs.Drive.{first_bad_line, runs_of_lines}}
use Rattle.drive_text.specs.{Fields.{line_runs}, declared.run.Run.{Run}}

module _ {X : Type 0} (p : X → Bool) where
  position_stays_by : (t : Bool) (x : X) (i n : ℕ) (xs ys : List X) → (position_from p (i + 1) xs ≡ Some n
      → position_from p (i + 1) (xs ++ ys) ≡ Some n) → cond t (Some i) (position_from p (i + 1) xs) ≡ Some n
      → cond t (Some i) (position_from p (i + 1) (xs ++ ys)) ≡ Some n
  position_stays_by true x i n xs ys more h = h
  position_stays_by false x i n xs ys more h = more h

  -- a first place stays the first
  pub position_stays : (i n : ℕ) (xs ys : List X) → position_from p i xs ≡ Some n
      → position_from p i (xs ++ ys) ≡ Some n
  position_stays i n [] ys h = cc
  position_stays i n (x ∷ xs) ys h = position_stays_by (p x) x i n xs ys (position_stays (i + 1) n xs ys) h

  position_next_by : (t : Bool) (x : X) (i : ℕ) (xs ys : List X) → (position_from p (i + 1) xs ≡ None → position_from p
      (i + 1) (xs ++ ys) ≡ position_from p (i + 1 + length xs) ys) → cond t (Some i) (position_from p (i + 1) xs) ≡ None
      → cond t (Some i) (position_from p (i + 1) (xs ++ ys)) ≡ position_from p (i + length (x ∷ xs)) ys
  position_next_by true x i xs ys more h = cc
  position_next_by false x i xs ys more h =
      let e : i + 1 + length xs ≡ i + length (x ∷ xs) = omega arith in
      more h ∙ ap (λ (k : ℕ). position_from p k ys) e

  -- if there is none, the first is among those that come
  pub position_next : (i : ℕ) (xs ys : List X) → position_from p i xs ≡ None
      → position_from p i (xs ++ ys) ≡ position_from p (i + length xs) ys
  position_next i [] ys h = let e : i ≡ i + 0 = omega arith in ap (λ (k : ℕ). position_from p k ys) e
  position_next i (x ∷ xs) ys h = position_next_by (p x) x i xs ys (position_next (i + 1) xs ys) h

module _ {X : Type 0} (m : X → Option (List Run)) where
  -- the runs of the items while they have some
  abbrev pub runs_while : List X → List Run
  runs_while xs = flat_map (λ x. unwrap_or (m x) []) (take_while (λ x. is_some (m x)) xs)

  -- the runs of one more
  abbrev pub and_then : Option (List Run) → List Run → List Run
  and_then None more = []
  and_then (Some es) more = es ++ more

  runs_while_by : (o : Option (List Run)) (x : X) (xs : List X) → m x ≡ o
      → runs_while (x ∷ xs) ≡ and_then o (runs_while xs)
  runs_while_by None x xs e =
      ap (flat_map (λ y. unwrap_or (m y) [])) (take_while-cons (λ y. is_some (m y)) x xs) ∙ rw e refl
  runs_while_by (Some es) x xs e =
      ap (flat_map (λ y. unwrap_or (m y) [])) (take_while-cons (λ y. is_some (m y)) x xs) ∙ rw e (rw e refl)

  pub runs_while-cons : (x : X) (xs : List X) → runs_while (x ∷ xs) ≡ and_then (m x) (runs_while xs)
  runs_while-cons x xs = runs_while_by (m x) x xs refl

  after_bad_by : (o : Option (List Run)) (x : X) (i n : ℕ) (xs ys : List X) → m x ≡ o
      → (position_from (λ y. is_none (m y)) (i + 1) xs ≡ Some n → runs_while (xs ++ ys) ≡ runs_while xs)
      → cond (is_none o) (Some i) (position_from (λ y. is_none (m y)) (i + 1) xs) ≡ Some n
      → and_then o (runs_while (xs ++ ys)) ≡ and_then o (runs_while xs)
  after_bad_by None x i n xs ys e more h = refl
  after_bad_by (Some es) x i n xs ys e more h = ap (λ (l : List Run). es ++ l) (more h)

  -- nothing comes after the first bad one
  pub after_bad : (i n : ℕ) (xs ys : List X) → position_from (λ y. is_none (m y)) i xs ≡ Some n
      → runs_while (xs ++ ys) ≡ runs_while xs
  after_bad i n [] ys h = cc
  after_bad i n (x ∷ xs) ys h = runs_while-cons x (xs ++ ys)
      ∙ (after_bad_by (m x) x i n xs ys refl (after_bad (i + 1) n xs ys) h ∙ sym (runs_while-cons x xs))

  after_good_by : (o : Option (List Run)) (x : X) (i : ℕ) (xs ys : List X)
      → (position_from (λ y. is_none (m y)) (i + 1) xs ≡ None → runs_while (xs ++ ys) ≡ runs_while xs ++ runs_while ys)
      → cond (is_none o) (Some i) (position_from (λ y. is_none (m y)) (i + 1) xs) ≡ None
      → and_then o (runs_while (xs ++ ys)) ≡ and_then o (runs_while xs) ++ runs_while ys
  after_good_by None x i xs ys more h = cc
  after_good_by (Some es) x i xs ys more h =
      ap (λ (l : List Run). es ++ l) (more h) ∙ sym (append_assoc es (runs_while xs) (runs_while ys))

  -- if none is bad, the runs of those that come follow
  pub after_good : (i : ℕ) (xs ys : List X) → position_from (λ y. is_none (m y)) i xs ≡ None
      → runs_while (xs ++ ys) ≡ runs_while xs ++ runs_while ys
  after_good i [] ys h = refl
  after_good i (x ∷ xs) ys h = runs_while-cons x (xs ++ ys) ∙ (after_good_by (m x) x i xs ys
      (after_good (i + 1) xs ys) h ∙ sym (ap (λ (l : List Run). l ++ runs_while ys) (runs_while-cons x xs)))

-- a first bad line stays the first
pub first_bad_line-append : (lines more : List (List ℕ)) (n : ℕ) → first_bad_line lines ≡ Some n
    → first_bad_line (lines ++ more) ≡ Some n
first_bad_line-append lines more n h = position_stays (λ line. is_none (line_runs line)) 1 n lines more h

-- the runs of lines stay if there is a bad one
pub runs_of_lines-bad : (lines more : List (List ℕ)) (n : ℕ) → first_bad_line lines ≡ Some n
    → runs_of_lines (lines ++ more) ≡ runs_of_lines lines
runs_of_lines-bad lines more n h = after_bad line_runs 1 n lines more h

-- and those of the lines that come follow if there is none
pub runs_of_lines-good : (lines more : List (List ℕ)) → first_bad_line lines ≡ None
    → runs_of_lines (lines ++ more) ≡ runs_of_lines lines ++ runs_of_lines more
runs_of_lines-good lines more h = after_good line_runs 1 lines more h

one_bad_by : (o : Option (List Run)) (n : ℕ) → o ≡ None → cond (is_none o) (Some n) None ≡ Some n
one_bad_by None n e = refl
one_bad_by (Some es) n e = cc

-- a line more is the first bad one if it is bad
pub first_bad_line-bad : (lines : List (List ℕ)) (line : List ℕ) → first_bad_line lines ≡ None → line_runs line ≡ None
    → first_bad_line (lines ++ line ∷ []) ≡ Some (length lines + 1)
first_bad_line-bad lines line h e =
    let number : 1 + length lines ≡ length lines + 1 = omega arith in
    position_next (λ l. is_none (line_runs l)) 1 lines (line ∷ []) h
    ∙ (one_bad_by (line_runs line) (1 + length lines) e ∙ ap Some number)

one_good_by : (o : Option (List Run)) (es : List Run) (n : ℕ) → o ≡ Some es → cond (is_none o) (Some n) None ≡ None
one_good_by None es n e = cc
one_good_by (Some fs) es n e = refl

-- and is none if it isn't
pub first_bad_line-good : (lines : List (List ℕ)) (line : List ℕ) (es : List Run) → first_bad_line lines ≡ None
    → line_runs line ≡ Some es → first_bad_line (lines ++ line ∷ []) ≡ None
first_bad_line-good lines line es h e =
    position_next (λ l. is_none (line_runs l)) 1 lines (line ∷ []) h
    ∙ one_good_by (line_runs line) es (1 + length lines) e

-- the runs of one line
pub runs_of_lines-bad_one : (line : List ℕ) → line_runs line ≡ None → runs_of_lines (line ∷ []) ≡ []
runs_of_lines-bad_one line e = runs_while-cons line_runs line [] ∙ ap (λ o. and_then line_runs o []) e

pub runs_of_lines-one : (line : List ℕ) (es : List Run) → line_runs line ≡ Some es → runs_of_lines (line ∷ []) ≡ es
runs_of_lines-one line es e = runs_while-cons line_runs line [] ∙ (ap (λ o. and_then line_runs o []) e ∙ append-nil es)
