-- The first bad line and the runs of a text are those that its lines say.
use Rattle.{std.specs.List.{position_from}, drive_text.proofs.Parts.{lines_of, one_line, text_append}}
use Rattle.std.proofs.Common.{[], ℕ, ◌++◌, ◌+◌, ◌↔◌, ◌∙◌, ◌∷◌, ◌≡◌, ◌⊎◌, All, Bool, List, None, Option, Some, ap}
use Rattle.std.proofs.Common.{append_assoc, arith, cond, eqb, false, inl, inr, is_none, length, refl, subst, sym, true}
use Rattle.std.proofs.{Math.Seq.{drop-append_seam, take-append_seam}, lemmas.Bool.{eqb-true}}
use Rattle.std.proofs.lemmas.List.{append-nil, Elements.{All-append, All-cons, All-drop, All-head, All-nil, All-take}}
use Rattle.drive_text.specs.Drive.{bad_at_end, first_bad, first_bad_line, or_else, runs_in, runs_of_lines}
use Rattle.drive_text.specs.{Fields.{line_runs}, Lines.{IsOneLine, ended_lines, is_too_long, text_of, unfinished_line}}
use Rattle.drive_text.specs.Whole.{BreaksAt, EndsWhole, GiveAll, HasBadLine, IsBad, IsGood, IsReadAs}
use Rattle.drive_text.{specs.Whole.GiveAll.{no_line, one_more}, proofs.Cuts.{bad_ended, bad_long, why_bad}}
use Rattle.drive_text.specs.declared.run.Run.{Run}
use Rattle.drive_text.proofs.{LineLaw.{lines_make_the_text}, ReaderPlaces.{none_by, none_of}, Table.{line_runs-table}}
use Rattle.drive_text.proofs.Positions.{and_then, first_bad_line-append, first_bad_line-bad, runs_of_lines-bad}
use Rattle.drive_text.proofs.Positions.{runs_of_lines-bad_one, runs_of_lines-good, runs_while-cons}

-- if the first of lines that are counted from a number is bad
abbrev found_from : ℕ → List (List ℕ) → Option ℕ
found_from i lines = position_from (λ line. is_none (line_runs line)) i lines

good_by : (o : Option (List Run)) (line : List ℕ) (lines : List (List ℕ)) (i : ℕ) → line_runs line ≡ o
    → cond (is_none o) (Some i) (found_from (i + 1) lines) ≡ None
    → (found_from (i + 1) lines ≡ None → GiveAll lines (runs_of_lines lines))
    → GiveAll (line ∷ lines) (and_then line_runs o (runs_of_lines lines))
good_by None line lines i e h rest = absurd (cc)
good_by (Some rs) line lines i e h rest =
    one_more line lines rs (runs_of_lines lines) ((line_runs-table line rs).0 e) (rest h)

-- lines of which none is bad give their runs
all_give : (i : ℕ) (lines : List (List ℕ)) → found_from i lines ≡ None → GiveAll lines (runs_of_lines lines)
all_give i [] h = no_line
all_give i (line ∷ lines) h = subst (GiveAll (line ∷ lines)) (sym (runs_while-cons line_runs line lines))
    (good_by (line_runs line) line lines i refl h (all_give (i + 1) lines))

-- the first bad one of lines that are counted from a number
record First (i n : ℕ) (lines : List (List ℕ)) (runs : List Run) : Type 0 where
  before : List (List ℕ)
  line : List ℕ
  after : List (List ℕ)
  split : lines ≡ before ++ line ∷ after
  place : n ≡ i + length before
  give : GiveAll before runs
  bad : line_runs line ≡ None

first_by : (o : Option (List Run)) (line : List ℕ) (lines : List (List ℕ)) (i n : ℕ) → line_runs line ≡ o
    → cond (is_none o) (Some i) (found_from (i + 1) lines) ≡ Some n
    → (found_from (i + 1) lines ≡ Some n → First (i + 1) n lines (runs_of_lines lines))
    → First i n (line ∷ lines) (and_then line_runs o (runs_of_lines lines))
first_by None line lines i n e h rest =
    let same : i ≡ n = cc in
    record {
      before = [];
      line = line;
      after = lines;
      split = refl;
      place = omega (arith, same);
      give = no_line;
      bad = e;
    }
first_by (Some rs) line lines i n e h rest =
    let r = rest h in
    record {
      before = line ∷ r.before;
      line = r.line;
      after = r.after;
      split = ap (λ (x : List (List ℕ)). line ∷ x) r.split;
      place = omega (arith, r.place);
      give = one_more line r.before rs (runs_of_lines lines) ((line_runs-table line rs).0 e) r.give;
      bad = r.bad;
    }

first_found : (i n : ℕ) (lines : List (List ℕ)) → found_from i lines ≡ Some n → First i n lines (runs_of_lines lines)
first_found i n [] h = absurd (cc)
first_found i n (line ∷ lines) h = subst (First i n (line ∷ lines)) (sym (runs_while-cons line_runs line lines))
    (first_by (line_runs line) line lines i n refl h (first_found (i + 1) n lines))

-- lines that give runs: none is bad, and these are their runs
none_found : (i : ℕ) (lines : List (List ℕ)) (runs : List Run) → GiveAll lines runs → found_from i lines ≡ None
none_found i lines runs no_line = refl
none_found i lines runs (one_more line more these others m g) =
    let e : line_runs line ≡ Some these = (line_runs-table line these).1 m in
    rw e (none_found (i + 1) more others g)

runs_given : (lines : List (List ℕ)) (runs : List Run) → GiveAll lines runs → runs_of_lines lines ≡ runs
runs_given lines runs no_line = refl
runs_given lines runs (one_more line more these others m g) =
    let e : line_runs line ≡ Some these = (line_runs-table line these).1 m in
    runs_while-cons line_runs line more ∙ (ap (λ (o : Option (List Run)). and_then line_runs o (runs_of_lines more)) e
    ∙ ap (λ (x : List Run). these ++ x) (runs_given more others g))

bad_by : (o : Option (List Run)) (line : List ℕ) → line_runs line ≡ o → IsBad line → line_runs line ≡ None
bad_by None line e h = e
bad_by (Some rs) line e h = absurd (h rs ((line_runs-table line rs).0 e))

no_runs_of : (line : List ℕ) → line_runs line ≡ None → IsBad line
no_runs_of line e = λ rs m. let f : line_runs line ≡ Some rs = (line_runs-table line rs).1 m in absurd (cc)

-- ---- from the code's words to the lines

is_good : (bytes : List ℕ) (runs : List Run) → first_bad bytes ≡ None → runs_in bytes ≡ runs → IsGood bytes runs
is_good bytes runs none is =
    let l = lines_of bytes in
    let n = none_by (first_bad_line (ended_lines bytes)) (is_too_long (unfinished_line bytes))
    (length (ended_lines bytes) + 1) none in
    record {
      lines = ended_lines bytes;
      unfinished = unfinished_line bytes;
      text = l.0;
      ended = l.1;
      last = l.2;
      give = subst (GiveAll (ended_lines bytes)) is (all_give 1 (ended_lines bytes) n.0);
      short = n.1;
    }

ones_before : (xs ys : List (List ℕ)) → All IsOneLine (xs ++ ys) → All IsOneLine xs
ones_before xs ys h = subst (All IsOneLine) (take-append_seam xs ys) (All-take IsOneLine (length xs) (xs ++ ys) h)

ones_after : (xs ys : List (List ℕ)) → All IsOneLine (xs ++ ys) → All IsOneLine ys
ones_after xs ys h = subst (All IsOneLine) (drop-append_seam xs ys) (All-drop IsOneLine (length xs) (xs ++ ys) h)

breaks_by : (bytes : List ℕ) (n : ℕ) (runs : List Run) → runs_in bytes ≡ runs
    → (first_bad_line (ended_lines bytes) ≡ Some n) ⊎ ((first_bad_line (ended_lines bytes) ≡ None)
    × (is_too_long (unfinished_line bytes) ≡ true) × (length (ended_lines bytes) + 1 ≡ n)) → BreaksAt bytes n runs
breaks_by bytes n runs is (inl e) =
    let l = lines_of bytes in
    let f = first_found 1 n (ended_lines bytes) e in
    let ones : All IsOneLine (f.before ++ f.line ∷ f.after) = subst (All IsOneLine) f.split l.1 in
    record {
      lines = f.before;
      line = f.line;
      ended = ones_before f.before (f.line ∷ f.after) ones;
      one = All-head IsOneLine f.line f.after (ones_after f.before (f.line ∷ f.after) ones);
      give = subst (GiveAll f.before) is f.give;
      number_is = omega (arith, f.place);
      bad = inl (
        text_of f.after (unfinished_line bytes),
        l.0 ∙ (ap (λ (x : List (List ℕ)). text_of x (unfinished_line bytes)) f.split
            ∙ (text_append f.before (f.line ∷ f.after) (unfinished_line bytes)
            ∙ ap (text_of f.before) (one_line f.line (unfinished_line bytes) f.after))),
        no_runs_of f.line f.bad,
      );
    }
breaks_by bytes n runs is (inr h) =
    let l = lines_of bytes in
    record {
      lines = ended_lines bytes;
      line = unfinished_line bytes;
      ended = l.1;
      one = l.2;
      give = subst (GiveAll (ended_lines bytes)) is (all_give 1 (ended_lines bytes) h.0);
      number_is = sym h.2;
      bad = inr (l.0, h.1);
    }

read_as : (bytes : List ℕ) (bad : Option ℕ) (runs : List Run) → (first_bad bytes ≡ bad) × (runs_in bytes ≡ runs)
    → IsReadAs bytes bad runs
read_as bytes None runs h = is_good bytes runs h.0 h.1
read_as bytes (Some n) runs h = breaks_by bytes n runs h.1 (why_bad (ended_lines bytes) (unfinished_line bytes) n h.0)

-- ---- and back

good_back : (bytes : List ℕ) (runs : List Run) → IsGood bytes runs → (first_bad bytes ≡ None) × (runs_in bytes ≡ runs)
good_back bytes runs g =
    let e = (lines_make_the_text bytes g.lines g.unfinished).1 (g.text, g.ended, g.last) in
    let none : first_bad_line (ended_lines bytes) ≡ None = ap first_bad_line e.0 ∙ none_found 1 g.lines runs g.give in (
      none_of (ended_lines bytes) (unfinished_line bytes) none (ap is_too_long e.1 ∙ g.short),
      ap runs_of_lines e.0 ∙ runs_given g.lines runs g.give,
    )

breaks_back : (bytes : List ℕ) (n : ℕ) (runs : List Run) (b : BreaksAt bytes n runs) → HasBadLine bytes b.lines b.line
    → (first_bad bytes ≡ Some n) × (runs_in bytes ≡ runs)
breaks_back bytes n runs b (inl h) =
    let behind = lines_of h.0 in
    let all = b.lines ++ b.line ∷ ended_lines h.0 in
    let text : bytes ≡ text_of all (unfinished_line h.0) =
    h.1 ∙ (ap (λ (x : List ℕ). text_of b.lines (b.line ++ 10 ∷ x)) behind.0
    ∙ (ap (text_of b.lines) (sym (one_line b.line (unfinished_line h.0) (ended_lines h.0)))
    ∙ sym (text_append b.lines (b.line ∷ ended_lines h.0) (unfinished_line h.0)))) in
    let ones : All IsOneLine all = All-append IsOneLine b.lines (b.line ∷ ended_lines h.0) b.ended
    (All-cons IsOneLine b.line (ended_lines h.0) b.one behind.1) in
    let e = (lines_make_the_text bytes all (unfinished_line h.0)).1 (text, ones, behind.2) in
    let none : first_bad_line b.lines ≡ None = none_found 1 b.lines runs b.give in
    let gone : line_runs b.line ≡ None = bad_by (line_runs b.line) b.line refl h.2 in
    let step : all ≡ (b.lines ++ b.line ∷ []) ++ ended_lines h.0 =
    sym (append_assoc b.lines (b.line ∷ []) (ended_lines h.0)) in
    let first : first_bad_line (b.lines ++ b.line ∷ []) ≡ Some (length b.lines + 1) =
    first_bad_line-bad b.lines b.line none gone in
    let number : length b.lines + 1 ≡ n = sym b.number_is in
    let bad : first_bad_line all ≡ Some n = ap first_bad_line step ∙ (first_bad_line-append (b.lines ++ b.line ∷ [])
    (ended_lines h.0) (length b.lines + 1) first ∙ ap Some number) in (
      bad_ended (ended_lines bytes) (unfinished_line bytes) n (ap first_bad_line e.0 ∙ bad),
      ap runs_of_lines (e.0 ∙ step)
          ∙ (runs_of_lines-bad (b.lines ++ b.line ∷ []) (ended_lines h.0) (length b.lines + 1) first
          ∙ (runs_of_lines-good b.lines (b.line ∷ []) none
          ∙ (ap (λ (x : List Run). runs_of_lines b.lines ++ x) (runs_of_lines-bad_one b.line gone)
          ∙ (append-nil (runs_of_lines b.lines) ∙ runs_given b.lines runs b.give)))),
    )
breaks_back bytes n runs b (inr h) =
    let e = (lines_make_the_text bytes b.lines b.line).1 (h.0, b.ended, b.one) in
    let none : first_bad_line (ended_lines bytes) ≡ None = ap first_bad_line e.0 ∙ none_found 1 b.lines runs b.give in
    let count : length (ended_lines bytes) + 1 ≡ n = omega (arith, ap length e.0, b.number_is) in (
      bad_long (ended_lines bytes) (unfinished_line bytes) none (ap is_too_long e.1 ∙ h.1) ∙ ap Some count,
      ap runs_of_lines e.0 ∙ runs_given b.lines runs b.give,
    )

back : (bytes : List ℕ) (bad : Option ℕ) (runs : List Run) → IsReadAs bytes bad runs
    → (first_bad bytes ≡ bad) × (runs_in bytes ≡ runs)
back bytes None runs h = good_back bytes runs h
back bytes (Some n) runs h = breaks_back bytes n runs h h.bad

pub so_far : (bytes : List ℕ) (bad : Option ℕ) (runs : List Run) → ((first_bad bytes ≡ bad) × (runs_in bytes ≡ runs))
    ↔ IsReadAs bytes bad runs
so_far bytes bad runs = (read_as bytes bad runs, back bytes bad runs)

-- ---- at the end of a drive

ends_by : (o : Option ℕ) (empty : Bool) (m : ℕ) → or_else o (cond empty None (Some m)) ≡ None
    → (o ≡ None) × (empty ≡ true)
ends_by (Some n) empty m e = absurd (cc)
ends_by None true m e = (refl, refl)
ends_by None false m e = absurd (cc)

empty_is : (t : List ℕ) → eqb (length t) 0 ≡ true → t ≡ []
empty_is [] e = refl
empty_is (x ∷ xs) e = let none : length (x ∷ xs) ≡ 0 = eqb-true (length (x ∷ xs)) 0 e in absurd (omega arith)

ends : (bytes : List ℕ) (runs : List Run) → (bad_at_end bytes ≡ None) × (runs_in bytes ≡ runs) → EndsWhole bytes runs
ends bytes runs h =
    let e = ends_by (first_bad bytes) (eqb (length (unfinished_line bytes)) 0) (length (ended_lines bytes) + 1) h.0 in
    let l = lines_of bytes in
    let n = none_by (first_bad_line (ended_lines bytes)) (is_too_long (unfinished_line bytes))
    (length (ended_lines bytes) + 1) e.0 in
    record {
      lines = ended_lines bytes;
      text = l.0 ∙ ap (text_of (ended_lines bytes)) (empty_is (unfinished_line bytes) e.1);
      ended = l.1;
      give = subst (GiveAll (ended_lines bytes)) h.1 (all_give 1 (ended_lines bytes) n.0);
    }

ended : (bytes : List ℕ) (runs : List Run) → EndsWhole bytes runs → (bad_at_end bytes ≡ None) × (runs_in bytes ≡ runs)
ended bytes runs h =
    let last = All-nil (λ (c : ℕ). c ≡ 10 → ⊥) in
    let e = (lines_make_the_text bytes h.lines []).1 (h.text, h.ended, last) in
    let g = good_back bytes runs (record {
      lines = h.lines;
      unfinished = [];
      text = h.text;
      ended = h.ended;
      last = last;
      give = h.give;
      short = refl;
    }) in
    (rw (g.0, e.1) refl, g.1)

pub at_end : (bytes : List ℕ) (runs : List Run) → ((bad_at_end bytes ≡ None) × (runs_in bytes ≡ runs))
    ↔ EndsWhole bytes runs
at_end bytes runs = (ends bytes runs, ended bytes runs)
