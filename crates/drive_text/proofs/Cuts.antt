-- What a drive means doesn't depend on where its bytes were cut.
use Rattle.std.proofs.Common.{[], ℕ, ◌++◌, ◌+◌, ◌∙◌, ◌∷◌, ◌≡◌, ◌⊎◌, Bool, List, None, Option, Some, ap, append_assoc}
use Rattle.std.proofs.Common.{cond, drop, eqb, false, flat_map, inl, inr, length, refl, sym, true}
use Rattle.std.proofs.{Math.Seq.{drop-append_seam}, lemmas.{Bool.{eqb-false, eqb-true}, Grind.{flat_map-append}}}
use Rattle.{std.proofs.lemmas.List.{append-nil}, drive_text.specs.Lines.{ended_lines, is_too_long, unfinished_line}}
use Rattle.drive_text.specs.Drive.{events_in, first_bad, first_bad_line, first_bad_of, or_else, runs_after, runs_in}
use Rattle.drive_text.{specs.Drive.{runs_of_lines}, proofs.Positions.{runs_of_lines-bad_one, runs_of_lines-good}}
use Rattle.drive_text.specs.{Runs.{run_events}, Whole.{bytes_of, given_by}, declared.run.Run.{Run}}
use Rattle.drive_text.proofs.{Endings.{line_runs-long, too_long-append}, Parts.{byte_goes_on, lf_ends}}
use Rattle.drive_text.proofs.Positions.{first_bad_line-append, first_bad_line-bad, runs_of_lines-bad}

-- why a line is the first bad one: it is ended, or it is too long
bad_by : (o : Option ℕ) (long : Bool) (k n : ℕ) → or_else o (cond long (Some k) None) ≡ Some n
    → (o ≡ Some n) ⊎ ((o ≡ None) × (long ≡ true) × (k ≡ n))
bad_by (Some m) long k n e = inl e
bad_by None true k n e = inr (refl, refl, cc)
bad_by None false k n e = cc

pub why_bad : (lines : List (List ℕ)) (t : List ℕ) (n : ℕ) → first_bad_of lines t ≡ Some n → (first_bad_line lines
    ≡ Some n) ⊎ ((first_bad_line lines ≡ None) × (is_too_long t ≡ true) × (length lines + 1 ≡ n))
why_bad lines t n e = bad_by (first_bad_line lines) (is_too_long t) (length lines + 1) n e

pub bad_ended : (lines : List (List ℕ)) (t : List ℕ) (n : ℕ) → first_bad_line lines ≡ Some n
    → first_bad_of lines t ≡ Some n
bad_ended lines t n e = ap (λ o. or_else o (cond (is_too_long t) (Some (length lines + 1)) None)) e

pub bad_long : (lines : List (List ℕ)) (t : List ℕ) → first_bad_line lines ≡ None → is_too_long t ≡ true
    → first_bad_of lines t ≡ Some (length lines + 1)
bad_long lines t e long = rw (e, long) refl

lf_by : (lines : List (List ℕ)) (t : List ℕ) (n : ℕ) → (first_bad_line lines ≡ Some n)
    ⊎ ((first_bad_line lines ≡ None) × (is_too_long t ≡ true) × (length lines + 1 ≡ n))
    → (first_bad_of (lines ++ t ∷ []) [] ≡ Some n) × (runs_of_lines (lines ++ t ∷ []) ≡ runs_of_lines lines)
lf_by lines t n (inl e) =
    (bad_ended (lines ++ t ∷ []) [] n (first_bad_line-append lines (t ∷ []) n e), runs_of_lines-bad lines (t ∷ []) n e)
lf_by lines t n (inr h) =
    let none = line_runs-long t h.1 in (
      bad_ended (lines ++ t ∷ []) [] n (first_bad_line-bad lines t h.0 none ∙ ap Some h.2),
      runs_of_lines-good lines (t ∷ []) h.0 ∙ (ap (λ (l : List Run). runs_of_lines lines ++ l)
          (runs_of_lines-bad_one t none) ∙ append-nil (runs_of_lines lines)),
    )

other_by : (lines : List (List ℕ)) (t : List ℕ) (c n : ℕ) → (first_bad_line lines ≡ Some n)
    ⊎ ((first_bad_line lines ≡ None) × (is_too_long t ≡ true) × (length lines + 1 ≡ n))
    → first_bad_of lines (t ++ c ∷ []) ≡ Some n
other_by lines t c n (inl e) = bad_ended lines (t ++ c ∷ []) n e
other_by lines t c n (inr h) = bad_long lines (t ++ c ∷ []) h.0 (too_long-append t c h.1) ∙ ap Some h.2

-- after a bad line one byte changes neither its number nor the runs
next_by : (lf : Bool) (b : List ℕ) (c n : ℕ) → eqb c 10 ≡ lf → first_bad b ≡ Some n
    → (first_bad (b ++ c ∷ []) ≡ Some n) × (runs_in (b ++ c ∷ []) ≡ runs_in b)
next_by true b c n e bad =
    let is_lf : c ≡ 10 = eqb-true c 10 e in
    let ended = ap (λ (k : ℕ). ended_lines (b ++ k ∷ [])) is_lf ∙ (lf_ends b).0 in
    let unfinished = ap (λ (k : ℕ). unfinished_line (b ++ k ∷ [])) is_lf ∙ (lf_ends b).1 in
    let h = lf_by (ended_lines b) (unfinished_line b) n (why_bad (ended_lines b) (unfinished_line b) n bad) in (
      ap (λ (x : List (List ℕ)). first_bad_of x (unfinished_line (b ++ c ∷ []))) ended
          ∙ (ap (first_bad_of (ended_lines b ++ unfinished_line b ∷ [])) unfinished ∙ h.0),
      ap runs_of_lines ended ∙ h.1,
    )
next_by false b c n e bad =
    let on = byte_goes_on b c (eqb-false c 10 e) in
    let h = other_by (ended_lines b) (unfinished_line b) c n (why_bad (ended_lines b) (unfinished_line b) n bad) in (
      ap (λ (x : List (List ℕ)). first_bad_of x (unfinished_line (b ++ c ∷ []))) on.0
          ∙ (ap (first_bad_of (ended_lines b)) on.1 ∙ h),
      ap runs_of_lines on.0,
    )

next : (b : List ℕ) (c n : ℕ) → first_bad b ≡ Some n
    → (first_bad (b ++ c ∷ []) ≡ Some n) × (runs_in (b ++ c ∷ []) ≡ runs_in b)
next b c n bad = next_by (eqb c 10) b c n refl bad

-- one byte after others, in another bracketing
step : (b : List ℕ) (x : ℕ) (xs : List ℕ) → (b ++ x ∷ []) ++ xs ≡ b ++ x ∷ xs
step b x xs = append_assoc b (x ∷ []) xs

-- a first bad line stays the first, whatever comes after it
pub first_bad-append : (b c : List ℕ) (n : ℕ) → first_bad b ≡ Some n → first_bad (b ++ c) ≡ Some n
first_bad-append b [] n bad = ap first_bad (append-nil b) ∙ bad
first_bad-append b (x ∷ xs) n bad =
    sym (ap first_bad (step b x xs)) ∙ first_bad-append (b ++ x ∷ []) xs n (next b x n bad).0

-- and no runs come after it
pub runs_in-append_bad : (b c : List ℕ) (n : ℕ) → first_bad b ≡ Some n → runs_in (b ++ c) ≡ runs_in b
runs_in-append_bad b [] n bad = ap runs_in (append-nil b)
runs_in-append_bad b (x ∷ xs) n bad =
    sym (ap runs_in (step b x xs)) ∙ (runs_in-append_bad (b ++ x ∷ []) xs n (next b x n bad).0 ∙ (next b x n bad).1)

lines_prefix_by : (o : Option ℕ) (lines more : List (List ℕ)) → first_bad_line lines ≡ o
    → (later : List Run) × (runs_of_lines (lines ++ more) ≡ runs_of_lines lines ++ later)
lines_prefix_by None lines more e = (runs_of_lines more, runs_of_lines-good lines more e)
lines_prefix_by (Some n) lines more e = ([], runs_of_lines-bad lines more n e ∙ sym (append-nil (runs_of_lines lines)))

one_prefix_by : (lf : Bool) (b : List ℕ) (c : ℕ) → eqb c 10 ≡ lf
    → (later : List Run) × (runs_in (b ++ c ∷ []) ≡ runs_in b ++ later)
one_prefix_by true b c e =
    let h = lines_prefix_by (first_bad_line (ended_lines b)) (ended_lines b) (unfinished_line b ∷ []) refl in
    (h.0, ap (λ (k : ℕ). runs_in (b ++ k ∷ [])) (eqb-true c 10 e) ∙ (ap runs_of_lines (lf_ends b).0 ∙ h.1))
one_prefix_by false b c e =
    ([], ap runs_of_lines (byte_goes_on b c (eqb-false c 10 e)).0 ∙ sym (append-nil (runs_in b)))

-- the runs so far are the first of the runs of more bytes
pub runs_in-append : (b c : List ℕ) → (later : List Run) × (runs_in (b ++ c) ≡ runs_in b ++ later)
runs_in-append b [] = ([], ap runs_in (append-nil b) ∙ sym (append-nil (runs_in b)))
runs_in-append b (x ∷ xs) =
    let one = one_prefix_by (eqb x 10) b x refl in
    let more = runs_in-append (b ++ x ∷ []) xs in (
      one.0 ++ more.0,
      sym (ap runs_in (step b x xs))
          ∙ (more.1 ∙ (ap (λ (l : List Run). l ++ more.0) one.1 ∙ append_assoc (runs_in b) one.0 more.0)),
    )

-- more bytes add their runs
pub runs_added : (b c : List ℕ) → runs_in (b ++ c) ≡ runs_in b ++ runs_after b c
runs_added b c =
    let more = runs_in-append b c in
    more.1 ∙ ap (λ (x : List Run). runs_in b ++ x)
    (sym (ap (drop (length (runs_in b))) more.1 ∙ drop-append_seam (runs_in b) more.0))

-- and their events
pub events_added : (b c : List ℕ) → events_in (b ++ c) ≡ events_in b ++ flat_map run_events (runs_after b c)
events_added b c = ap (flat_map run_events) (runs_added b c) ∙ flat_map-append run_events (runs_in b) (runs_after b c)

-- pieces, taken in turn, give the runs of their bytes
given : (b : List ℕ) (pieces : List (List ℕ)) → runs_in b ++ given_by b pieces ≡ runs_in (b ++ bytes_of pieces)
given b [] = append-nil (runs_in b) ∙ sym (ap runs_in (append-nil b))
given b (piece ∷ pieces) =
    sym (append_assoc (runs_in b) (runs_after b piece) (given_by (b ++ piece) pieces))
    ∙ (ap (λ (x : List Run). x ++ given_by (b ++ piece) pieces) (sym (runs_added b piece))
    ∙ (given (b ++ piece) pieces ∙ ap runs_in (append_assoc b piece (bytes_of pieces))))

pub pieces_give_runs : (pieces : List (List ℕ)) → given_by [] pieces ≡ runs_in (bytes_of pieces)
pieces_give_runs pieces = given [] pieces

pub pieces_give_events : (pieces : List (List ℕ))
    → flat_map run_events (given_by [] pieces) ≡ events_in (bytes_of pieces)
pieces_give_events pieces = ap (flat_map run_events) (given [] pieces)

pub pieces_give_the_same : (one other : List (List ℕ)) → bytes_of one ≡ bytes_of other
    → given_by [] one ≡ given_by [] other
pieces_give_the_same one other e = given [] one ∙ (ap runs_in e ∙ sym (given [] other))
