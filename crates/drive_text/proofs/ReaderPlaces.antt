-- Where a reader stands after a part of a piece.
use Rattle.std.{specs.List.{position_from}, proofs.{Common.{suc, sym, true}, lemmas.{Bool.{ne_eqb}, List.{append-nil}}}}
use Rattle.std.proofs.Common.{[], ℕ, ◌++◌, ◌+◌, ◌<◌, ◌∙◌, ◌∷◌, ◌≡◌, ◌≤◌, ◌⊎◌, Bool, List, MatchOption, None, Option}
use Rattle.std.proofs.Common.{Some, ap, arith, cond, eqb, false, inl, inr, is_none, length, length-append, refl, subst}
use Rattle.drive_text.specs.Drive.{first_bad, first_bad_line, first_bad_of, or_else, runs_in, runs_of_lines}
use Rattle.drive_text.{specs.Fields.{line_runs}, proofs.Parts.{line_ends, lines_fit, part_goes_on}}
use Rattle.drive_text.specs.Lines.{IsOneLine, ended_lines, is_comment, is_too_long, unfinished_line}
use Rattle.drive_text.specs.{Reading.{HasFailed, HasTaken, HasTakenLines, Reading, StandsIn}, declared.run.Run.{Run}}
use Rattle.drive_text.proofs.{Cuts.{first_bad-append}, Positions.{runs_of_lines-good, runs_of_lines-one}}
use Rattle.drive_text.proofs.Endings.{comment-append, comment_fits, comment_some, line_runs-comment, nothing_before}
use Rattle.drive_text.proofs.Positions.{first_bad_line-bad, first_bad_line-good, runs_of_lines-bad_one}

pub none_by : (o : Option ℕ) (long : Bool) (k : ℕ) → or_else o (cond long (Some k) None) ≡ None
    → (o ≡ None) × (long ≡ false)
none_by (Some m) long k e = cc
none_by None true k e = cc
none_by None false k e = (refl, refl)

pub none_of : (lines : List (List ℕ)) (t : List ℕ) → first_bad_line lines ≡ None → is_too_long t ≡ false
    → first_bad_of lines t ≡ None
none_of lines t e short = rw (e, short) refl

goes_by : (o : Option ℕ) (r : Reading) (lines : List (List ℕ)) (t : List ℕ)
    → MatchOption o (StandsIn r lines t) (λ line. HasFailed r line) → r.failed ≡ false → (o ≡ None) × StandsIn r lines t
goes_by (Some n) r lines t h going = let f = h.failed in cc
goes_by None r lines t h going = (refl, h)

-- what is known of a reader that goes on: no line is bad, and where it stands
pub record Goes (r : Reading) (lines : List (List ℕ)) (t : List ℕ) : Type 0 where
  pub ended_good : first_bad_line lines ≡ None
  pub short : is_too_long t ≡ false
  pub stands : StandsIn r lines t

pub goes : (r : Reading) (b : List ℕ) → HasTaken r b → r.failed ≡ false → Goes r (ended_lines b) (unfinished_line b)
goes r b h going =
    let g = goes_by (first_bad b) r (ended_lines b) (unfinished_line b) h going in
    let n =
    none_by (first_bad_line (ended_lines b)) (is_too_long (unfinished_line b)) (length (ended_lines b) + 1) g.0 in
    record { ended_good = n.0; short = n.1; stands = g.1 }

-- a reader that goes on has met no bad line
pub goes_on : (r : Reading) (b : List ℕ) → HasTaken r b → r.failed ≡ false → first_bad b ≡ None
goes_on r b h going = (goes_by (first_bad b) r (ended_lines b) (unfinished_line b) h going).0

failed_by : (o : Option ℕ) (r : Reading) (lines : List (List ℕ)) (t : List ℕ)
    → MatchOption o (StandsIn r lines t) (λ line. HasFailed r line) → r.failed ≡ true → o ≡ Some r.begun
failed_by (Some n) r lines t h failed = ap Some (sym h.begun)
failed_by None r lines t h failed = let f = h.going in cc

-- a reader that failed did so at the first bad line
pub failed_at : (r : Reading) (b : List ℕ) → HasTaken r b → r.failed ≡ true → first_bad b ≡ Some r.begun
failed_at r b h failed = failed_by (first_bad b) r (ended_lines b) (unfinished_line b) h failed

failure_by : (o : Option ℕ) (r : Reading) (lines : List (List ℕ)) (t : List ℕ)
    → MatchOption o (StandsIn r lines t) (λ line. HasFailed r line) → r.failed ≡ true → HasFailed r r.begun
failure_by (Some n) r lines t h failed = record { failed = failed; begun = refl; kept = h.kept; comment = h.comment }
failure_by None r lines t h failed = let f = h.going in cc

failure : (r : Reading) (b : List ℕ) → HasTaken r b → r.failed ≡ true → HasFailed r r.begun
failure r b h failed = failure_by (first_bad b) r (ended_lines b) (unfinished_line b) h failed

-- and has taken whatever comes
pub failed_stays : (r : Reading) (b c : List ℕ) → HasTaken r b → r.failed ≡ true → HasTaken r (b ++ c)
failed_stays r b c h failed =
    let bad = first_bad-append b c r.begun (failed_at r b h failed) in
    subst (λ (o : Option ℕ). MatchOption o (StandsIn r (ended_lines (b ++ c)) (unfinished_line (b ++ c)))
    (λ line. HasFailed r line)) (sym bad) (failure r b h failed)

-- ---- where it stands then

stands : (r : Reading) (lines : List (List ℕ)) (t : List ℕ) → first_bad_line lines ≡ None → is_too_long t ≡ false
    → StandsIn r lines t → HasTakenLines r lines t
stands r lines t e short h = subst (λ (o : Option ℕ). MatchOption o (StandsIn r lines t) (λ line. HasFailed r line))
    (sym (none_of lines t e short)) h

fails : (r : Reading) (lines : List (List ℕ)) (t : List ℕ) (n : ℕ) → first_bad_of lines t ≡ Some n → HasFailed r n
    → HasTakenLines r lines t
fails r lines t n e h =
    subst (λ (o : Option ℕ). MatchOption o (StandsIn r lines t) (λ line. HasFailed r line)) (sym e) h

by_part : (r : Reading) (b p : List ℕ) → IsOneLine p → HasTakenLines r (ended_lines b) (unfinished_line b ++ p)
    → HasTaken r (b ++ p)
by_part r b p one h =
    let parts = part_goes_on b p one in
    subst (λ (x : List (List ℕ)). HasTakenLines r x (unfinished_line (b ++ p))) (sym parts.0)
    (subst (λ (x : List ℕ). HasTakenLines r (ended_lines b) x) (sym parts.1) h)

by_line : (r : Reading) (b l : List ℕ) → IsOneLine l
    → HasTakenLines r (ended_lines b ++ (unfinished_line b ++ l) ∷ []) [] → HasTaken r (b ++ (l ++ 10 ∷ []))
by_line r b l one h =
    let parts = line_ends b l one in
    subst (λ (x : List (List ℕ)). HasTakenLines r x (unfinished_line (b ++ (l ++ 10 ∷ [])))) (sym parts.0)
    (subst (λ (x : List ℕ). HasTakenLines r (ended_lines b ++ (unfinished_line b ++ l) ∷ []) x) (sym parts.1) h)

-- ---- the number of the line in which the next byte stands

counted : (n : ℕ) (t : List ℕ) → 0 < length t → cond (eqb (length t) 0) n (n + 1) ≡ n + 1
counted n [] some = absurd (omega arith)
counted n (x ∷ xs) some = rw (ne_eqb (length (x ∷ xs)) 0 (λ e. omega arith)) refl

longer : (t p : List ℕ) → 0 < length p → 0 < length (t ++ p)
longer t p some = omega (arith, length-append t p)

-- what is kept of a line that is no comment is the line
kept_is : (r : Reading) (lines : List (List ℕ)) (t : List ℕ) → StandsIn r lines t → r.comment ≡ false
    → (r.kept ≡ t) × (is_comment t ≡ false)
kept_is r lines t h plain =
    let e : is_comment t ≡ false = sym h.comment ∙ plain in
    (h.kept ∙ ap (λ (m : Bool). cond m [] t) e, e)

-- of a line that is no comment
abbrev pub line_number_of : Reading → ℕ
line_number_of r = cond (eqb (length r.kept) 0) (r.begun + 1) r.begun

number_by : (begun n : ℕ) (t : List ℕ) → begun ≡ cond (eqb (length t) 0) n (n + 1)
    → cond (eqb (length t) 0) (begun + 1) begun ≡ n + 1
number_by begun n [] e = omega (arith, e)
number_by begun n (x ∷ xs) e =
    let some : eqb (length (x ∷ xs)) 0 ≡ false = ne_eqb (length (x ∷ xs)) 0 (λ z. omega arith) in
    let is : begun ≡ n + 1 = e ∙ counted n (x ∷ xs) (omega arith) in
    rw some is

number_is : (r : Reading) (lines : List (List ℕ)) (t : List ℕ) → StandsIn r lines t → r.comment ≡ false
    → line_number_of r ≡ length lines + 1
number_is r lines t h plain =
    let k = (kept_is r lines t h plain).0 in
    ap (λ (x : List ℕ). cond (eqb (length x) 0) (r.begun + 1) r.begun) k ∙ number_by r.begun (length lines) t h.begun

count_by : (n : ℕ) (t : List ℕ) → cond (eqb (length t) 0) n (n + 1) ≤ n + length t
count_by n [] = omega arith
count_by n (x ∷ xs) = omega (arith, counted n (x ∷ xs) (omega arith))

one_more : (first n count : ℕ) (bad : Bool) (later : Option ℕ) → (later ≡ Some n → n < first + 1 + count)
    → cond bad (Some first) later ≡ Some n → n < first + suc count
one_more first n count true later rest e = let here : first ≡ n = cc in omega (arith, here)
one_more first n count false later rest e = omega (arith, rest e)

-- a bad ended line is one of the lines
bad_within : (lines : List (List ℕ)) (first n : ℕ)
    → position_from (λ line. is_none (line_runs line)) first lines ≡ Some n
    → n < first + length lines
bad_within [] first n e = cc
bad_within (line ∷ lines) first n e =
    one_more first n (length lines) (is_none (line_runs line))
    (position_from (λ l. is_none (line_runs l)) (first + 1) lines) (bad_within lines (first + 1) n) e

bad_by : (o : Option ℕ) (long : Bool) (k n : ℕ) → or_else o (cond long (Some k) None) ≡ Some n
    → (o ≡ Some n) ⊎ ((long ≡ true) × (k ≡ n))
bad_by (Some m) long k n e = inl e
bad_by None true k n e = inr (refl, cc)
bad_by None false k n e = cc

long_some : (t : List ℕ) → is_too_long t ≡ true → 0 < length t
long_some [] long = cc
long_some (x ∷ xs) long = omega arith

bad_fits : (b : List ℕ) (n : ℕ) → first_bad b ≡ Some n → n ≤ length b
bad_fits b n bad =
    elim (bad_by (first_bad_line (ended_lines b)) (is_too_long (unfinished_line b))
    (length (ended_lines b) + 1) n bad) [
      | inl ended ↦ omega (arith, bad_within (ended_lines b) 1 n ended, lines_fit b)
      | inr long ↦ omega (arith, long.1, long_some (unfinished_line b) long.0, lines_fit b)
    ]

going_fits : (r : Reading) (b : List ℕ) → HasTaken r b → r.failed ≡ false → r.begun ≤ length b
going_fits r b h going =
    let begun = (goes r b h going).stands.begun in
    omega (arith, count_by (length (ended_lines b)) (unfinished_line b), lines_fit b, begun)

-- no more lines were begun than bytes were taken
pub begun_fits : (r : Reading) (b : List ℕ) → HasTaken r b → r.begun ≤ length b
begun_fits r b h = by r.failed refl
  where
    by : (failed : Bool) → r.failed ≡ failed → r.begun ≤ length b
    by true failed = bad_fits b r.begun (failed_at r b h failed)
    by false going = going_fits r b h going

number_by_test : (none : Bool) (n : ℕ) → cond none (n + 1) n ≤ n + 1
number_by_test true n = omega arith
number_by_test false n = omega arith

-- at most one line begins
pub number_small : (r : Reading) → line_number_of r ≤ r.begun + 1
number_small r = number_by_test (eqb (length r.kept) 0) r.begun

-- what is kept is no comment
pub kept_plain : (r : Reading) (b : List ℕ) → HasTaken r b → r.failed ≡ false → r.comment ≡ false
    → is_comment r.kept ≡ false
kept_plain r b h going plain =
    let k = kept_is r (ended_lines b) (unfinished_line b) (goes r b h going).stands plain in
    ap is_comment k.0 ∙ k.1

-- ---- a part without an LF

-- goes on with a comment
pub comment_goes_on : (r : Reading) (b p : List ℕ) → IsOneLine p → r.failed ≡ false → r.comment ≡ true → HasTaken r b
    → HasTaken r (b ++ p)
comment_goes_on r b p one going comment h =
    let lines = ended_lines b in
    let t = unfinished_line b in
    let g = goes r b h going in
    let e : is_comment t ≡ true = sym g.stands.comment ∙ comment in
    let some = comment_some t e in
    let more : is_comment (t ++ p) ≡ is_comment t = comment-append t p some in
    let bytes : 0 < length (t ++ p) = omega (arith, length-append t p) in
    by_part r b p one (stands r lines (t ++ p) g.ended_good (comment_fits (t ++ p) (more ∙ e)) (record {
      going = going;
      begun = g.stands.begun ∙ (counted (length lines) t some ∙ sym (counted (length lines) (t ++ p) bytes));
      comment = g.stands.comment ∙ sym more;
      kept =
          g.stands.kept ∙ (ap (λ (m : Bool). cond m [] t) e ∙ sym (ap (λ (m : Bool). cond m [] (t ++ p)) (more ∙ e)));
    }))

-- begins a comment
pub comment_begins : (old new : Reading) (b p : List ℕ) → IsOneLine p → is_comment (old.kept ++ p) ≡ true
    → old.failed ≡ false → old.comment ≡ false
    → new.begun ≡ line_number_of old → new.kept ≡ old.kept → new.comment ≡ true → new.failed ≡ false → HasTaken old b
    → HasTaken new (b ++ p)
comment_begins old new b p one sign going plain begun kept comment goes_on h =
    let lines = ended_lines b in
    let t = unfinished_line b in
    let g = goes old b h going in
    let k = kept_is old lines t g.stands plain in
    let none : old.kept ≡ [] = nothing_before old.kept p (ap is_comment k.0 ∙ k.1) sign in
    let is_one : is_comment (t ++ p) ≡ true = sym (ap (λ (x : List ℕ). is_comment (x ++ p)) k.0) ∙ sign in
    let bytes : 0 < length (t ++ p) = comment_some (t ++ p) is_one in
    by_part new b p one (stands new lines (t ++ p) g.ended_good (comment_fits (t ++ p) is_one) (record {
      going = goes_on;
      begun = begun ∙ (number_is old lines t g.stands plain ∙ sym (counted (length lines) (t ++ p) bytes));
      comment = comment ∙ sym is_one;
      kept = kept ∙ (none ∙ sym (ap (λ (m : Bool). cond m [] (t ++ p)) is_one));
    }))

-- goes on with a line, or begins it
pub line_goes_on : (old new : Reading) (b p : List ℕ) → IsOneLine p → 0 < length p → is_comment (old.kept ++ p) ≡ false
    → is_too_long (old.kept ++ p) ≡ false → old.failed ≡ false → old.comment ≡ false
    → new.begun ≡ line_number_of old → new.kept ≡ old.kept ++ p → new.comment ≡ false → new.failed ≡ false
    → HasTaken old b → HasTaken new (b ++ p)
line_goes_on old new b p one some sign short going plain begun kept comment goes_on h =
    let lines = ended_lines b in
    let t = unfinished_line b in
    let g = goes old b h going in
    let k = kept_is old lines t g.stands plain in
    let same : old.kept ++ p ≡ t ++ p = ap (λ (x : List ℕ). x ++ p) k.0 in
    let no_sign : is_comment (t ++ p) ≡ false = sym (ap is_comment same) ∙ sign in
    by_part new b p one (stands new lines (t ++ p) g.ended_good (sym (ap is_too_long same) ∙ short) (record {
      going = goes_on;
      begun = begun ∙ (number_is old lines t g.stands plain ∙ sym (counted (length lines) (t ++ p) (longer t p some)));
      comment = comment ∙ sym no_sign;
      kept = kept ∙ (same ∙ sym (ap (λ (m : Bool). cond m [] (t ++ p)) no_sign));
    }))

-- makes a line too long
pub line_too_long : (old new : Reading) (b p : List ℕ) → IsOneLine p → is_too_long (old.kept ++ p) ≡ true
    → old.failed ≡ false → old.comment ≡ false
    → HasFailed new (line_number_of old) → HasTaken old b → HasTaken new (b ++ p)
line_too_long old new b p one long going plain failed h =
    let lines = ended_lines b in
    let t = unfinished_line b in
    let g = goes old b h going in
    let k = kept_is old lines t g.stands plain in
    let is_long : is_too_long (t ++ p) ≡ true = sym (ap (λ (x : List ℕ). is_too_long (x ++ p)) k.0) ∙ long in
    let bad : first_bad_of lines (t ++ p) ≡ Some (length lines + 1) = rw (g.ended_good, is_long) refl in
    by_part new b p one (fails new lines (t ++ p) (length lines + 1) bad
    (subst (HasFailed new) (number_is old lines t g.stands plain) failed))

-- ---- a line with its LF

after_line : (lines : List (List ℕ)) (t : List ℕ) → length (lines ++ t ∷ []) ≡ length lines + 1
after_line lines t = length-append lines (t ∷ [])

good_ends : (new : Reading) (b l : List ℕ) (rs : List Run) → IsOneLine l → first_bad_line (ended_lines b) ≡ None
    → line_runs (unfinished_line b ++ l) ≡ Some rs
    → new.begun ≡ length (ended_lines b) + 1 → new.kept ≡ [] → new.comment ≡ false → new.failed ≡ false
    → HasTaken new (b ++ (l ++ 10 ∷ []))
good_ends new b l rs one none good begun kept comment goes_on =
    let lines = ended_lines b in
    let u = unfinished_line b ++ l in
    by_line new b l one (stands new (lines ++ u ∷ []) [] (first_bad_line-good lines u rs none good) refl (record {
      going = goes_on;
      begun = begun ∙ sym (after_line lines u);
      comment = comment;
      kept = kept;
    }))

good_runs : (b l : List ℕ) (rs : List Run) → IsOneLine l → first_bad_line (ended_lines b) ≡ None
    → line_runs (unfinished_line b ++ l) ≡ Some rs → runs_in (b ++ (l ++ 10 ∷ [])) ≡ runs_in b ++ rs
good_runs b l rs one none good =
    let u = unfinished_line b ++ l in
    ap runs_of_lines (line_ends b l one).0 ∙ (runs_of_lines-good (ended_lines b) (u ∷ []) none
    ∙ ap (λ (x : List Run). runs_in b ++ x) (runs_of_lines-one u rs good))

comment_line : (t l : List ℕ) → is_comment t ≡ true → line_runs (t ++ l) ≡ Some []
comment_line t l e = line_runs-comment (t ++ l) (comment-append t l (comment_some t e) ∙ e)

-- ends a comment
pub comment_ends : (old new : Reading) (b l : List ℕ) → IsOneLine l → old.failed ≡ false → old.comment ≡ true
    → new.begun ≡ old.begun → new.kept ≡ old.kept → new.comment ≡ false → new.failed ≡ false
    → HasTaken old b → HasTaken new (b ++ (l ++ 10 ∷ []))
comment_ends old new b l one going comment begun kept plain goes_on h =
    let t = unfinished_line b in
    let g = goes old b h going in
    let e : is_comment t ≡ true = sym g.stands.comment ∙ comment in
    good_ends new b l [] one g.ended_good (comment_line t l e)
    (begun ∙ (g.stands.begun ∙ counted (length (ended_lines b)) t (comment_some t e)))
    (kept ∙ (g.stands.kept ∙ ap (λ (m : Bool). cond m [] t) e)) plain goes_on

pub comment_runs : (old : Reading) (b l : List ℕ) → IsOneLine l → old.failed ≡ false → old.comment ≡ true
    → HasTaken old b → runs_in (b ++ (l ++ 10 ∷ [])) ≡ runs_in b ++ []
comment_runs old b l one going comment h =
    let g = goes old b h going in
    good_runs b l [] one g.ended_good (comment_line (unfinished_line b) l (sym g.stands.comment ∙ comment))

-- the line, by what was kept of it
whole_line : (r : Reading) (b l : List ℕ) (o : Option (List Run)) → HasTaken r b → r.failed ≡ false → r.comment ≡ false
    → line_runs (r.kept ++ l) ≡ o → line_runs (unfinished_line b ++ l) ≡ o
whole_line r b l o h going plain e =
    let k = kept_is r (ended_lines b) (unfinished_line b) (goes r b h going).stands plain in
    sym (ap (λ (x : List ℕ). line_runs (x ++ l)) k.0) ∙ e

-- ends a line that is good
pub line_is_good : (old new : Reading) (b l : List ℕ) (rs : List Run) → IsOneLine l → old.failed ≡ false
    → old.comment ≡ false → line_runs (old.kept ++ l) ≡ Some rs
    → new.begun ≡ line_number_of old → new.kept ≡ [] → new.comment ≡ false → new.failed ≡ false → HasTaken old b
    → HasTaken new (b ++ (l ++ 10 ∷ []))
line_is_good old new b l rs one going plain good begun kept comment goes_on h =
    let g = goes old b h going in
    good_ends new b l rs one g.ended_good (whole_line old b l (Some rs) h going plain good)
    (begun ∙ number_is old (ended_lines b) (unfinished_line b) g.stands plain) kept comment goes_on

pub line_gives : (old : Reading) (b l : List ℕ) (rs : List Run) → IsOneLine l → old.failed ≡ false → old.comment ≡ false
    → line_runs (old.kept ++ l) ≡ Some rs → HasTaken old b → runs_in (b ++ (l ++ 10 ∷ [])) ≡ runs_in b ++ rs
line_gives old b l rs one going plain good h =
    good_runs b l rs one (goes old b h going).ended_good (whole_line old b l (Some rs) h going plain good)

-- or one that is bad
pub line_is_bad : (old new : Reading) (b l : List ℕ) → IsOneLine l → old.failed ≡ false → old.comment ≡ false
    → line_runs (old.kept ++ l) ≡ None → HasFailed new (line_number_of old)
    → HasTaken old b → HasTaken new (b ++ (l ++ 10 ∷ []))
line_is_bad old new b l one going plain bad failed h =
    let lines = ended_lines b in
    let u = unfinished_line b ++ l in
    let g = goes old b h going in
    let first : first_bad_line (lines ++ u ∷ []) ≡ Some (length lines + 1) =
    first_bad_line-bad lines u g.ended_good (whole_line old b l None h going plain bad) in
    let is_bad : first_bad_of (lines ++ u ∷ []) [] ≡ Some (length lines + 1) = rw first refl in
    by_line new b l one (fails new (lines ++ u ∷ []) [] (length lines + 1) is_bad
    (subst (HasFailed new) (number_is old lines (unfinished_line b) g.stands plain) failed))

pub bad_gives_none : (old : Reading) (b l : List ℕ) → IsOneLine l → old.failed ≡ false → old.comment ≡ false
    → line_runs (old.kept ++ l) ≡ None → HasTaken old b → runs_in (b ++ (l ++ 10 ∷ [])) ≡ runs_in b
bad_gives_none old b l one going plain bad h =
    let u = unfinished_line b ++ l in
    ap runs_of_lines (line_ends b l one).0
    ∙ (runs_of_lines-good (ended_lines b) (u ∷ []) (goes old b h going).ended_good
    ∙ (ap (λ (x : List Run). runs_in b ++ x) (runs_of_lines-bad_one u (whole_line old b l None h going plain bad))
    ∙ append-nil (runs_in b)))

-- ---- readers that have taken the same bytes

same_reading : (r s : Reading) → r.begun ≡ s.begun → r.kept ≡ s.kept → r.comment ≡ s.comment
    → r.failed ≡ s.failed → r ≡ s
same_reading r s begun kept comment failed =
    ap (λ x. record { begun = x; kept = r.kept; comment = r.comment; failed = r.failed }) begun
    ∙ (ap (λ x. record { begun = s.begun; kept = x; comment = r.comment; failed = r.failed }) kept
    ∙ (ap (λ x. record { begun = s.begun; kept = s.kept; comment = x; failed = r.failed }) comment
    ∙ ap (λ x. record { begun = s.begun; kept = s.kept; comment = s.comment; failed = x }) failed))

same_by : (o : Option ℕ) (r s : Reading) (lines : List (List ℕ)) (t : List ℕ) → MatchOption o (StandsIn r lines t)
    (λ line. HasFailed r line) → MatchOption o (StandsIn s lines t) (λ line. HasFailed s line) → r ≡ s
same_by None r s lines t h k =
    same_reading r s (h.begun ∙ sym k.begun) (h.kept ∙ sym k.kept) (h.comment ∙ sym k.comment) (h.going ∙ sym k.going)
same_by (Some n) r s lines t h k =
    same_reading r s (h.begun ∙ sym k.begun) (h.kept ∙ sym k.kept) (h.comment ∙ sym k.comment) (h.failed ∙ sym k.failed)

pub same_bytes : (r s : Reading) (b : List ℕ) → HasTaken r b → HasTaken s b → r ≡ s
same_bytes r s b h k = same_by (first_bad b) r s (ended_lines b) (unfinished_line b) h k
