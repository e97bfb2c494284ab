-- The first line that meets a test.
use Rattle.std.proofs.Common.{[], ℕ, ◌++◌, ◌<◌, ◌↔◌, ◌∙◌, ◌∷◌, ◌≡◌, ◌≤◌, ◌⊎◌, All, Bool, List, None, Option, Some, ap}
use Rattle.std.proofs.Common.{append_assoc, arith, cond, false, get_or, inl, inr, length, length-append, refl, subst}
use Rattle.std.proofs.{Common.{suc, sym, true}, lemmas.List.{append-nil, Elements.{All-cons, All-nil}}}
use Rattle.tariff_tree.specs.Tree.{RiseInNumber}
use Rattle.tariff_check.specs.{Common.{Entry, Line}, Lines.{IsFirstLine, IsNowhere, LineTest, first_after, first_line}}

-- the test of a line decides how the search goes on
found : (b : Bool) (line number : ℕ) (rest : Option ℕ) → cond b (Some line) rest ≡ Some number
    → ((b ≡ true) × (line ≡ number)) ⊎ ((b ≡ false) × (rest ≡ Some number))
found true line number rest h = inl (refl, cc)
found false line number rest h = inr (refl, h)

pub passed_by : (b : Bool) (line : ℕ) (rest : Option ℕ) → cond b (Some line) rest ≡ None → (b ≡ false) × (rest ≡ None)
passed_by true line rest h = absurd cc
passed_by false line rest h = (refl, h)

-- if no line is found, none meets the test, whatever stands before it
pub never : (test : LineTest) (so : Entry → Bool) → ((before : List Line) (x : Entry) → test before x ≡ false → so x
    ≡ false) → (before ls : List Line) → first_after test before ls ≡ None → All (λ (l : Line). so l.entry ≡ false) ls
never test so tells before [] h = All-nil (λ (l : Line). so l.entry ≡ false)
never test so tells before (l ∷ ls) h =
    let here = passed_by (test before l.entry) l.line (first_after test (before ++ l ∷ []) ls) h in
    All-cons (λ (m : Line). so m.entry ≡ false) l ls (tells before l.entry here.0)
    (never test so tells (before ++ l ∷ []) ls here.1)

-- a line is the first among some lines that meets the test, after the lines before them
pub record IsFirstAfter (test : LineTest) (front ls : List Line) (number : ℕ) : Type 0 where
  pub before : List Line
  pub line : Line
  pub after : List Line
  pub split : ls ≡ before ++ line ∷ after
  pub number_is : line.line ≡ number
  pub is_so : test (front ++ before) line.entry ≡ true
  pub none_earlier : (xs ys : List Line) (l : Line) → before ≡ xs ++ l ∷ ys → test (front ++ xs) l.entry ≡ false

no_split : {A : Type 0} (xs ys : List Line) (l : Line) → [] ≡ xs ++ l ∷ ys → A
no_split [] ys l h = absurd cc
no_split (x ∷ xs) ys l h = absurd cc

first_here : (test : LineTest) (front : List Line) (l : Line) (ls : List Line) (number : ℕ) → test front l.entry ≡ true
    → l.line ≡ number → IsFirstAfter test front (l ∷ ls) number
first_here test front l ls number so named = record {
  before = [];
  line = l;
  after = ls;
  split = refl;
  number_is = named;
  is_so = rw (append-nil front) so;
  none_earlier = λ xs ys m e. no_split xs ys m e;
}

earlier : (test : LineTest) (front : List Line) (l : Line) (before : List Line) → test front l.entry ≡ false
    → ((xs ys : List Line) (m : Line) → before ≡ xs ++ m ∷ ys → test ((front ++ l ∷ []) ++ xs) m.entry ≡ false)
    → (xs ys : List Line) (m : Line) → l ∷ before ≡ xs ++ m ∷ ys → test (front ++ xs) m.entry ≡ false
earlier test front l before not_here none [] ys m e =
    let same : l ≡ m = cc in
    rw (append-nil front) (subst (λ (k : Line). test front k.entry ≡ false) same not_here)
earlier test front l before not_here none (x ∷ xs) ys m e =
    let same : l ≡ x = cc in
    let rest : before ≡ xs ++ m ∷ ys = cc in
    let there = none xs ys m rest in
    let joined : (front ++ l ∷ []) ++ xs ≡ front ++ x ∷ xs =
    append_assoc front (l ∷ []) xs ∙ ap (λ (k : Line). front ++ k ∷ xs) same in
    subst (λ (ks : List Line). test ks m.entry ≡ false) joined there

first_later : (test : LineTest) (front : List Line) (l : Line) (ls : List Line) (number : ℕ) → test front l.entry
    ≡ false → IsFirstAfter test (front ++ l ∷ []) ls number → IsFirstAfter test front (l ∷ ls) number
first_later test front l ls number not_here h = record {
  before = l ∷ h.before;
  line = h.line;
  after = h.after;
  split = ap (λ (ks : List Line). l ∷ ks) h.split;
  number_is = h.number_is;
  is_so = subst (λ (ks : List Line). test ks h.line.entry ≡ true) (append_assoc front (l ∷ []) h.before) h.is_so;
  none_earlier = earlier test front l h.before not_here h.none_earlier;
}

is_first_after : (test : LineTest) (front ls : List Line) (number : ℕ) → first_after test front ls ≡ Some number
    → IsFirstAfter test front ls number
is_first_after test front [] number h = absurd cc
is_first_after test front (l ∷ ls) number h =
    elim (found (test front l.entry) l.line number (first_after test (front ++ l ∷ []) ls) h) [
      | inl here ↦ first_here test front l ls number here.0 here.1
      | inr later ↦ first_later test front l ls number later.0 (is_first_after test (front ++ l ∷ []) ls number later.1)
    ]

first_after_is : (test : LineTest) (front ls : List Line) (number : ℕ) (before : List Line) (line : Line)
    (after : List Line) → ls ≡ before ++ line ∷ after → line.line ≡ number → test (front ++ before) line.entry ≡ true
    → ((xs ys : List Line) (l : Line) → before ≡ xs ++ l ∷ ys → test (front ++ xs) l.entry ≡ false)
    → first_after test front ls ≡ Some number
first_after_is test front ls number [] line after split named so none =
    let here : test front line.entry ≡ true = rw (append-nil front) at so in
    rw (split, here, named) refl
first_after_is test front ls number (l ∷ before) line after split named so none =
    let first : test front l.entry ≡ false = rw (append-nil front) at (none [] before l refl) in
    let rest = first_after_is test (front ++ l ∷ []) (before ++ line ∷ after) number before line after refl named
    (subst (λ (ks : List Line). test ks line.entry ≡ true) (sym (append_assoc front (l ∷ []) before)) so)
    (λ (xs ys : List Line) (m : Line) (e : before ≡ xs ++ m ∷ ys). subst (λ (ks : List Line). test ks m.entry ≡ false)
    (sym (append_assoc front (l ∷ []) xs)) (none (l ∷ xs) ys m (ap (λ (ks : List Line). l ∷ ks) e))) in
    rw (split, first) rest

-- if none is found, no line meets the test
nowhere_after : (test : LineTest) (front ls : List Line) → first_after test front ls ≡ None
    → (xs ys : List Line) (m : Line) → ls ≡ xs ++ m ∷ ys → test (front ++ xs) m.entry ≡ false
nowhere_after test front [] none xs ys m e = no_split xs ys m e
nowhere_after test front (l ∷ ls) none xs ys m e =
    let here = passed_by (test front l.entry) l.line (first_after test (front ++ l ∷ []) ls) none in
    earlier test front l ls here.0 (nowhere_after test (front ++ l ∷ []) ls here.1) xs ys m e

none_after : (test : LineTest) (front ls : List Line) → ((xs ys : List Line) (m : Line) → ls ≡ xs ++ m ∷ ys
    → test (front ++ xs) m.entry ≡ false) → first_after test front ls ≡ None
none_after test front [] nowhere = refl
none_after test front (l ∷ ls) nowhere =
    let first : test front l.entry ≡ false = rw (append-nil front) at (nowhere [] ls l refl) in
    let rest = none_after test (front ++ l ∷ []) ls
    (λ (xs ys : List Line) (m : Line) (e : ls ≡ xs ++ m ∷ ys). subst (λ (ks : List Line). test ks m.entry ≡ false)
    (sym (append_assoc front (l ∷ []) xs)) (nowhere (l ∷ xs) ys m (ap (λ (ks : List Line). l ∷ ks) e))) in
    rw first rest

pub nowhere_is : (test : LineTest) (lines : List Line) → (first_line test lines ≡ None) ↔ IsNowhere test lines
nowhere_is test lines = (
  λ (h : first_line test lines ≡ None). nowhere_after test [] lines h,
  λ (h : IsNowhere test lines). none_after test [] lines h,
)

-- the number that is found is that of the first line that meets the test
pub first_line_is : (test : LineTest) (lines : List Line) (number : ℕ) → (first_line test lines ≡ Some number)
    ↔ IsFirstLine test lines number
first_line_is test lines number = (
  λ (h : first_line test lines ≡ Some number). let f = is_first_after test [] lines number h in record {
    before = f.before;
    line = f.line;
    after = f.after;
    split = f.split;
    number_is = f.number_is;
    is_so = f.is_so;
    none_earlier = f.none_earlier;
  },
  λ (h : IsFirstLine test lines number).
      first_after_is test [] lines number h.before h.line h.after h.split h.number_is h.is_so h.none_earlier,
)

-- if numbers rise, the first line's is below those of the lines after it
at_split : (before : List Line) (line : Line) (after : List Line) (d : Line)
    → get_or (before ++ line ∷ after) (length before) d ≡ line
at_split [] line after d = refl
at_split (x ∷ xs) line after d = at_split xs line after d

rise_here : (l : Line) (ls before after : List Line) (line : Line) → RiseInNumber (l ∷ ls) → ls ≡ before ++ line ∷ after
    → l.line < line.line
rise_here l ls before after line rising split =
    let within : length before < length ls = rw split (omega (arith, length-append before (line ∷ after))) in
    let at : get_or ls (length before) l ≡ line = rw split (at_split before line after l) in
    subst (λ (m : Line). l.line < m.line) at (rising 0 (suc (length before)) l (omega arith) (omega arith))

rise_rest : (l : Line) (ls : List Line) → RiseInNumber (l ∷ ls) → RiseInNumber ls
rise_rest l ls rising = λ i j d lt within. rising (suc i) (suc j) d (omega arith) (omega arith)

-- no line that meets the test has a smaller number
smallest_after : (test : LineTest) (front ls : List Line) (number : ℕ) → RiseInNumber ls
    → first_after test front ls ≡ Some number
    → (before after : List Line) (line : Line) → ls ≡ before ++ line ∷ after → test (front ++ before) line.entry ≡ true
    → number ≤ line.line
smallest_after test front [] number rising h before after line split so = absurd cc
smallest_after test front (l ∷ ls) number rising h [] after line split so =
    let same : l ≡ line = cc in
    let here : test front l.entry ≡ true =
    subst (λ (m : Line). test front m.entry ≡ true) (sym same) (rw (append-nil front) at so) in
    let named : Some l.line ≡ Some number = rw here at h in
    let number_is : l.line ≡ number = cc in
    let line_is : l.line ≡ line.line = ap (λ (m : Line). m.line) same in
    omega arith
smallest_after test front (l ∷ ls) number rising h (x ∷ xs) after line split so =
    let rest : ls ≡ xs ++ line ∷ after = cc in
    let same : x ≡ l = cc in
    elim (found (test front l.entry) l.line number (first_after test (front ++ l ∷ []) ls) h) [
      | inl here ↦ omega (arith, here.1, rise_here l ls xs after line rising rest)
      | inr later ↦ smallest_after test (front ++ l ∷ []) ls number (rise_rest l ls rising) later.1 xs after line rest
          (subst (λ (ks : List Line). test ks line.entry ≡ true)
          (ap (λ (k : Line). front ++ k ∷ xs) same ∙ sym (append_assoc front (l ∷ []) xs)) so)
    ]

pub smallest_line : (test : LineTest) (lines : List Line) (number : ℕ) → RiseInNumber lines
    → first_line test lines ≡ Some number
    → (before after : List Line) (line : Line) → lines ≡ before ++ line ∷ after → test before line.entry ≡ true
    → number ≤ line.line
smallest_line test lines number rising h before after line split so =
    smallest_after test [] lines number rising h before after line split so
