-- How marks are made: one context after another, and the first mark that a place has.
use Rattle.std.{specs.List.{position_from, slice_get}, proofs.lemmas.Grind.{common_steps}}
use Rattle.std.proofs.Common.{[], ℕ, ◌++◌, ◌+◌, ◌<◌, ◌∙◌, ◌∷◌, ◌≡◌, ◌≤◌, Bool, List, Option, Some, ap, arith, drop}
use Rattle.std.proofs.{Common.{drop-cons, false, get_or, length, map, refl, suc, sym, zero}, lemmas.List.{append-nil}}
use Rattle.{tariff_tree.specs.Meaning.{place_of}, tariff_compile.specs.Marks.{MarkEach, MarksThose, is_marked}}
use Rattle.tariff_compile.specs.Common.{Choice, Condition, Context, Line, Marks, holds_if, own_conditions, when_at}

-- those of the first contexts are marked that pass a test, and no later place is
pub record MarksFirst (passes : Context → Bool) (xs : List Context) (n : ℕ) (marks : Marks) : Type 0 where
  pub so_far : (place : ℕ) (x : Context) → slice_get xs place ≡ Some x → place < n → is_marked marks place ≡ passes x
  pub left : (place : ℕ) → n ≤ place → is_marked marks place ≡ false

-- the first that passes a test is known by which of them pass
pub first_by_answers : {A B : Type 0} (f : A → Bool) (g : B → Bool) (n : ℕ) (xs : List A) (ys : List B)
    → map f xs ≡ map g ys → position_from f n xs ≡ position_from g n ys
first_by_answers f g n [] [] same = refl
first_by_answers f g n [] (y ∷ ys) same = cc
first_by_answers f g n (x ∷ xs) [] same = cc
first_by_answers f g n (x ∷ xs) (y ∷ ys) same =
    let head : f x ≡ g y = cc in
    let tail : map f xs ≡ map g ys = cc in
    rw (head, first_by_answers f g (n + 1) xs ys tail)

-- so if these are the marks of each of some conditions, the first marks that a place has are those of the first
-- condition that holds
pub first_holds : (conditions : List (Option Condition)) (xs : List Context) (all read : List Marks) (place : ℕ)
    (x : Context) (found : Option ℕ) → MarkEach conditions xs all → read ≡ all → slice_get xs place ≡ Some x
    → found ≡ position_from (λ (marks : Marks). is_marked marks place) 0 read → found ≡ place_of x conditions
first_holds conditions xs all read place x found each same at is =
    is ∙ (ap (position_from (λ (marks : Marks). is_marked marks place) 0) same
    ∙ first_by_answers (λ (marks : Marks). is_marked marks place) (holds_if x) 0 all conditions (each place x at))

-- the marks of the choices before a place
pub record HasMarks {V : Type 0} (lines : List Line) (own : List (Choice V)) (xs : List Context) (n : ℕ)
    (all : List Marks) : Type 0 where
  pub each : (place : ℕ) (x : Context) → slice_get xs place ≡ Some x
      → map (λ (marks : Marks). is_marked marks place) all ++ map (holds_if x) (own_conditions lines (drop n own))
      ≡ map (holds_if x) (own_conditions lines own)

choice_next : {V : Type 0} (lines : List Line) (own : List (Choice V)) (n : ℕ) (c : Choice V) → n < length own
    → c ≡ get_or own n c
    → own_conditions lines (drop n own) ≡ when_at lines c.place ∷ own_conditions lines (drop (n + 1) own)
choice_next {V} lines own n c within is =
    let next : suc n ≡ n + 1 = omega arith in
    ap (own_conditions lines)
    (drop-cons own n c within ∙ ap (λ (d : Choice V). d ∷ drop (suc n) own) (sym is)
    ∙ ap (λ (m : ℕ). c ∷ drop m own) next)

-- and those of one choice more
pub marks_of_choice : {V : Type 0} (lines : List Line) (own : List (Choice V)) (xs : List Context) (n : ℕ)
    (all : List Marks) (c : Choice V) (marks : Marks)
    → HasMarks lines own xs n all → n < length own → c ≡ get_or own n c
    → MarksThose (λ x. holds_if x (when_at lines c.place)) xs marks
    → HasMarks lines own xs (n + 1) (all ++ marks ∷ [])
marks_of_choice lines own xs n all c marks has within is those =
    record {
      each = λ place x at.
          let next = choice_next lines own n c within is in
          let whole = has.each place x at in
          let here = those place x at in
          grind (arith, common_steps, next, whole, here);
    }

drop_past : {A : Type 0} (xs : List A) (n : ℕ) → length xs ≤ n → drop n xs ≡ []
drop_past [] zero past = refl
drop_past [] (suc n) past = refl
drop_past (x ∷ xs) zero past = absurd (omega arith)
drop_past (x ∷ xs) (suc n) past = drop_past xs n (omega arith)

-- behind the last choice these are the marks of each
pub all_marked : {V : Type 0} (lines : List Line) (own : List (Choice V)) (xs : List Context) (n : ℕ) (all : List Marks)
    → HasMarks lines own xs n all → length own ≤ n → MarkEach (own_conditions lines own) xs all
all_marked {V} lines own xs n all has past = λ place x at.
    let marked = map (λ (marks : Marks). is_marked marks place) all in
    sym (append-nil marked)
    ∙ (ap (λ (left : List (Choice V)). marked ++ map (holds_if x) (own_conditions lines left))
    (sym (drop_past own n past)) ∙ has.each place x at)
