-- What is so of each kind of line: the tables name the line that holds first, contexts of one cell have the same lines,
-- what differs in one differs in the other, and if nothing differs all is the same.
use Rattle.std.proofs.Common.{[], ℕ, ◌&&◌, ◌+◌, ◌-◌, ◌∙◌, ◌∷◌, ◌≡◌, Bool, List, None, Option, Some, ap, arith, eqb}
use Rattle.std.proofs.Common.{false, find, get_or, if◌then◌else◌, inl, inr, is_some, not, refl, true}
use Rattle.{std.proofs.lemmas.Bool.{eqb-true, false≢true, ne_eqb}, tariff_compile.specs.Tables.{lines_at}}
use Rattle.{tariff_tree.specs.Meaning.{initial_place, minimum_place, rate_place}, tariff_check.specs.Faults.{IsSound}}
use Rattle.{tariff_check.specs.Amounts.{initial_by, place_number}, tariff_compare.specs.Sides.{in_force_by, side_of}}
use Rattle.tariff_check.proofs.Laws.{lines_that_hold_are_there-initial, lines_that_hold_are_there-rate}
use Rattle.tariff_compare.specs.Common.{CellLines, ChoiceKind, Context, Initial, MeterContext, Minimum, Rate}
use Rattle.tariff_compare.specs.Common.{RateNumbers, Tree, fees_in, lines_in, rates_of, tables_of}
use Rattle.tariff_compare.{specs.Contexts.{context_at}, proofs.Numbers.{IsIn}}
use Rattle.tariff_compare.specs.Kinds.{InForce, compared_kinds, cost_same, difference_at, differing_kind, have_same_fee}
use Rattle.tariff_compare.specs.Kinds.{have_same_minimum, in_force, is_asked, is_hiring, is_other, is_same_of, place_at}
use Rattle.tariff_compare.{specs.Kinds.{place_before, place_in, rate_in}, proofs.Frames.{both_parts, none_found}}
use Rattle.tariff_check.specs.declared.values.Initial as fees

number_back : (o : Option ℕ) → place_before (place_number o) ≡ o
number_back None = refl
number_back (Some place) =
    let some : eqb (place + 1) 0 ≡ false = ne_eqb (place + 1) 0 (λ same. omega (arith, same)) in
    let back : place + 1 - 1 ≡ place = omega arith in
    rw (some, back) refl

-- the lines of a context name the place of each kind
pub places_are : (t : Tree) (kind : ChoiceKind) (x : Context) → IsSound t
    → place_in kind (lines_at t x) ≡ place_at kind t x
places_are t Rate x sound = let always = lines_that_hold_are_there-rate t x sound in rw always.1 refl
places_are t Initial x sound = let always = lines_that_hold_are_there-initial t x sound in rw always.1 refl
places_are t Minimum x sound = number_back (minimum_place t x)

-- two contexts have the same lines if the same line of each kind holds first in them
abbrev pub HasSameLines : Tree → (x y : Context) → Type 0
HasSameLines t x y = (kind : ChoiceKind) → place_at kind t x ≡ place_at kind t y

pub in_force_same : (t : Tree) (x y : Context) → HasSameLines t x y → in_force t x ≡ in_force t y
in_force_same t x y same =
    let rate : rate_place t x ≡ rate_place t y = same Rate in
    let initial : initial_place t x ≡ initial_place t y = same Initial in
    let minimum : minimum_place t x ≡ minimum_place t y = same Minimum in
    rw (rate, initial, minimum) refl

abbrev both : RateNumbers → fees.Initial → InForce
both rate hiring = record { rate = rate; hiring = hiring }

-- what is in force by the tables is what is in force by the tariff
pub in_force_is : (t : Tree) (k : ℕ) (x : Context) → lines_in (tables_of t k) x ≡ lines_at t x
    → fees_in (tables_of t k) x ≡ initial_by t x → in_force_by (side_of t k) x ≡ in_force t x
unfolding in_force_by
in_force_is t k x lines fees_are =
    let none : RateNumbers = record { a = 0; b = 0; c = 0; e = 0 } in
    ap (λ (l : CellLines). both (get_or (rates_of t.lines) l.rate none) (fees_in (tables_of t k) x)) lines
    ∙ ap (both (rate_in t x)) fees_are

-- if one of some kinds passes a test, one passes each test that is wider
some_found : (p q : ChoiceKind → Bool) → ((kind : ChoiceKind) → p kind ≡ true → q kind ≡ true)
    → (kinds : List ChoiceKind) → is_some (find p kinds) ≡ true → is_some (find q kinds) ≡ true
some_found p q wider [] h = h
some_found p q wider (kind ∷ kinds) h = by (p kind) (q kind) (wider kind) (some_found p q wider kinds) h
  where
    by : (a b : Bool) → (a ≡ true → b ≡ true)
        → (is_some (find p kinds) ≡ true → is_some (find q kinds) ≡ true)
        → is_some (if a then Some kind else find p kinds) ≡ true
        → is_some (if b then Some kind else find q kinds) ≡ true
    by a true carried later h = refl
    by true false carried later h = absurd (false≢true (carried refl))
    by false false carried later h = later h

and_carried : (a b c : Bool) → (a ≡ true → b ≡ true) → (a && c) ≡ true → (b && c) ≡ true
and_carried true b c carried h = rw (carried refl) h
and_carried false b c carried h = absurd (false≢true h)

-- what differs in a context differs in another with the same in force in which each kind is asked that is in the first
pub difference_carried : (n c : MeterContext) (one other : InForce)
    → ((kind : ChoiceKind) → is_asked kind n ≡ true → is_asked kind c ≡ true)
    → is_some (differing_kind n one other) ≡ true → is_some (differing_kind c one other) ≡ true
unfolding differing_kind
difference_carried n c one other asked h =
    some_found (is_other n one other) (is_other c one other)
    (λ kind. and_carried (is_asked kind n) (is_asked kind c) (not (is_same_of kind one other)) (asked kind))
    compared_kinds h

-- ---- if nothing differs

compared : (kind : ChoiceKind) → IsIn kind compared_kinds
compared Initial = inl refl
compared Minimum = inr (inl refl)
compared Rate = inr (inr (inl refl))

-- each kind that is asked is the same
each_same : (m : MeterContext) (one other : InForce) → differing_kind m one other ≡ None → (kind : ChoiceKind)
    → is_asked kind m ≡ true → is_same_of kind one other ≡ true
unfolding differing_kind
each_same m one other none kind asked =
    by (is_asked kind m) (is_same_of kind one other)
    (none_found (is_other m one other) compared_kinds none kind (compared kind)) asked
  where
    by : (a b : Bool) → (a && not b) ≡ false → a ≡ true → b ≡ true
    by a true fails asked = refl
    by true false fails asked = absurd cc
    by false false fails asked = absurd cc

same_fees : (one other : fees.Initial) → have_same_fee one other ≡ true → have_same_minimum one other ≡ true
    → one ≡ other
same_fees one other fee minimum =
    let parts = both_parts (eqb one.amount other.amount) (eqb one.covers other.covers) fee in
    let amount = eqb-true one.amount other.amount parts.0 in
    let covers = eqb-true one.covers other.covers parts.1 in
    let least = eqb-true one.minimum other.minimum minimum in
    λ i. record { amount = amount i; covers = covers i; minimum = least i }

-- rates cost the same
pub no_difference-rate : (t u : Tree) (k : ℕ) (m : MeterContext) → difference_at t u k m ≡ None
    → cost_same (rate_in t (context_at t k m)) (rate_in u (context_at u k m)) ≡ true
no_difference-rate t u k m none =
    each_same m (in_force t (context_at t k m)) (in_force u (context_at u k m)) none Rate refl

-- a hiring begins with the same
pub no_difference-hiring : (t u : Tree) (k : ℕ) (m : MeterContext) → is_hiring m ≡ true → difference_at t u k m ≡ None
    → initial_by t (context_at t k m) ≡ initial_by u (context_at u k m)
no_difference-hiring t u k m at none =
    let same = each_same m (in_force t (context_at t k m)) (in_force u (context_at u k m)) none in
    same_fees (initial_by t (context_at t k m)) (initial_by u (context_at u k m)) (same Initial at) (same Minimum at)
