-- What is so in a context is so in the one of the grid that stands for it.
use Rattle.std.{specs.Cmp.Derive.{both_true}, proofs.{Common.{sym, true}, lemmas.Bool.{eq-eqb, eqb-true}}}
use Rattle.std.proofs.Common.{ℕ, ◌||◌, ◌∙◌, ◌≡◌, ◌≤◌, Bool, Option, ap, arith, eqb, false, if◌then◌else◌, is_some, refl}
use Rattle.{tariff_tree.specs.Meaning.{at_hiring, choice_place}, tariff_check.specs.Kinds.{part_of}}
use Rattle.tariff_calendar.{specs.Range.{IsSameCell}, proofs.Laws.{cuts_decide_conditions-first}}
use Rattle.tariff_compare.specs.Common.{ChoiceKind, Context, Counts, Differs, MeterContext, Question, Tree, lists_of}
use Rattle.tariff_compare.specs.{Contexts.{HasTables, IsMeterContext, context_at}, Kinds.{is_hiring, place_at}}
use Rattle.tariff_compare.{specs.{CountedLine.{counts, is_at}, Sides.{is_met}}, proofs.Frames.{both_parts}}
use Rattle.tariff_compare.specs.Kinds.{InForce, difference_at, differing_kind, in_force, is_asked, is_asked_amid}
use Rattle.tariff_compare.proofs.{Bridge.{in_range_of}, EachKind.{HasSameLines, difference_carried, in_force_same}}

-- two contexts in one cell of a tariff, the second at the hiring if the first is
pub record StandsFor (t : Tree) (k : ℕ) (n c : MeterContext) : Type 0 where
  pub has : HasTables t k
  pub first : IsMeterContext t n
  pub second : IsMeterContext t c
  pub same : IsSameCell (lists_of t k) (context_at t k n) (context_at t k c)
  pub ticks : c.ticks ≤ n.ticks
  pub pulses : c.pulses ≤ n.pulses

-- what is so of two contexts and of their hirings is so of either
of_either : (f : Context → Option ℕ) (x y : Context) (amid : Bool) → (f x ≡ f y) × (f (at_hiring x) ≡ f (at_hiring y))
    → f (if amid then x else at_hiring x) ≡ f (if amid then y else at_hiring y)
of_either f x y true same = same.0
of_either f x y false same = same.1

lines_same : (t : Tree) (k : ℕ) (n c : MeterContext) → StandsFor t k n c
    → HasSameLines t (context_at t k n) (context_at t k c)
lines_same t k n c is = λ (kind : ChoiceKind).
    of_either (choice_place (part_of kind) t) (context_at t k n) (context_at t k c) (is_asked_amid kind)
    (cuts_decide_conditions-first kind t k (context_at t k n) (context_at t k c) is.has.writable is.has.sound
    (in_range_of t k n is.has is.first) (in_range_of t k c is.has is.second) is.same)

hiring_carried : (n c : MeterContext) → c.ticks ≤ n.ticks → c.pulses ≤ n.pulses → is_hiring n ≡ true
    → is_hiring c ≡ true
hiring_carried n c ticks pulses h =
    let p = both_parts (eqb n.ticks 0) (eqb n.pulses 0) h in
    let t : n.ticks ≡ 0 = eqb-true n.ticks 0 p.0 in
    let q : n.pulses ≡ 0 = eqb-true n.pulses 0 p.1 in
    both_true (eq-eqb c.ticks 0 (omega (arith, t, ticks))) (eq-eqb c.pulses 0 (omega (arith, q, pulses)))

asked_carried : (kind : ChoiceKind) (n c : MeterContext) → c.ticks ≤ n.ticks → c.pulses ≤ n.pulses
    → is_asked kind n ≡ true → is_asked kind c ≡ true
asked_carried kind n c ticks pulses h =
    either (is_asked_amid kind) (is_hiring n) (is_hiring c) (hiring_carried n c ticks pulses) h
  where
    either : (amid a b : Bool) → (a ≡ true → b ≡ true) → (amid || a) ≡ true → (amid || b) ≡ true
    either true a b carried h = refl
    either false a b carried h = carried h

pub counts_carried : (t : Tree) (k : ℕ) (kind : ChoiceKind) (place : ℕ) (n c : MeterContext) → StandsFor t k n c
    → counts t k kind place n ≡ true → counts t k kind place c ≡ true
counts_carried t k kind place n c is h =
    let p = both_parts (is_asked kind n) (is_at place (place_at kind t (context_at t k n))) h in
    let same : place_at kind t (context_at t k n) ≡ place_at kind t (context_at t k c) = lines_same t k n c is kind in
    both_true (asked_carried kind n c is.ticks is.pulses p.0) (sym (ap (is_at place) same) ∙ p.1)

force_same : (t : Tree) (k : ℕ) (n c : MeterContext) → StandsFor t k n c
    → in_force t (context_at t k n) ≡ in_force t (context_at t k c)
force_same t k n c is = in_force_same t (context_at t k n) (context_at t k c) (lines_same t k n c is)

differs_carried : (t u : Tree) (k : ℕ) (n c : MeterContext) → StandsFor t k n c → StandsFor u k n c
    → is_some (difference_at t u k n) ≡ true → is_some (difference_at t u k c) ≡ true
differs_carried t u k n c t_is u_is h =
    sym (ap is_some (ap (λ (f : InForce). differing_kind c f (in_force u (context_at u k n))) (force_same t k n c t_is)
    ∙ ap (differing_kind c (in_force t (context_at t k c))) (force_same u k n c u_is)))
    ∙ difference_carried n c (in_force t (context_at t k n)) (in_force u (context_at u k n))
    (λ kind. asked_carried kind n c t_is.ticks t_is.pulses) h

-- so is the answer yes to a question
pub met_carried : (t u : Tree) (k : ℕ) (question : Question) (n c : MeterContext) → StandsFor t k n c
    → StandsFor u k n c → is_met t u k question n ≡ true → is_met t u k question c ≡ true
met_carried t u k (Counts kind place) n c t_is u_is h = counts_carried t k kind place n c t_is h
met_carried t u k Differs n c t_is u_is h = differs_carried t u k n c t_is u_is h
