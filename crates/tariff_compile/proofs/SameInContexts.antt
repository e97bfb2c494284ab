-- What is the same in contexts, and what has one answer in them.
use Rattle.{std.{specs.List.{slice_get}, proofs.lemmas.Bool.{cases_eq}}, taxi_units.specs.Calendar.{date_of_place}}
use Rattle.std.proofs.Common.{ℕ, ◌+◌, ◌<◌, ◌==◌, ◌∙◌, ◌≡◌, List, Some, ap, arith, inl, inr, nat_le, subst, sym, true}
use Rattle.{tariff_tree.specs.Meaning.{is_in_time, is_on, is_within}, tariff_compile.specs.declared.alike.Alike.{Alike}}
use Rattle.tariff_compile.specs.{Alike.{Agree, asks_alike}, Common.{Condition, Context, holds}}
use Rattle.tariff_tree.specs.Condition as tree

-- what asks for a part in common has one answer
pub one_answer : (alike : Alike) (c : Condition) (x y : Context) → asks_alike alike c ≡ true → Agree alike x y
    → holds c x ≡ holds c y
one_answer alike (tree.and left right) x y asked agree = cc
one_answer alike (tree.or left right) x y asked agree = cc
one_answer alike (tree.not inner) x y asked agree = cc
one_answer alike (tree.position number) x y asked agree = ap (λ n. n == number) (agree.position asked)
one_answer alike (tree.zone number) x y asked agree = ap (λ n. n == number) (agree.zone asked)
one_answer alike (tree.time from to) x y asked agree = ap (is_in_time from to) (agree.minute asked)
one_answer alike (tree.day from to) x y asked agree = ap (is_within from to) (agree.weekday asked)
one_answer alike (tree.date from_month from_date to_month to_date) x y asked agree =
    ap (λ (place : ℕ). is_on (from_month, from_date) (to_month, to_date) (date_of_place place)) (agree.month_day asked)
one_answer alike tree.holiday x y asked agree = agree.holiday asked
one_answer alike (tree.after_distance decimetres) x y asked agree =
    rw ((agree.distance asked).0, (agree.distance asked).1)
one_answer alike (tree.after_time tenths) x y asked agree = ap (nat_le tenths) (agree.time asked)

-- the same of the contexts before a place
pub record AgreeBefore (alike : Alike) (xs : List Context) (n : ℕ) : Type 0 where
  pub each : (first : Context) → slice_get xs 0 ≡ Some first → (place : ℕ) (x : Context) → slice_get xs place ≡ Some x
      → place < n → Agree alike first x

one_value : (x y : Context) → Some x ≡ Some y → x ≡ y
one_value x y same = cc

-- one context more
pub agree_more : (old new : Alike) (xs : List Context) (n : ℕ) (first x : Context) → AgreeBefore old xs n
    → slice_get xs 0 ≡ Some first → slice_get xs n ≡ Some x
    → Agree new first x → ((y : Context) → Agree old first y → Agree new first y) → AgreeBefore new xs (n + 1)
agree_more old new xs n first x before first_at x_at added kept =
    record {
      each = λ other other_at place y at within.
          let same_first : first ≡ other = one_value first other (sym first_at ∙ other_at) in
          subst (λ (f : Context). Agree new f y) same_first
          (elim (cases_eq place n) [
            | inl same ↦ subst (λ (z : Context). Agree new first z)
                (one_value x y (sym x_at ∙ (ap (slice_get xs) (sym same) ∙ at))) added
            | inr apart ↦ kept y (before.each first first_at place y at (omega (arith, within, apart)))
          ]);
    }
