-- The numbers of a text are in their ranges.
use Rattle.std.proofs.Common.{[], ℕ, ◌+◌, ◌^◌, ◌∷◌, ◌≤◌, All, List, None, Option, Some, arith, inl, inr, subst, sym}
use Rattle.{std.proofs.lemmas.List.Elements.{All-cons, All-nil}, tariff_syntax.specs.IsCondition.{parentheses}}
use Rattle.tariff_tree.specs.Writable.{IsFromTo, IsWritableCondition, IsWritableIf, IsWritablePart}
use Rattle.tariff_syntax.specs.Common.{AreDigitsOf, Condition, IsWritable, IsWritableEntry, Line, Part, Tree}
use Rattle.tariff_syntax.specs.Common.{after_distance, after_time, date, day, holiday, parts_of, position, time, zone}
use Rattle.tariff_syntax.specs.{Forms.{AreWeekdays, IsAtom, IsMinute}, Reads.{AreTextsOfLines, AreTextsOfTariff, Reads}}
use Rattle.tariff_syntax.specs.IsCondition.{IsCondition, atom, conjunction, disjunction, negation, one_factor, one_term}
use Rattle.tariff_syntax.specs.IsItem.{AreParts, IsCovers, IsPart, IsWhen}
use Rattle.tariff_syntax.specs.{PrintedCondition.{Level, factor, term, whole}, TextLines.{lines_of}, Token.{Token}}
use Rattle.tariff_syntax.proofs.ShownFigures.{amount_small, digits_small}
use Rattle.tariff_tree.specs.Part as part

two_digits : (text : List ℕ) (n : ℕ) → AreDigitsOf 2 2 text n → n ≤ 99
two_digits text n h = omega (arith, digits_small 2 text n h)

four_digits : (text : List ℕ) (n : ℕ) → AreDigitsOf 4 4 text n → n ≤ 9999
four_digits text n h = omega (arith, digits_small 4 text n h)

minute_small : (text : List ℕ) (n : ℕ) → IsMinute text n → n ≤ 1439
minute_small text n h = omega (arith, h.3, h.4, h.5)

weekdays_small : (ts : List Token) (from to : ℕ) → AreWeekdays ts from to → IsFromTo 1 7 from × IsFromTo 1 7 to
weekdays_small ts from to (inl h) = ((h.2.0, h.2.1), subst (IsFromTo 1 7) (sym h.3) (h.2.0, h.2.1))
weekdays_small ts from to (inr h) = ((h.3.0, h.3.1), (h.4.0, h.4.1))

atom_small : (ts : List Token) (c : Condition) → IsAtom ts c → IsWritableCondition c
atom_small ts (position n) h = (h.2.above, h.2.below)
atom_small ts (zone n) h = (h.2.above, h.2.below)
atom_small ts (time from to) h = (minute_small h.0 from h.3, minute_small h.1 to h.4)
atom_small ts (day from to) h = weekdays_small h.0 from to h.2
atom_small ts (date from_month from_date to_month to_date) h = (
  two_digits h.3.0 from_month h.3.3,
  two_digits h.3.1 from_date h.3.4,
  two_digits h.4.0 to_month h.4.3,
  two_digits h.4.1 to_date h.4.4,
)
atom_small ts holiday h = tt
atom_small ts (after_distance n) h = amount_small 1 h.0 n h.2
atom_small ts (after_time n) h = amount_small 1 h.0 n h.2
atom_small ts c h = absurd h

condition_small : (place : Level) (ts : List Token) (c : Condition) → IsCondition place ts c → IsWritableCondition c
condition_small factor ts c (atom ts' c' h) = atom_small ts' c' h
condition_small factor ts c (negation ts' c' h) = condition_small factor ts' c' h
condition_small factor ts c (parentheses ts' c' h) = condition_small whole ts' c' h
condition_small term ts c (one_factor ts' c' h) = condition_small factor ts' c' h
condition_small term ts c (conjunction left right p q h g) =
    (condition_small term left p h, condition_small factor right q g)
condition_small whole ts c (one_term ts' c' h) = condition_small term ts' c' h
condition_small whole ts c (disjunction left right p q h g) =
    (condition_small whole left p h, condition_small term right q g)

when_small : (ts : List Token) (when : Option Condition) → IsWhen ts when → IsWritableIf when
when_small ts None h = tt
when_small ts (Some c) h = condition_small whole h.0 c h.2

pub covers_small : (decimals : ℕ) (ts : List Token) (n : ℕ) → IsCovers decimals ts n → n ≤ 10 ^ 12
covers_small decimals ts n (inl h) = omega (arith, h.1)
covers_small decimals ts n (inr h) = amount_small decimals h.0 n h.2

part_small : (decimals : ℕ) (ts : List Token) (p : Part) → IsPart decimals ts p → IsWritablePart p
part_small decimals ts (part.money n) h = amount_small decimals h.0 n h.2
part_small decimals ts (part.measure n) h = amount_small 1 h.0 n h.2
part_small decimals ts (part.number least most n) h = (h.2.above, h.2.below)
part_small decimals ts (part.year_date year month number) h =
    (four_digits h.2.0 year h.2.3, two_digits h.2.4.0 month h.2.4.3, two_digits h.2.4.1 number h.2.4.4)
part_small decimals ts (part.covers n) h = covers_small decimals ts n h
part_small decimals ts (part.condition when) h = when_small ts when h
part_small decimals ts p h = tt

parts_small : (decimals : ℕ) (ts : List Token) (ps : List Part) → AreParts decimals ts ps → All IsWritablePart ps
parts_small decimals ts [] h = All-nil IsWritablePart
parts_small decimals ts (p ∷ ps) h =
    All-cons IsWritablePart p ps (part_small decimals h.0 p h.3) (parts_small decimals h.1 ps h.4)

abbrev Small : Line → Type 0
Small l = IsWritableEntry l.entry

lines_small : (decimals number : ℕ) (texts : List (List ℕ)) (lines : List Line)
    → AreTextsOfLines decimals number texts lines → All Small lines
lines_small decimals number [] lines h = subst (All Small) (sym h) (All-nil Small)
lines_small decimals number (text ∷ texts) lines (inl h) = lines_small decimals (number + 1) texts lines h.1
lines_small decimals number (text ∷ texts) lines (inr h) =
    subst (All Small) (sym h.2)
    (All-cons Small _ h.1 (parts_small decimals h.3.2.0 (parts_of h.0) h.3.2.2)
    (lines_small decimals (number + 1) texts h.1 h.4))

tariff_small : (number : ℕ) (texts : List (List ℕ)) (t : Tree) → AreTextsOfTariff number texts t → IsWritable t
tariff_small number [] t h =
    record { decimals = omega (arith, h.0); lines = subst (All Small) (sym h.1) (All-nil Small) }
tariff_small number (text ∷ texts) t (inl h) = tariff_small (number + 1) texts t h.1
tariff_small number (text ∷ texts) t (inr (inl h)) =
    record { decimals = h.0.2.2.below; lines = lines_small t.decimals (number + 1) texts t.lines h.1 }
tariff_small number (text ∷ texts) t (inr (inr h)) =
    record { decimals = omega (arith, h.1); lines = lines_small 2 number (text ∷ texts) t.lines h.2 }

-- a text's tariff has its numbers in their ranges
pub numbers_of_text : (text : List ℕ) (t : Tree) → Reads text t → IsWritable t
numbers_of_text text t h = tariff_small 1 (lines_of text) t h
