-- A plain text is read as its rule, and what is read is in its ranges.
use Rattle.{std.specs.Fmt.{decimal}, taxi_units.proofs.Laws.{padded_numbers_are_written_as_figures}}
use Rattle.std.{specs.{List.{list_all}, Prelude.{codes}}, proofs.lemmas.{Bool.{cases_lt}, List.{get_or_past}}}
use Rattle.std.proofs.Common.{[], ℕ, ℤ, ◌%◌, ◌++◌, ◌-◌, ◌/◌, ◌∙◌, ◌∷◌, ◌≡◌, ◌≤◌, List, Ok, Result, arith, get_or, inl}
use Rattle.std.proofs.{Common.{inr, leb, length, length-append, negsuc, pos, refl, suc, sym, true}, lemmas.Int.{ints}}
use Rattle.taxi_units.{specs.Number.{padded_text}, proofs.Laws.{numbers_are_short, numbers_are_written_as_figures}}
use Rattle.{taxi_units.specs.Test.{at_most, each}, offset_rules.specs.Common.{IsFigure, IsOffset, RuleFault, day_names}}
use Rattle.offset_rules.specs.{Forms.{IsChangeText, IsNamedLine, IsSeconds, IsTime}, RulesText.{AreLinesOf, IsReadAs}}
use Rattle.offset_rules.specs.{Forms.IsSeconds.{ahead, behind}, Texts.{change_text, offset_text, plain_text, time_text}}
use Rattle.offset_rules.specs.{Names.{month_names, name_of, number_names}, Rule.{Change, IsChange, IsRule, Rule}}
use Rattle.offset_rules.{specs.Reading.{rules_read}, proofs.TextsRead.{texts_say_rules}}

-- ---- a plain text

seconds_text : (offset : ℤ) → IsOffset offset → IsSeconds (offset_text offset) offset
seconds_text (pos n) is =
    let below : n ≤ 50400 = omega (arith, ints, is.1) in
    ahead (decimal n) n
    (numbers_are_written_as_figures 5 0 50400 n (omega arith) (omega arith) (omega (arith, below)) (omega arith) below)
seconds_text (negsuc n) is =
    let below : suc n ≤ 50400 = omega (arith, ints, is.0) in
    behind (decimal (suc n)) (suc n) (numbers_are_written_as_figures 5 0 50400 (suc n) (omega arith) (omega arith)
    (omega (arith, below)) (omega arith) below)

two_digits : (greatest n : ℕ) → n ≤ greatest → greatest ≤ 99 → IsFigure 2 2 0 greatest (padded_text 2 n) n
two_digits greatest n most small =
    padded_numbers_are_written_as_figures 2 0 greatest n (omega arith) (omega arith) (omega (arith, most, small))
    (omega arith) most

time_again : (minute : ℕ) → minute ≤ 1439 → IsTime (time_text minute) minute
time_again minute most = record {
  hours = padded_text 2 (minute / 60);
  minutes = padded_text 2 (minute % 60);
  text_is = refl;
  hour = minute / 60;
  rest = minute % 60;
  hour_is = two_digits 23 (minute / 60) (omega arith) (omega arith);
  rest_is = two_digits 59 (minute % 60) (omega arith) (omega arith);
  minute_is = omega arith;
}

change_again : (change : Change) → IsChange change → IsChangeText (change_text change) change
change_again change is = record {
  number = name_of number_names change.number;
  weekday = name_of day_names change.weekday;
  month = name_of month_names change.month;
  time = time_text change.minute;
  text_is = refl;
  number_is = (is.number.0, is.number.1, refl);
  weekday_is = (is.weekday.0, is.weekday.1, refl);
  month_is = (is.month.0, is.month.1, refl);
  time_is = time_again change.minute is.minute;
}

said : {A : Type 0} {Form : List ℕ → A → Type 0} {value : A} (name text : List ℕ) → Form text value
    → IsNamedLine Form name (name ++ text) value
said name text is = record { text = text; line_is = refl; text_is = is }

plain_lines : (rule : Rule) → IsRule rule → AreLinesOf (plain_text rule) rule
plain_lines rule is = record {
  first = codes "standard " ++ offset_text rule.standard;
  second = codes "summer " ++ offset_text rule.summer;
  third = codes "begin " ++ change_text rule.begin;
  fourth = codes "end " ++ change_text rule.end;
  text_is = refl;
  standard = said (codes "standard ") (offset_text rule.standard) (seconds_text rule.standard is.standard);
  summer = said (codes "summer ") (offset_text rule.summer) (seconds_text rule.summer is.summer);
  begin = said (codes "begin ") (change_text rule.begin) (change_again rule.begin is.begin);
  end = said (codes "end ") (change_text rule.end) (change_again rule.end is.end);
}

-- ---- its length

short_names : (names : List (List ℕ)) → list_all (λ name. leb (length name) 6) names ≡ true → (place : ℕ)
    → length (get_or names place []) ≤ 6
short_names names all place =
    elim (cases_lt place (length names)) [
      | inl lt ↦ (each (λ (name : List ℕ). at_most (length name) 6) names).decides.0 all place [] lt
      | inr past ↦ rw (get_or_past names place [] past) (omega arith)
    ]

short_offset : (offset : ℤ) → IsOffset offset → length (offset_text offset) ≤ 6
short_offset (pos n) is =
    let below : n ≤ 50400 = omega (arith, ints, is.1) in
    omega (arith, numbers_are_short 5 n (omega arith) (omega arith) (omega (arith, below)))
short_offset (negsuc n) is =
    let below : suc n ≤ 50400 = omega (arith, ints, is.0) in
    omega (arith, numbers_are_short 5 (suc n) (omega arith) (omega arith) (omega (arith, below)))

short_change : (change : Change) → IsChange change → length (change_text change) ≤ 26
short_change change is =
    let n = short_names number_names refl (change.number - 1) in
    let w = short_names day_names refl (change.weekday - 1) in
    let m = short_names month_names refl (change.month - 1) in
    let h = (two_digits 23 (change.minute / 60) (omega (arith, is.minute)) (omega arith)).written.few in
    let l = (two_digits 59 (change.minute % 60) (omega arith) (omega arith)).written.few in
    let hours = padded_text 2 (change.minute / 60) in
    let minutes = padded_text 2 (change.minute % 60) in
    let t = length-append hours (58 ∷ minutes) in
    let c = length-append (name_of month_names change.month) (32 ∷ (hours ++ 58 ∷ minutes)) in
    let b = length-append (name_of day_names change.weekday)
    (32 ∷ (name_of month_names change.month ++ (32 ∷ (hours ++ 58 ∷ minutes)))) in
    let a = length-append (name_of number_names change.number) (32 ∷ (name_of day_names change.weekday
    ++ (32 ∷ (name_of month_names change.month ++ (32 ∷ (hours ++ 58 ∷ minutes)))))) in
    omega (arith, n, w, m, h, l, t, c, b, a)

plain_is_short : (rule : Rule) → IsRule rule → length (plain_text rule) ≤ 4096
plain_is_short rule is =
    let a = short_offset rule.standard is.standard in
    let b = short_offset rule.summer is.summer in
    let c = short_change rule.begin is.begin in
    let d = short_change rule.end is.end in
    let e = length-append (offset_text rule.standard) (10 ∷ ((codes "summer " ++ offset_text rule.summer) ++ 10
    ∷ ((codes "begin " ++ change_text rule.begin) ++ 10 ∷ ((codes "end " ++ change_text rule.end) ++ codes "\n")))) in
    let f = length-append (offset_text rule.summer) (10
    ∷ ((codes "begin " ++ change_text rule.begin) ++ 10 ∷ ((codes "end " ++ change_text rule.end) ++ codes "\n"))) in
    let g = length-append (change_text rule.begin) (10 ∷ ((codes "end " ++ change_text rule.end) ++ codes "\n")) in
    let h = length-append (change_text rule.end) (codes "\n") in
    omega (arith, a, b, c, d, e, f, g, h)

pub plain_texts_are_read_back : (rule : Rule) → IsRule rule → rules_read (plain_text rule) ≡ Ok rule
plain_texts_are_read_back rule is =
    (texts_say_rules (plain_text rule) (Ok rule)).1 (plain_is_short rule is, plain_lines rule is, is.months)

-- ---- ranges

offset_said : (value : List ℕ) (offset : ℤ) → IsSeconds value offset → IsOffset offset
offset_said value offset (ahead digits n is) = (omega (arith, ints), omega (arith, ints, is.below))
offset_said value offset (behind digits n is) = (omega (arith, ints, is.below), omega (arith, ints))

change_said : (value : List ℕ) (change : Change) → IsChangeText value change → IsChange change
change_said value change is = record {
  number = (is.number_is.0, is.number_is.1);
  weekday = (is.weekday_is.0, is.weekday_is.1);
  month = (is.month_is.0, is.month_is.1);
  minute = omega (arith, is.time_is.minute_is, is.time_is.hour_is.below, is.time_is.rest_is.below);
}

rule_said : (text : List ℕ) (rule : Rule) → IsReadAs text (Ok rule) → IsRule rule
rule_said text rule is = record {
  standard = offset_said is.1.standard.text rule.standard is.1.standard.text_is;
  summer = offset_said is.1.summer.text rule.summer is.1.summer.text_is;
  begin = change_said is.1.begin.text rule.begin is.1.begin.text_is;
  end = change_said is.1.end.text rule.end is.1.end.text_is;
  months = is.2;
}

pub rules_are_lawful : (text : List ℕ) (rule : Rule) → rules_read text ≡ Ok rule → IsRule rule
rules_are_lawful text rule e = rule_said text rule ((texts_say_rules text (Ok rule)).0 e)

-- ---- one answer

pub one_answer : (text : List ℕ) (a b : Result Rule RuleFault) → IsReadAs text a → IsReadAs text b → a ≡ b
one_answer text a b p q = sym ((texts_say_rules text a).1 p) ∙ (texts_say_rules text b).1 q
