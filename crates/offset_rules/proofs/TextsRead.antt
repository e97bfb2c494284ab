-- Texts of rules are read by their lines.
use Rattle.{std.specs.Prelude.{codes}, offset_rules.specs.Common.{BadLine, RuleFault, SameMonth, TooLong}}
use Rattle.std.proofs.Common.{[], ℕ, ℤ, ◌++◌, ◌↔◌, ◌∙◌, ◌∷◌, ◌≡◌, ◌≢◌, ◌≤◌, Bool, Err, List, None, Ok, Option, Result}
use Rattle.std.proofs.Common.{Some, ap, eqb, false, if◌then◌else◌, length, ltb, refl, subst, true}
use Rattle.std.proofs.lemmas.Bool.{eq-eqb, le-ltb, lt-ltb, ltb-false, ltb-true, ne_eqb, Decides.{Decides-eqb}}
use Rattle.offset_rules.specs.Forms.{IsChangeText, IsNamedLine, IsSeconds}
use Rattle.offset_rules.specs.Reading.{change_at, lines_read, named_line_at, or_bad, rules_read, seconds_at, whole}
use Rattle.offset_rules.specs.{Rule.{Change, Rule}, RulesText.{AreLinesOf, BreaksAt, IsReadAs, Lacks, StandsFirst}}
use Rattle.offset_rules.specs.RulesText.BreaksAt.{after_them, at_first, at_fourth, at_second, at_third}
use Rattle.offset_rules.proofs.LinesRead.{IsReadBy, LineFirst, changes, line_from, line_is, offsets}

-- ---- lines that stand there and lines that are lacking

abbrev standard_at : List ℕ → Option (ℤ × List ℕ)
standard_at = named_line_at seconds_at (codes "standard ")

abbrev summer_at : List ℕ → Option (ℤ × List ℕ)
summer_at = named_line_at seconds_at (codes "summer ")

abbrev begin_at : List ℕ → Option (Change × List ℕ)
begin_at = named_line_at change_at (codes "begin ")

abbrev end_at : List ℕ → Option (Change × List ℕ)
end_at = named_line_at change_at (codes "end ")

-- a line of the name says some value
abbrev Says : {A : Type 0} → (Form : List ℕ → A → Type 0) (name line : List ℕ) → Type 0
Says {A = A} Form name line = (value : A) × IsNamedLine Form name line value

module _ {A : Type 0} {Form : List ℕ → A → Type 0} {value_at : List ℕ → Option (A × List ℕ)} where
  stands : IsReadBy Form value_at → (name text : List ℕ) (x : A × List ℕ) → named_line_at value_at name text ≡ Some x
      → StandsFirst (Says Form name) text x.1
  stands read name text x e = let there = line_is read name text x e in (there.line, there.text_is, (x.0, there.is))

  there : IsReadBy Form value_at → (name text rest : List ℕ) (first : StandsFirst (Says Form name) text rest)
      → named_line_at value_at name text ≡ Some (first.2.0, rest)
  there read name text rest first =
      ap (named_line_at value_at name) first.1 ∙ line_from read name first.0 rest first.2.0 first.2.1

  lacks : IsReadBy Form value_at → (name text : List ℕ) → named_line_at value_at name text ≡ None
      → Lacks (Says Form name) text
  lacks read name text none rest first = let some = there read name text rest first in absurd cc

  lacking : IsReadBy Form value_at → (name text : List ℕ) → Lacks (Says Form name) text
      → named_line_at value_at name text ≡ None
  lacking read name text lacks = by (named_line_at value_at name text) refl
    where
      by : (found : Option (A × List ℕ)) → named_line_at value_at name text ≡ found
          → named_line_at value_at name text ≡ None
      by None e = e
      by (Some x) e = absurd (lacks x.1 (stands read name text x e))

-- ---- what is answered, the text says

-- the first of the four lines up to a rest
record Front (text : List ℕ) (rule : Rule) (rest : List ℕ) : Type 0 where
  a : List ℕ
  b : List ℕ
  c : List ℕ
  standard : LineFirst (IsNamedLine IsSeconds (codes "standard ")) text rule.standard a
  summer : LineFirst (IsNamedLine IsSeconds (codes "summer ")) a rule.summer b
  begin : LineFirst (IsNamedLine IsChangeText (codes "begin ")) b rule.begin c
  end : LineFirst (IsNamedLine IsChangeText (codes "end ")) c rule.end rest

lines_of : (text : List ℕ) (rule : Rule) → Front text rule [] → AreLinesOf text rule
lines_of text rule front = record {
  first = front.standard.line;
  second = front.summer.line;
  third = front.begin.line;
  fourth = front.end.line;
  text_is =
      front.standard.text_is ∙ ap (λ (t : List ℕ). front.standard.line ++ 10 ∷ t)
      (front.summer.text_is ∙ ap (λ (t : List ℕ). front.summer.line ++ 10 ∷ t)
      (front.begin.text_is ∙ ap (λ (t : List ℕ). front.begin.line ++ 10 ∷ t) front.end.text_is));
  standard = front.standard.is;
  summer = front.summer.is;
  begin = front.begin.is;
  end = front.end.is;
}

ends_by : (text : List ℕ) (rule : Rule) (b : Bool) → eqb rule.begin.month rule.end.month ≡ b → length text ≤ 4096
    → Front text rule [] → IsReadAs text (if b then Err SameMonth else Ok rule)
ends_by text rule true is few front =
    (few, (rule, lines_of text rule front, (Decides-eqb rule.begin.month rule.end.month).0 is))
ends_by text rule false is few front =
    (few, lines_of text rule front, λ same. let e = eq-eqb rule.begin.month rule.end.month same in absurd cc)

ends : (text rest : List ℕ) (rule : Rule) → length text ≤ 4096 → Front text rule rest → IsReadAs text (whole rule rest)
ends text [] rule few front = ends_by text rule (eqb rule.begin.month rule.end.month) refl few front
ends text (c ∷ cs) rule few front = (
  few,
  after_them text front.a front.b front.c (c ∷ cs)
      (front.standard.line, front.standard.text_is, (rule.standard, front.standard.is))
      (front.summer.line, front.summer.text_is, (rule.summer, front.summer.is))
      (front.begin.line, front.begin.text_is, (rule.begin, front.begin.is))
      (front.end.line, front.end.text_is, (rule.end, front.end.is))
      (λ e. absurd cc),
)

module _ (text : List ℕ) (few : length text ≤ 4096) where
  at_end : (standard summer : ℤ × List ℕ) (begin : Change × List ℕ) (found : Option (Change × List ℕ))
      → standard_at text ≡ Some standard
      → summer_at standard.1 ≡ Some summer
      → begin_at summer.1 ≡ Some begin → end_at begin.1 ≡ found
      → IsReadAs text (or_bad 4 found
      (λ end. whole (record { standard = standard.0; summer = summer.0; begin = begin.0; end = end.0 }) end.1))
  at_end standard summer begin None p q r e = (
    few,
    at_fourth text standard.1 summer.1 begin.1 (stands offsets _ text standard p) (stands offsets _ standard.1 summer q)
        (stands changes _ summer.1 begin r) (lacks changes _ begin.1 e),
  )
  at_end standard summer begin (Some end) p q r e =
      ends text end.1 (record { standard = standard.0; summer = summer.0; begin = begin.0; end = end.0 }) few (record {
        a = standard.1;
        b = summer.1;
        c = begin.1;
        standard = line_is offsets (codes "standard ") text standard p;
        summer = line_is offsets (codes "summer ") standard.1 summer q;
        begin = line_is changes (codes "begin ") summer.1 begin r;
        end = line_is changes (codes "end ") begin.1 end e;
      })

  at_begin : (standard summer : ℤ × List ℕ) (found : Option (Change × List ℕ))
      → standard_at text ≡ Some standard
      → summer_at standard.1 ≡ Some summer → begin_at summer.1 ≡ found
      → IsReadAs text (or_bad 3 found (λ begin. or_bad 4 (end_at begin.1)
      (λ end. whole (record { standard = standard.0; summer = summer.0; begin = begin.0; end = end.0 }) end.1)))
  at_begin standard summer None p q e = (
    few,
    at_third text standard.1 summer.1 (stands offsets _ text standard p) (stands offsets _ standard.1 summer q)
        (lacks changes _ summer.1 e),
  )
  at_begin standard summer (Some begin) p q e =
      at_end standard summer begin (end_at begin.1) p q e refl

  at_summer : (standard : ℤ × List ℕ) (found : Option (ℤ × List ℕ))
      → standard_at text ≡ Some standard → summer_at standard.1 ≡ found
      → IsReadAs text (or_bad 2 found (λ summer. or_bad 3 (begin_at summer.1)
      (λ begin. or_bad 4 (end_at begin.1)
      (λ end. whole (record { standard = standard.0; summer = summer.0; begin = begin.0; end = end.0 }) end.1))))
  at_summer standard None p e =
      (few, at_second text standard.1 (stands offsets _ text standard p) (lacks offsets _ standard.1 e))
  at_summer standard (Some summer) p e = at_begin standard summer (begin_at summer.1) p e refl

  at_standard : (found : Option (ℤ × List ℕ)) → standard_at text ≡ found
      → IsReadAs text (or_bad 1 found (λ standard. or_bad 2 (summer_at standard.1) (λ summer.
      or_bad 3 (begin_at summer.1) (λ begin. or_bad 4 (end_at begin.1)
      (λ end. whole (record { standard = standard.0; summer = summer.0; begin = begin.0; end = end.0 }) end.1)))))
  at_standard None e = (few, at_first text (lacks offsets _ text e))
  at_standard (Some standard) e = at_summer standard (summer_at standard.1) e refl

  lines_are : IsReadAs text (lines_read text)
  unfolding lines_read
  lines_are = at_standard (standard_at text) refl

pub rules_are : (text : List ℕ) → IsReadAs text (rules_read text)
unfolding rules_read
rules_are text = by (ltb 4096 (length text)) refl
  where
    by : (b : Bool) → ltb 4096 (length text) ≡ b → IsReadAs text (if b then Err TooLong else lines_read text)
    by true e = ltb-true 4096 (length text) e
    by false e = lines_are text (ltb-false 4096 (length text) e)

-- ---- and what the text says is answered

short : (text : List ℕ) → length text ≤ 4096 → rules_read text ≡ lines_read text
unfolding rules_read
short text few = rw (le-ltb 4096 (length text) few) refl

all_there : (text : List ℕ) (rule : Rule) → AreLinesOf text rule → lines_read text ≡ whole rule []
unfolding lines_read
all_there text rule are =
    let d = are.fourth ++ 10 ∷ [] in
    let c = are.third ++ 10 ∷ d in
    let b = are.second ++ 10 ∷ c in
    rw (
      are.text_is,
      line_from offsets (codes "standard ") are.first b rule.standard are.standard,
      line_from offsets (codes "summer ") are.second c rule.summer are.summer,
      line_from changes (codes "begin ") are.third d rule.begin are.begin,
      line_from changes (codes "end ") are.fourth [] rule.end are.end,
    ) refl

ended_by : (rule : Rule) (d : List ℕ) → d ≢ [] → whole rule d ≡ Err (BadLine 5)
ended_by rule [] some = absurd (some refl)
ended_by rule (c ∷ cs) some = refl

breaks_there : (text : List ℕ) (line : ℕ) → BreaksAt text line → lines_read text ≡ Err (BadLine line)
unfolding lines_read
breaks_there text line (at_first t lacks) = rw (lacking offsets (codes "standard ") text lacks) refl
breaks_there text line (at_second t a p lacks) =
    rw (there offsets (codes "standard ") text a p, lacking offsets (codes "summer ") a lacks) refl
breaks_there text line (at_third t a b p q lacks) = rw (
  there offsets (codes "standard ") text a p,
  there offsets (codes "summer ") a b q,
  lacking changes (codes "begin ") b lacks,
) refl
breaks_there text line (at_fourth t a b c p q r lacks) = rw (
  there offsets (codes "standard ") text a p,
  there offsets (codes "summer ") a b q,
  there changes (codes "begin ") b c r,
  lacking changes (codes "end ") c lacks,
) refl
breaks_there text line (after_them t a b c d p q r s some) = rw (
  there offsets (codes "standard ") text a p,
  there offsets (codes "summer ") a b q,
  there changes (codes "begin ") b c r,
  there changes (codes "end ") c d s,
) (ended_by _ d some)

answered : (text : List ℕ) (answer : Result Rule RuleFault) → IsReadAs text answer → rules_read text ≡ answer
unfolding rules_read
answered text (Ok rule) is =
    let other : eqb rule.begin.month rule.end.month ≡ false = ne_eqb rule.begin.month rule.end.month is.2 in
    short text is.0 ∙ (all_there text rule is.1 ∙ rw other refl)
answered text (Err TooLong) is = rw (lt-ltb 4096 (length text) is) refl
answered text (Err (BadLine line)) is = short text is.0 ∙ breaks_there text line is.1
answered text (Err SameMonth) is =
    let rule = is.1.0 in
    let same : eqb rule.begin.month rule.end.month ≡ true = eq-eqb rule.begin.month rule.end.month is.1.2 in
    short text is.0 ∙ (all_there text rule is.1.1 ∙ rw same refl)

pub texts_say_rules : (text : List ℕ) (answer : Result Rule RuleFault) → (rules_read text ≡ answer)
    ↔ IsReadAs text answer
texts_say_rules text answer = (λ e. subst (IsReadAs text) e (rules_are text), answered text answer)
