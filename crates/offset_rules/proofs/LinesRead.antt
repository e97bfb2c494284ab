-- Lines are read by their forms.
use Rattle.std.proofs.Common.{[], ℕ, ◌++◌, ◌∙◌, ◌∷◌, ◌≡◌, List, Option, Some, ap, append_assoc, arith, refl, subst, sym}
use Rattle.taxi_units.{specs.{Number.{NoDigitFirst}, Reading.{word_at}}, proofs.Laws.{words_are_read_by_their_text}}
use Rattle.offset_rules.specs.{Common.{day_names}, Reading.{change_at, named_line_at, numbered_at, seconds_at, time_at}}
use Rattle.offset_rules.specs.{Forms.{IsChangeText, IsNamedLine, IsSeconds}, Names.{month_names, number_names}}
use Rattle.offset_rules.{specs.Rule.{Change}, proofs.Forms.{read_on, seconds_from, seconds_is, time_from, time_is}}
use Rattle.offset_rules.proofs.NamesRead.{day_from, month_from, name_is, number_from}

-- a word stands at the front
word_is : (word text rest : List ℕ) → word_at word text ≡ Some rest → text ≡ word ++ rest
word_is word text rest = (words_are_read_by_their_text word text rest).0

word_again : (word rest : List ℕ) → word_at word (word ++ rest) ≡ Some rest
word_again word rest = (words_are_read_by_their_text word (word ++ rest) rest).1 refl

same_pair : {A B : Type 0} (x y : A × B) → Some x ≡ Some y → x ≡ y
same_pair x y e = cc

-- a text of a form stands at the front
pub record StandsAt {A : Type 0} (Form : List ℕ → A → Type 0) (text : List ℕ) (value : A) (rest : List ℕ) : Type 0 where
  pub front : List ℕ
  pub text_is : text ≡ front ++ rest
  pub is : Form front value

four_parts : (a b c d rest : List ℕ)
    → a ++ (32 ∷ (b ++ (32 ∷ (c ++ (32 ∷ (d ++ rest)))))) ≡ (a ++ (32 ∷ (b ++ (32 ∷ (c ++ (32 ∷ d)))))) ++ rest
four_parts a b c d rest = sym (simp append_assoc)

-- a text that is parted into four parts, with a blank before each but the first, and a rest
parted : (text a b c d after_a from_b after_b from_c after_c from_d rest : List ℕ) → text ≡ a ++ after_a
    → after_a ≡ 32 ∷ from_b → from_b ≡ b ++ after_b → after_b ≡ 32 ∷ from_c → from_c ≡ c ++ after_c
    → after_c ≡ 32 ∷ from_d → from_d ≡ d ++ rest
    → text ≡ (a ++ (32 ∷ (b ++ (32 ∷ (c ++ (32 ∷ d)))))) ++ rest
parted text a b c d after_a from_b after_b from_c after_c from_d rest e1 e2 e3 e4 e5 e6 e7 =
    rw (e1, e2, e3, e4, e5, e6, e7) (four_parts a b c d rest)

-- a text that is a name, a value and an LF, and a rest
named : (text name value after_name after_value rest : List ℕ) → text ≡ name ++ after_name
    → after_name ≡ value ++ after_value → after_value ≡ 10 ∷ rest → text ≡ (name ++ value) ++ 10 ∷ rest
named text name value after_name after_value rest e1 e2 e3 = rw (e1, e2, e3) (sym (append_assoc name value (10 ∷ rest)))

pub change_is : (text : List ℕ) (x : Change × List ℕ) → change_at text ≡ Some x → StandsAt IsChangeText text x.0 x.1
unfolding change_at
change_is text x e =
    let number = read_on (numbered_at number_names 1 text) _ x e in
    let days = read_on (word_at (32 ∷ []) number.0.1) _ x number.2 in
    let weekday = read_on (numbered_at day_names 1 days.0) _ x days.2 in
    let months = read_on (word_at (32 ∷ []) weekday.0.1) _ x weekday.2 in
    let month = read_on (numbered_at month_names 1 months.0) _ x months.2 in
    let time = read_on (word_at (32 ∷ []) month.0.1) _ x month.2 in
    let minute = read_on (time_at time.0) _ x time.2 in
    let n = name_is number_names text number.0 number.1 in
    let w = name_is day_names days.0 weekday.0 weekday.1 in
    let m = name_is month_names months.0 month.0 month.1 in
    let t = time_is time.0 minute.0 minute.1 in
    let change : Change =
    record { number = number.0.0; weekday = weekday.0.0; month = month.0.0; minute = minute.0.0 } in
    let there : StandsAt IsChangeText text change minute.0.1 = record {
      front = n.name ++ (32 ∷ (w.name ++ (32 ∷ (m.name ++ (32 ∷ t.time)))));
      text_is = parted text n.name w.name m.name t.time number.0.1 days.0 weekday.0.1 months.0 month.0.1 time.0
          minute.0.1 n.text_is (word_is (32 ∷ []) number.0.1 days.0 days.1) w.text_is
          (word_is (32 ∷ []) weekday.0.1 months.0 months.1) m.text_is
          (word_is (32 ∷ []) month.0.1 time.0 time.1) t.text_is;
      is = record {
        number = n.name;
        weekday = w.name;
        month = m.name;
        time = t.time;
        text_is = refl {a = n.name ++ (32 ∷ (w.name ++ (32 ∷ (m.name ++ (32 ∷ t.time)))))};
        number_is = n.is;
        weekday_is = w.is;
        month_is = m.is;
        time_is = t.is;
      };
    } in
    subst (λ (z : Change × List ℕ). StandsAt IsChangeText text z.0 z.1) {x = (change, minute.0.1)}
    (same_pair (change, minute.0.1) x minute.2) there

pub change_from : (text rest : List ℕ) (change : Change) → IsChangeText text change → NoDigitFirst rest
    → change_at (text ++ rest) ≡ Some (change, rest)
unfolding change_at
change_from text rest change is stops =
    let parts : text ++ rest ≡ is.number ++ (32 ∷ (is.weekday ++ (32 ∷ (is.month ++ (32 ∷ (is.time ++ rest)))))) =
    ap (λ (t : List ℕ). t ++ rest) is.text_is ∙ sym (four_parts is.number is.weekday is.month is.time rest) in
    let last = is.time ++ rest in
    let third = is.month ++ (32 ∷ last) in
    let second = is.weekday ++ (32 ∷ third) in
    rw (
      parts,
      number_from is.number (32 ∷ second) change.number is.number_is,
      word_again (32 ∷ []) second,
      day_from is.weekday (32 ∷ third) change.weekday is.weekday_is,
      word_again (32 ∷ []) third,
      month_from is.month (32 ∷ last) change.month is.month_is,
      word_again (32 ∷ []) last,
      time_from is.time rest change.minute is.time_is stops,
    ) refl

-- a value is read by its form
pub record IsReadBy {A : Type 0} (Form : List ℕ → A → Type 0) (value_at : List ℕ → Option (A × List ℕ)) : Type 0 where
  pub is : (text : List ℕ) (x : A × List ℕ) → value_at text ≡ Some x → StandsAt Form text x.0 x.1
  pub again : (text rest : List ℕ) (value : A) → Form text value → NoDigitFirst rest
      → value_at (text ++ rest) ≡ Some (value, rest)

pub offsets : IsReadBy IsSeconds seconds_at
offsets = record {
  is = λ text x e. let o = seconds_is text x e in record { front = o.value; text_is = o.text_is; is = o.seconds };
  again = seconds_from;
}

pub changes : IsReadBy IsChangeText change_at
changes = record { is = change_is; again = change_from }

-- lines
pub record LineFirst {A : Type 0} (Form : List ℕ → A → Type 0) (text : List ℕ) (value : A)
    (rest : List ℕ) : Type 0 where
  pub line : List ℕ
  pub text_is : text ≡ line ++ 10 ∷ rest
  pub is : Form line value

module _ {A : Type 0} {Form : List ℕ → A → Type 0} {value_at : List ℕ → Option (A × List ℕ)} where
  pub line_is : IsReadBy Form value_at → (name text : List ℕ) (x : A × List ℕ)
      → named_line_at value_at name text ≡ Some x → LineFirst (IsNamedLine Form name) text x.0 x.1
  unfolding named_line_at
  line_is read name text x e =
      let after = read_on (word_at name text) _ x e in
      let value = read_on (value_at after.0) _ x after.2 in
      let rest = read_on (word_at (10 ∷ []) value.0.1) _ x value.2 in
      let stands = read.is after.0 value.0 value.1 in
      let ends = word_is (10 ∷ []) value.0.1 rest.0 rest.1 in
      let there : LineFirst (IsNamedLine Form name) text value.0.0 rest.0 = record {
        line = name ++ stands.front;
        text_is = named text name stands.front after.0 value.0.1 rest.0 (word_is name text after.0 after.1)
            stands.text_is ends;
        is = record { text = stands.front; line_is = refl {a = name ++ stands.front}; text_is = stands.is };
      } in
      subst (λ (z : A × List ℕ). LineFirst (IsNamedLine Form name) text z.0 z.1)
      (same_pair (value.0.0, rest.0) x rest.2) there

  pub line_from : IsReadBy Form value_at → (name line rest : List ℕ) (value : A) → IsNamedLine Form name line value
      → named_line_at value_at name (line ++ 10 ∷ rest) ≡ Some (value, rest)
  unfolding named_line_at
  line_from read name line rest value is =
      let text : line ++ 10 ∷ rest ≡ name ++ (is.text ++ 10 ∷ rest) =
      ap (λ (t : List ℕ). t ++ 10 ∷ rest) is.line_is ∙ append_assoc name is.text (10 ∷ rest) in
      rw (
        text,
        word_again name (is.text ++ 10 ∷ rest),
        read.again is.text (10 ∷ rest) value is.text_is (omega arith),
        word_again (10 ∷ []) rest,
      ) refl
