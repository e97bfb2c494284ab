-- The line of a mark says the mark.
use Rattle.{std.{specs.Fmt.{decimal}, proofs.Common.{refl, sym}}, shift_book.specs.Marks.{six_fields}}
use Rattle.std.proofs.Common.{[], ℕ, ◌++◌, ◌<◌, ◌^◌, ◌↔◌, ◌∙◌, ◌∷◌, ◌≡◌, ◌≤◌, List, ap, append_assoc, arith, length}
use Rattle.taxi_units.proofs.Laws.{numbers_are_short, numbers_are_written_by_their_digits}
use Rattle.shift_book.specs.{Common.{Numbers}, MarkOrder.{Fit}}
use Rattle.shift_book.specs.Marks.{HasDriver, IsMarkLine, IsTextOfNumbers, Signing, head_text, mark_text, numbers_text}

-- a number below 2^64 has at most 20 digits
pub counts_are_short : (value : ℕ) → value < 2 ^ 64 → length (decimal value) ≤ 20
counts_are_short value small = (numbers_are_short 20 value (omega arith) (omega arith) (omega arith)).1

fields_are : (a b c d e f : List ℕ)
    → (32 ∷ a) ++ ((32 ∷ b) ++ ((32 ∷ c) ++ ((32 ∷ d) ++ ((32 ∷ e) ++ ((32 ∷ f) ++ 10 ∷ []))))) ≡ six_fields a b c d e f
fields_are a b c d e f = simp append_assoc

says : (n : Numbers) → Fit n → IsTextOfNumbers (numbers_text n) n
says n fit =
    record {
      one = decimal n.number;
      two = decimal n.distance_mm;
      three = decimal n.hired_mm;
      four = decimal n.hirings;
      five = decimal n.supplements;
      six = decimal n.fare;
      text_is = fields_are (decimal n.number) (decimal n.distance_mm) (decimal n.hired_mm) (decimal n.hirings)
          (decimal n.supplements) (decimal n.fare);
      number = (numbers_are_written_by_their_digits n.number (decimal n.number) (omega (arith, fit.number))).0 refl;
      distance = (numbers_are_written_by_their_digits n.distance_mm (decimal n.distance_mm) fit.distance).0 refl;
      hired = (numbers_are_written_by_their_digits n.hired_mm (decimal n.hired_mm) fit.hired).0 refl;
      hirings = (numbers_are_written_by_their_digits n.hirings (decimal n.hirings) (omega (arith, fit.hirings))).0 refl;
      supplements = (numbers_are_written_by_their_digits n.supplements (decimal n.supplements) fit.supplements).0 refl;
      fare = (numbers_are_written_by_their_digits n.fare (decimal n.fare) fit.fare).0 refl;
    }

-- the line that is written says the mark
pub said : (mark : Signing) → Fit mark.numbers → HasDriver mark.on mark.driver → IsMarkLine (mark_text mark) mark
said mark fit valid =
    record { numbers = numbers_text mark.numbers; text_is = refl; driver = valid; says = says mark.numbers fit }

written : (text : List ℕ) (n : Numbers) → Fit n → IsTextOfNumbers text n → text ≡ numbers_text n
written text n fit s =
    let one = (numbers_are_written_by_their_digits n.number s.one (omega (arith, fit.number))).1 s.number in
    let two = (numbers_are_written_by_their_digits n.distance_mm s.two fit.distance).1 s.distance in
    let three = (numbers_are_written_by_their_digits n.hired_mm s.three fit.hired).1 s.hired in
    let four = (numbers_are_written_by_their_digits n.hirings s.four (omega (arith, fit.hirings))).1 s.hirings in
    let five = (numbers_are_written_by_their_digits n.supplements s.five fit.supplements).1 s.supplements in
    let six = (numbers_are_written_by_their_digits n.fare s.six fit.fare).1 s.fare in
    s.text_is ∙ rw (← one, ← two, ← three, ← four, ← five, ← six) (sym (fields_are _ _ _ _ _ _))

pub marks_are_their_lines : (line : List ℕ) (mark : Signing) → Fit mark.numbers
    → IsMarkLine line mark ↔ (HasDriver mark.on mark.driver × (line ≡ mark_text mark))
marks_are_their_lines line mark fit = (
  (λ (m : IsMarkLine line mark). (
    m.driver,
    m.text_is ∙ ap (λ (t : List ℕ). head_text mark.on mark.driver ++ t) (written m.numbers mark.numbers fit m.says),
  )),
  (λ (h : HasDriver mark.on mark.driver × (line ≡ mark_text mark)). record {
    numbers = numbers_text mark.numbers;
    text_is = h.1;
    driver = h.0;
    says = says mark.numbers fit;
  }),
)
