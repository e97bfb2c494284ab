-- The line of a mark is read as that mark.
use Rattle.std.{specs.{Char.{digit_value, is_ascii_digit}, List.{prefix_len}}, proofs.lemmas.Bool.Decides.{nat_tests}}
use Rattle.{std.specs.{Fmt.{decimal}, Str.Parse.{AllDigits}}, taxi_units.specs.Reading.{word_at}}
use Rattle.std.proofs.Common.{[], ℕ, ◌++◌, ◌-◌, ◌<◌, ◌^◌, ◌∙◌, ◌∷◌, ◌≡◌, Bool, List, Option, Some, ap, append_assoc}
use Rattle.std.proofs.{Common.{arith, codes, eqb, false, length, refl, true}, lemmas.Fmt.{decimal_is_IsNumeral_wide}}
use Rattle.std.proofs.{Math.Seq.{drop-append_seam, take-append_seam}, lemmas.Bool.{le-leb, le-ltb, lt-ltb, ne_eqb}}
use Rattle.shift_book.{specs.{Books.{IsNext}, MarkOrder.{Fit, numbers_in}}, proofs.GrowthSums.{at_least, fit_under}}
use Rattle.shift_book.specs.{Common.{Durable, Numbers, digits_at_front, is_identifier_character}, Marks.{numbers_text}}
use Rattle.shift_book.specs.Marks.{HasDriver, IsDriver, PassAll, Signing, head_text, mark_text, number_text}
use Rattle.shift_book.specs.Reading.{amount_at, count_at, digits_at, driver_at, mark_at, numbers_at, off_at, on_at}
use Rattle.shift_book.proofs.Drivers.{whole_front}

is_digit : (c : ℕ) → digit_value c < 10 → is_ascii_digit c ≡ true
is_digit c h = grind (arith, nat_tests)

digits_pass : (xs : List ℕ) → AllDigits 10 xs → PassAll is_ascii_digit xs
digits_pass [] all = tt
digits_pass (x ∷ xs) all = (is_digit x all.0, digits_pass xs all.1)

digits_back : (n : ℕ) (rest : List ℕ) → n < 2 ^ 128 → prefix_len is_ascii_digit rest ≡ 0
    → digits_at (decimal n ++ rest) ≡ Some (n, rest)
unfolding digits_at
digits_back n rest small stops =
    let d = decimal_is_IsNumeral_wide n (omega arith) in
    let count : digits_at_front (decimal n ++ rest) ≡ length (decimal n) =
    whole_front is_ascii_digit (decimal n) rest (digits_pass (decimal n) d.0.1) stops in
    rw (count, take-append_seam (decimal n) rest, drop-append_seam (decimal n) rest, d.1, lt-ltb n (2 ^ 128) small) refl

amount_back : (n : ℕ) (rest : List ℕ) → n < 2 ^ 128 → prefix_len is_ascii_digit rest ≡ 0
    → amount_at (number_text n ++ rest) ≡ Some (n, rest)
unfolding amount_at word_at
amount_back n rest small stops = digits_back n rest small stops

count_back : (n : ℕ) (rest : List ℕ) → n < 2 ^ 64 → prefix_len is_ascii_digit rest ≡ 0
    → count_at (number_text n ++ rest) ≡ Some (n, rest)
unfolding count_at
count_back n rest small stops = rw (amount_back n rest (omega arith) stops, le-leb n (2 ^ 64 - 1) (omega arith)) refl

numbers_back : (n : Numbers) (rest : List ℕ) → Fit n → numbers_at (numbers_text n ++ rest) ≡ Some n
unfolding numbers_at
numbers_back n rest fit = simp append_assoc (rw (
  count_back n.number _ fit.number refl,
  amount_back n.distance_mm _ fit.distance refl,
  amount_back n.hired_mm _ fit.hired refl,
  count_back n.hirings _ fit.hirings refl,
  amount_back n.supplements _ fit.supplements refl,
  amount_back n.fare _ fit.fare refl,
) refl)

pub driver_back : (driver rest : List ℕ) → IsDriver driver → prefix_len is_identifier_character rest ≡ 0
    → driver_at (driver ++ rest) ≡ Some (driver, rest)
unfolding driver_at
driver_back driver rest valid stops =
    let count : prefix_len is_identifier_character (driver ++ rest) ≡ length driver =
    whole_front is_identifier_character driver rest valid.characters stops in
    let some : eqb (length driver) 0 ≡ false = ne_eqb _ _ (λ e. omega (arith, valid.some)) in
    rw (count, some, le-ltb 16 (length driver) valid.few, take-append_seam driver rest, drop-append_seam driver rest)
    refl

on_back : (driver rest : List ℕ) (n : Numbers) → IsDriver driver → Fit n
    → on_at (driver ++ (numbers_text n ++ rest)) ≡ Some (record { driver = driver; on = true; numbers = n })
unfolding on_at
on_back driver rest n valid fit =
    rw (driver_back driver (numbers_text n ++ rest) valid refl, numbers_back n rest fit) refl

off_back : (rest : List ℕ) (n : Numbers) → Fit n
    → off_at (codes "OFF" ++ (numbers_text n ++ rest)) ≡ Some (record { driver = []; on = false; numbers = n })
unfolding off_at word_at
off_back rest n fit = rw (numbers_back n rest fit) refl

signing_back : (on : Bool) (driver rest : List ℕ) (n : Numbers) → HasDriver on driver → Fit n
    → mark_at (head_text on driver ++ (numbers_text n ++ rest))
    ≡ Some (record { driver = driver; on = on; numbers = n })
unfolding mark_at word_at
signing_back true driver rest n valid fit = on_back driver rest n valid fit
signing_back false driver rest n valid fit = rw valid (off_back rest n fit)

pub mark_back : (mark : Signing) (rest : List ℕ) → HasDriver mark.on mark.driver → Fit mark.numbers
    → mark_at (mark_text mark ++ rest) ≡ Some mark
mark_back mark rest valid fit = ap mark_at (append_assoc (head_text mark.on mark.driver)
    (numbers_text mark.numbers) rest) ∙ signing_back mark.on mark.driver rest mark.numbers valid fit

-- so the mark at the front of a text is the one that is read there
pub next_is : (now : Durable) (before : Option Signing) (text : List ℕ) (mark : Signing) (rest : List ℕ)
    → Fit (numbers_in now)
    → IsNext now before text mark rest → mark_at text ≡ Some mark
next_is now before text mark rest fit next =
    ap mark_at next.line
    ∙ mark_back mark rest next.follows.driver (fit_under mark.numbers (numbers_in now)
    (λ column. at_least column mark.numbers (numbers_in now) next.follows.within) fit)
