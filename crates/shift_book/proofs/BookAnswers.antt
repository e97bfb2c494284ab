-- What is read of a text is what the text says.
use Rattle.std.{specs.Prelude.{◌&&◌, IfSome, nat_lt, not}, proofs.lemmas.Bool.Decides.{nat_tests}}
use Rattle.std.proofs.Common.{[], ℕ, ◌++◌, ◌+◌, ◌<◌, ◌↔◌, ◌∷◌, ◌≡◌, ◌≤◌, Bool, Err, List, None, Ok, Option, Result}
use Rattle.std.proofs.Common.{Some, ap, arith, codes, cond, false, length, length-append, refl, subst, suc, sym, true}
use Rattle.std.proofs.{Common.{zero}, lemmas.{Bool.{lt-ltb, ltb-false, ltb-true}, List.Concat.{flat_map-cons}}}
use Rattle.taxi_units.{specs.Reading.{word_at}, proofs.Laws.{words_are_read_by_their_text}}
use Rattle.shift_book.specs.BookReading.{book_read, following, is_grown, is_nowhere_less, is_turn, lines_read}
use Rattle.shift_book.specs.{BookReading.{may_follow, next_at, or_bad}, declared.book.BookFault.TheVariants.{NoMemory}}
use Rattle.shift_book.specs.Books.{Begins, IsBook, IsFirstBad, IsNext, longest}
use Rattle.shift_book.specs.Common.{◌>>=◌, BadLine, BookFault, Durable, Numbers, TooLong}
use Rattle.shift_book.specs.MarkOrder.{Fit, IsNowhereLess, MayFollow, is_on, last_of, numbers_in}
use Rattle.shift_book.specs.Marks.{HasDriver, Signing, book_text, head_text, mark_text, numbers_text}
use Rattle.shift_book.specs.Reading.{driver_at, mark_at, mark_behind, numbers_at, off_at, on_at}
use Rattle.shift_book.proofs.{Again.{next_is}, Once.{books_have_no_fault, books_have_one_list, faults_have_one_line}}
use Rattle.shift_book.proofs.{DriverWords.{driver_read, value_of}, LongerBooks.{begins_more, rest_shrinks}}

-- ---- the driver of a mark that is read is as said

read_on : {A B : Type 0} (o : Option A) (f : A → Option B) (b : B) → (o >>= f) ≡ Some b
    → (a : A) × (o ≡ Some a) × (f a ≡ Some b)
read_on None f b e = absurd cc
read_on (Some a) f b e = (a, refl, e)

signed_on : List ℕ → Numbers → Signing
signed_on driver numbers = record { driver = driver; on = true; numbers = numbers }

on_driver : (text : List ℕ) (mark : Signing) → on_at text ≡ Some mark → HasDriver mark.on mark.driver
unfolding on_at signed_on
on_driver text mark e =
    let one = read_on (driver_at text)
    (λ driver. numbers_at driver.1 >>= (λ numbers. Some (signed_on driver.0 numbers))) mark e in
    let two = read_on (numbers_at one.0.1) (λ numbers. Some (signed_on one.0.0 numbers)) mark one.2 in
    subst (λ (x : Signing). HasDriver x.on x.driver) (value_of (signed_on one.0.0 two.0) mark two.2)
    (driver_read text one.0 one.1).0

signed_off : Numbers → Signing
signed_off numbers = record { driver = []; on = false; numbers = numbers }

off_driver : (text : List ℕ) (mark : Signing) → off_at text ≡ Some mark → HasDriver mark.on mark.driver
unfolding off_at signed_off
off_driver text mark e =
    let one =
    read_on (word_at (codes "OFF") text) (λ rest. numbers_at rest >>= (λ numbers. Some (signed_off numbers))) mark e in
    let two = read_on (numbers_at one.0) (λ numbers. Some (signed_off numbers)) mark one.2 in
    subst (λ (x : Signing). HasDriver x.on x.driver) (value_of (signed_off two.0) mark two.2) refl

behind_driver : (behind : Option (List ℕ)) (text : List ℕ) (mark : Signing) → mark_behind behind text ≡ Some mark
    → HasDriver mark.on mark.driver
behind_driver (Some rest) text mark e = on_driver rest mark e
behind_driver None text mark e = off_driver text mark e

mark_driver : (text : List ℕ) (mark : Signing) → mark_at text ≡ Some mark → HasDriver mark.on mark.driver
unfolding mark_at
mark_driver text mark e = behind_driver (word_at (codes "ON ") text) text mark e

-- ---- the tests say what they are called

both : (a b : Bool) → (a && b) ≡ true → (a ≡ true) × (b ≡ true)
both true b e = (refl, e)
both false b e = absurd cc

less_told : (a b : Numbers) → is_nowhere_less a b ≡ true → IsNowhereLess a b
less_told a b e = record {
  number = grind (arith, nat_tests);
  distance = grind (arith, nat_tests);
  hired = grind (arith, nat_tests);
  hirings = grind (arith, nat_tests);
  supplements = grind (arith, nat_tests);
  fare = grind (arith, nat_tests);
}

less_tested : (a b : Numbers) → IsNowhereLess a b → is_nowhere_less a b ≡ true
less_tested a b h = grind (arith, nat_tests)

turn_told : (a b : Bool) → cond a (not b) b ≡ true → a ≡ not b
turn_told true true e = absurd cc
turn_told true false e = refl
turn_told false true e = refl
turn_told false false e = absurd cc

turn_tested : (a b : Bool) → a ≡ not b → cond a (not b) b ≡ true
turn_tested true true e = absurd cc
turn_tested true false e = refl
turn_tested false true e = refl
turn_tested false false e = absurd cc

grown_told : (before : Option Signing) (after : Numbers) → is_grown before after ≡ true
    → IfSome before (λ m. IsNowhereLess m.numbers after)
grown_told None after e = tt
grown_told (Some m) after e = less_told m.numbers after e

grown_tested : (before : Option Signing) (after : Numbers) → IfSome before (λ m. IsNowhereLess m.numbers after)
    → is_grown before after ≡ true
grown_tested None after h = refl
grown_tested (Some m) after h = less_tested m.numbers after h

follow_told : (now : Durable) (before : Option Signing) (mark : Signing) → HasDriver mark.on mark.driver
    → may_follow now before mark ≡ true → MayFollow now before mark
follow_told now before mark driver e =
    let one = both (is_turn before mark) _ e in
    let two = both (is_grown before mark.numbers) (is_nowhere_less mark.numbers (numbers_in now)) one.1 in
    record {
      driver = driver;
      turn = turn_told mark.on (is_on before) one.0;
      grown = grown_told before mark.numbers two.0;
      within = less_told mark.numbers (numbers_in now) two.1;
    }

follow_tested : (now : Durable) (before : Option Signing) (mark : Signing) → MayFollow now before mark
    → may_follow now before mark ≡ true
follow_tested now before mark h =
    rw (
      turn_tested mark.on (is_on before) h.turn,
      grown_tested before mark.numbers h.grown,
      less_tested mark.numbers (numbers_in now) h.within,
    ) refl

-- ---- the next mark

-- a mark that is next is found
next_found : (now : Durable) (before : Option Signing) (text : List ℕ) (mark : Signing) (rest : List ℕ)
    → Fit (numbers_in now)
    → IsNext now before text mark rest → next_at now before text ≡ Some (mark, rest)
unfolding next_at
next_found now before text mark rest fit next =
    rw (
      next_is now before text mark rest fit next,
      (words_are_read_by_their_text (mark_text mark) text rest).1 next.line,
      follow_tested now before mark next.follows,
    ) refl

pub none_next : (now : Durable) (before : Option Signing) (text : List ℕ) → Fit (numbers_in now)
    → next_at now before text ≡ None
    → (mark : Signing) (rest : List ℕ) → ¬ (IsNext now before text mark rest)
none_next now before text fit none mark rest next =
    let found = next_found now before text mark rest fit next in
    absurd cc

followed : (now : Durable) (before : Option Signing) (mark : Signing) (rest : List ℕ) (found : Signing × List ℕ)
    → following now before mark rest ≡ Some found
    → (may_follow now before mark ≡ true) × (found ≡ (mark, rest))
followed now before mark rest found e = by (may_follow now before mark) refl e
  where
    by : (b : Bool) → may_follow now before mark ≡ b → cond b (Some (mark, rest)) None ≡ Some found
        → (may_follow now before mark ≡ true) × (found ≡ (mark, rest))
    by true is some = (is, sym (value_of (mark, rest) found some))
    by false is none = absurd cc

-- a mark that is found is next
pub found_next : (now : Durable) (before : Option Signing) (text : List ℕ) (found : Signing × List ℕ)
    → next_at now before text ≡ Some found
    → IsNext now before text found.0 found.1
unfolding next_at
found_next now before text found e =
    let one = read_on (mark_at text)
    (λ mark. word_at (mark_text mark) text >>= (λ rest. following now before mark rest)) found e in
    let two = read_on (word_at (mark_text one.0) text) (λ rest. following now before one.0 rest) found one.2 in
    let three = followed now before one.0 two.0 found two.2 in
    subst (λ (x : Signing × List ℕ). IsNext now before text x.0 x.1) (sym three.1) (record {
      line = (words_are_read_by_their_text (mark_text one.0) text two.0).0 two.1;
      follows = follow_told now before one.0 (mark_driver text one.0 one.1) three.0;
    })

-- ---- the whole text

-- what an answer says of a text
abbrev Means : Durable → (text : List ℕ) → Result (List Signing) BookFault → Type 0
Means now text (Ok marks) = IsBook now text marks
Means now text (Err TooLong) = longest < length text
Means now text (Err (BadLine line)) = IsFirstBad now text line
Means now text (Err NoMemory) = ⊥

lines_mean : (now : Durable) (text : List ℕ) (most : ℕ) (marks : List Signing) (rest : List ℕ) → Fit (numbers_in now)
    → length text ≤ longest → length rest ≤ most
    → Begins now text marks rest → Means now text (lines_read now most marks rest)
lines_mean now text most marks [] fit few fewer begun = record { few = few; begins = begun }
lines_mean now text zero marks (c ∷ cs) fit few fewer begun = absurd (omega (arith, fewer))
lines_mean now text (suc most) marks (c ∷ cs) fit few fewer begun =
    by (λ mark after shorter more. lines_mean now text most (marks ++ mark ∷ []) after fit few shorter more)
    (next_at now (last_of marks) (c ∷ cs)) refl
  where
    by : ((mark : Signing) (after : List ℕ) → length after ≤ most → Begins now text (marks ++ mark ∷ []) after
        → Means now text (lines_read now most (marks ++ mark ∷ []) after))
        → (o : Option (Signing × List ℕ)) → next_at now (last_of marks) (c ∷ cs) ≡ o
        → Means now text (or_bad (length marks + 1) o (λ next. lines_read now most (marks ++ next.0 ∷ []) next.1))
    by on None none = record {
      few = few;
      marks = marks;
      rest = c ∷ cs;
      begins = begun;
      breaks = record { more = λ e. absurd cc; bad = none_next now (last_of marks) (c ∷ cs) fit none };
      place = refl;
    }
    by on (Some next) some =
        let is = found_next now (last_of marks) (c ∷ cs) next some in
        on next.0 next.1
        (omega (arith, fewer, rest_shrinks now (last_of marks) (c ∷ cs) next.0 next.1 is))
        (begins_more now text marks (c ∷ cs) next.0 next.1 begun is)

book_means : (now : Durable) (text : List ℕ) → Fit (numbers_in now) → Means now text (book_read now text)
book_means now text fit = by (nat_lt longest (length text)) refl
  where
    by : (b : Bool) → nat_lt longest (length text) ≡ b
        → Means now text (cond b (Err TooLong) (lines_read now (length text) [] text))
    by true more = ltb-true longest (length text) more
    by false few = lines_mean now text (length text) [] text fit (ltb-false longest (length text) few) (omega arith)
        (record { lines = refl; follow = tt })

-- the answer is the only one that says what the text says
pub book_is_read : (now : Durable) (text : List ℕ) (marks : List Signing) → Fit (numbers_in now) → IsBook now text marks
    → book_read now text ≡ Ok marks
book_is_read now text marks fit book = by (book_read now text) (book_means now text fit)
  where
    by : (r : Result (List Signing) BookFault) → Means now text r → r ≡ Ok marks
    by (Ok found) is = ap Ok (books_have_one_list now text found marks fit is book)
    by (Err TooLong) is = absurd (omega (arith, is, book.few))
    by (Err (BadLine line)) is = absurd (books_have_no_fault now text marks line fit book is)
    by (Err NoMemory) is = absurd is

pub bad_line_is_read : (now : Durable) (text : List ℕ) (line : ℕ) → Fit (numbers_in now) → IsFirstBad now text line
    → book_read now text ≡ Err (BadLine line)
bad_line_is_read now text line fit bad = by (book_read now text) (book_means now text fit)
  where
    by : (r : Result (List Signing) BookFault) → Means now text r → r ≡ Err (BadLine line)
    by (Ok found) is = absurd (books_have_no_fault now text found line fit is bad)
    by (Err TooLong) is = absurd (omega (arith, is, bad.few))
    by (Err (BadLine other)) is = ap (λ (n : ℕ). Err (BadLine n)) (faults_have_one_line now text other line fit is bad)
    by (Err NoMemory) is = absurd is

pub long_is_read : (now : Durable) (text : List ℕ) → longest < length text → book_read now text ≡ Err TooLong
long_is_read now text long = rw (lt-ltb longest (length text) long) refl

-- a text has a byte for each of its marks
pub marks_have_bytes : (now : Durable) (text : List ℕ) (marks : List Signing) (rest : List ℕ)
    → Begins now text marks rest → length marks ≤ length text
marks_have_bytes now text marks rest begun =
    omega (arith, ap length begun.lines, length-append (book_text marks) rest, lines_have_bytes marks)
  where
    lines_have_bytes : (marks : List Signing) → length marks ≤ length (book_text marks)
    lines_have_bytes [] = omega arith
    lines_have_bytes (mark ∷ marks) = omega (
      arith,
      ap length (flat_map-cons mark_text mark marks),
      length-append (mark_text mark) (book_text marks),
      length-append (head_text mark.on mark.driver) (numbers_text mark.numbers),
      lines_have_bytes marks,
    )

-- ---- and the other way round

pub texts_are_books : (now : Durable) (text : List ℕ) (marks : List Signing) → Fit (numbers_in now)
    → (book_read now text ≡ Ok marks) ↔ IsBook now text marks
texts_are_books now text marks fit = (
  λ (e : book_read now text ≡ Ok marks). subst (Means now text) e (book_means now text fit),
  book_is_read now text marks fit,
)

pub texts_have_bad_lines : (now : Durable) (text : List ℕ) (line : ℕ) → Fit (numbers_in now)
    → (book_read now text ≡ Err (BadLine line)) ↔ IsFirstBad now text line
texts_have_bad_lines now text line fit = (
  λ (e : book_read now text ≡ Err (BadLine line)). subst (Means now text) e (book_means now text fit),
  bad_line_is_read now text line fit,
)

pub texts_are_too_long : (now : Durable) (text : List ℕ) → Fit (numbers_in now) → (book_read now text ≡ Err TooLong)
    ↔ (longest < length text)
texts_are_too_long now text fit = (
  λ (e : book_read now text ≡ Err TooLong). subst (Means now text) e (book_means now text fit),
  long_is_read now text,
)
