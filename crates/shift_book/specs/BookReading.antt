-- By law: how a book is read, line by line. The law `texts_are_read_as_they_say` says what `book_read` answers.
use Rattle.std.specs.Prelude.{[], ℕ, ◌&&◌, ◌++◌, ◌+◌, ◌∷◌, Bool, Err, List, None, Ok, Option, Result, Some}
use Rattle.std.specs.Prelude.{if◌then◌else◌, length, nat_le, nat_lt, not, suc, true, zero}
use Rattle.{taxi_units.specs.Reading.{word_at}, shift_book.specs.MarkOrder.{is_on, last_of, numbers_in}}
use Rattle.shift_book.specs.{Books.{longest}, Reading.{mark_at}}
use Rattle.shift_book.specs.{Common.{◌>>=◌, BadLine, BookFault, Durable, Numbers, TooLong}, Marks.{Signing, mark_text}}

-- six numbers are nowhere less than six before if none of them is smaller than before
abbrev pub is_nowhere_less : (before after : Numbers) → Bool
is_nowhere_less before after =
    nat_le before.number after.number && (nat_le before.distance_mm after.distance_mm
    && (nat_le before.hired_mm after.hired_mm && (nat_le before.hirings after.hirings
    && (nat_le before.supplements after.supplements && nat_le before.fare after.fare))))

-- six numbers have grown if none of them is smaller than in the mark before, or there is no mark before
abbrev pub is_grown : Option Signing → (after : Numbers) → Bool
is_grown None after = true
is_grown (Some before) after = is_nowhere_less before.numbers after

-- it is a mark's turn if it signs on and nobody is on, or off and somebody is
abbrev pub is_turn : (before : Option Signing) → Signing → Bool
is_turn before mark = if mark.on then not (is_on before) else is_on before

-- a mark whose driver is as it should be may follow the mark before it, or begin a book, if it is its turn and its
-- numbers have grown and aren't above the store's
abbrev pub may_follow : (now : Durable) (before : Option Signing) → Signing → Bool
may_follow now before mark =
    is_turn before mark && (is_grown before mark.numbers && is_nowhere_less mark.numbers (numbers_in now))

-- a mark is read if it may follow, and `rest` is behind its line
abbrev pub following : (now : Durable) (before : Option Signing) → Signing → (rest : List ℕ)
    → Option (Signing × List ℕ)
following now before mark rest = if may_follow now before mark then Some (mark, rest) else None

-- the next mark at the front of a text is the one whose line is there and that may follow, with the text behind its
-- line
unfoldable pub next_at : (now : Durable) (before : Option Signing) → List ℕ → Option (Signing × List ℕ)
next_at now before text =
    mark_at text >>= (λ mark. word_at (mark_text mark) text >>= (following now before mark))

-- reading goes on with what was found, or names the line as bad if nothing was
abbrev pub or_bad : {A : Type 0} → (line : ℕ) → Option A → (A → Result (List Signing) BookFault)
    → Result (List Signing) BookFault
or_bad line (Some x) on = on x
or_bad line None on = Err (BadLine line)

-- the lines left behind some marks, at most `most` of them, are read as marks behind these, or as a first bad line
abbrev pub lines_read : (now : Durable) (most : ℕ) (marks : List Signing) → List ℕ → Result (List Signing) BookFault
lines_read now most marks [] = Ok marks
lines_read now zero marks (c ∷ cs) = Err (BadLine (length marks + 1))
lines_read now (suc most) marks (c ∷ cs) =
    or_bad (length marks + 1) (next_at now (last_of marks) (c ∷ cs))
    (λ next. lines_read now most (marks ++ next.0 ∷ []) next.1)

-- a text is read as marks, as too long, or as one with a first bad line; it has no more lines than bytes
abbrev pub book_read : (now : Durable) → List ℕ → Result (List Signing) BookFault
book_read now text =
    if nat_lt longest (length text) then Err TooLong else lines_read now (length text) [] text
