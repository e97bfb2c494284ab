-- Rules: the command `shifts BOOK`.
use Rattle.std.specs.Prelude.{[], ℕ, ◌*◌, ◌+◌, ◌≡◌, ◌≤◌, Err, List, None, Ok, Result, length}
use Rattle.shift_book.specs.{Marks.{Signing}, Report.{report_text}, declared.book.BookFault.{BookFault}}
use Rattle.{call_ends.specs.Pieces.{pieces_of}, store_commands.specs.Opening.{IsSealedIn, opening_in, store_of}}
use Rattle.store_commands.specs.Common.{Answer, Command, Durable, Ended, Seal, book_read, numbers_in, refused_as, shows}
use Rattle.shift_book.specs.declared.book.BookFault.TheVariants as books
use Rattle.call_ends.specs.declared.ending.Ended.TheVariants as ended

-- how a command ended by the fault of its book; no text has the fault `NoMemory`, which says that memory ran out
abbrev pub ended_for_book : BookFault → Ended
ended_for_book books.TooLong = ended.LongBook
ended_for_book (books.BadLine line) = ended.BadBook line
ended_for_book books.NoMemory = ended.NoMemory

-- the answer to a book that was read beside a state of the store is the report, and else refuses the book
abbrev pub reported : (decimals : ℕ) (now : Durable) → Result (List Signing) BookFault → Answer
reported decimals now (Err fault) = refused_as (ended_for_book fault)
reported decimals now (Ok marks) = shows (report_text decimals (numbers_in now) marks)

-- the answer to a text over a sealed store is that of the book, and else refuses the store. `book_read` gives the marks
-- of the book or its fault, as the law texts_are_read_as_they_say of shift_book says
abbrev pub shifts_answer : Result (Durable × Seal) Ended → (text : List ℕ) → Answer
shifts_answer (Err why) text = refused_as why
shifts_answer (Ok store) text = reported store.1.decimals store.0 (book_read store.0 text)

-- steps are bounded by a report if the opening and the last line take at most 7, and each piece of the report takes
-- one. Whatever the store tells, they are at most 65 and two for each byte of the book.
pub record IsBoundedByReport (files_tell image_told : Type 0) (image text : List ℕ) (before now : ℕ) : Type 0 where
  pub by_report : files_tell → image_told
      → now ≤ before + 7 + pieces_of (length (shifts_answer (store_of (opening_in image)) text).shown)
  pub by_book : files_tell → now ≤ before + 65 + 2 * length text

-- the command `shifts` opens the store, reads its book, makes the whole report in memory and prints it
abbrev pub shifts_command : Command
shifts_command = record {
  answer = λ contents image. shifts_answer (store_of (opening_in image)) (contents 1);
  drive = None;
  shown = λ contents image taken. [];
  reads = λ word. word ≡ 1;
  turn = λ word. word;
  reads_all = λ status. status ≡ 0;
  comes_to = λ contents image word taken. (word ≡ 1) × IsSealedIn image;
  may_lack = λ contents image taken. IsSealedIn image;
  told = λ files_tell image_told. files_tell × image_told;
  opens = Unit {0};
  writes = λ ended. ⊥;
  steps = λ files_tell image_told contents left image before now.
      IsBoundedByReport files_tell image_told image (contents 1) before now;
}
