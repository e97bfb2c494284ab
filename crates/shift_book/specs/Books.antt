-- Rules: which texts are books, and what is wrong with a text that is none.
use Rattle.std.specs.Prelude.{[], ℕ, ◌++◌, ◌+◌, ◌<◌, ◌≡◌, ◌≢◌, ◌≤◌, List, None, Option, length}
use Rattle.shift_book.specs.{Common.{BadLine, BookFault, Durable, TooLong}, Marks.{Signing, book_text, mark_text}}
use Rattle.shift_book.specs.{MarkOrder.{FollowOn, MayFollow, last_of}, declared.book.BookFault.TheVariants.{NoMemory}}

-- a book has at most 1,048,576 bytes
abbrev pub longest : ℕ
longest = 1048576

-- a mark is next in a text if the text begins with the line of the mark, which may follow the one before it, and
-- `rest` is behind the line
pub record IsNext (now : Durable) (before : Option Signing) (text : List ℕ) (mark : Signing)
    (rest : List ℕ) : Type 0 where
  pub line : text ≡ mark_text mark ++ rest
  pub follows : MayFollow now before mark

-- marks begin a text if the text begins with their lines, each mark may follow the one before it, and `rest` is
-- behind the lines
pub record Begins (now : Durable) (text : List ℕ) (marks : List Signing) (rest : List ℕ) : Type 0 where
  pub lines : text ≡ book_text marks ++ rest
  pub follow : FollowOn now None marks

-- a text breaks behind some marks if it goes on, but with no line of a mark that may follow
pub record Breaks (now : Durable) (marks : List Signing) (rest : List ℕ) : Type 0 where
  pub more : rest ≢ []
  pub bad : (mark : Signing) (after : List ℕ) → ¬ IsNext now (last_of marks) rest mark after

-- a text is a book of marks if it has at most 1,048,576 bytes and is the lines of the marks, which may follow one
-- another
pub record IsBook (now : Durable) (text : List ℕ) (marks : List Signing) : Type 0 where
  pub few : length text ≤ longest
  pub begins : Begins now text marks []

-- a line of a text, counted from 1, is the first bad one if the lines before it are those of marks that may follow one
-- another, and it is no line of a mark that may follow them
pub record IsFirstBad (now : Durable) (text : List ℕ) (line : ℕ) : Type 0 where
  pub few : length text ≤ longest
  pub marks : List Signing
  pub rest : List ℕ
  pub begins : Begins now text marks rest
  pub breaks : Breaks now marks rest
  pub place : line ≡ length marks + 1

-- a text has a fault, for which it gives no marks, if it is too long, has a first bad line, or memory ran out over it
abbrev pub IsFault : Durable → (text : List ℕ) → BookFault → Type 0
IsFault now text TooLong = longest < length text
IsFault now text (BadLine line) = IsFirstBad now text line
IsFault now text NoMemory = length text ≤ longest
