-- Rules: what marks say, and their lines.
use Rattle.{std.specs.List.{AllByRecursion, flat_map}, taxi_units.specs.Written.{IsNumberText}}
use Rattle.std.specs.Prelude.{[], ℕ, ◌++◌, ◌∷◌, ◌≡◌, ◌≤◌, Bool, List, codes, decimal, false, length, true}
use Rattle.shift_book.specs.Common.{Numbers, is_identifier_character}

-- the numbers of a mark are the number of the store, the distance, the distance when hired, the hirings, the
-- supplements and the fare
abbrev pub numbers_of : (number distance hired hirings supplements fare : ℕ) → Numbers
numbers_of number distance hired hirings supplements fare =
    record {
      number = number;
      distance_mm = distance;
      hired_mm = hired;
      hirings = hirings;
      supplements = supplements;
      fare = fare;
    }

-- a mark has who signs on, or that whoever was on signs off, and the numbers of the store
pub record Signing : Type 0 where
  pub driver : List ℕ
  pub on : Bool
  pub numbers : Numbers

-- bytes pass a test if every one of them does
abbrev pub PassAll : (ℕ → Bool) → List ℕ → Type 0
PassAll test bytes = AllByRecursion (λ c. test c ≡ true) bytes

-- a text is a driver if it has 1 to 16 characters of drivers and no others
pub record IsDriver (driver : List ℕ) : Type 0 where
  pub some : 1 ≤ length driver
  pub few : length driver ≤ 16
  pub characters : PassAll is_identifier_character driver

-- a mark that signs on has a driver, and one that signs off has none
abbrev pub HasDriver : (on : Bool) → (driver : List ℕ) → Type 0
HasDriver true driver = IsDriver driver
HasDriver false driver = driver ≡ []

-- a line of a mark begins with the word ON and the driver, or with the word OFF
abbrev pub head_text : (on : Bool) → (driver : List ℕ) → List ℕ
head_text true driver = codes "ON " ++ driver
head_text false driver = codes "OFF"

-- a number in a line is written behind a blank
abbrev pub number_text : ℕ → List ℕ
number_text value = 32 ∷ decimal value

-- the numbers of a mark are written one behind the other, and an LF ends the line
abbrev pub numbers_text : Numbers → List ℕ
numbers_text n =
    number_text n.number ++ (number_text n.distance_mm ++ (number_text n.hired_mm
    ++ (number_text n.hirings ++ (number_text n.supplements ++ (number_text n.fare ++ 10 ∷ [])))))

-- the line of a mark is its word, with the driver behind `ON`, and its numbers
abbrev pub mark_text : Signing → List ℕ
mark_text mark = head_text mark.on mark.driver ++ numbers_text mark.numbers

-- marks are written as their lines, one behind the other
abbrev pub book_text : List Signing → List ℕ
book_text marks = flat_map mark_text marks

-- six texts are each behind a blank, and an LF ends the line
abbrev pub six_fields : (one two three four five six : List ℕ) → List ℕ
six_fields one two three four five six =
    codes " " ++ one ++ codes " " ++ two ++ codes " " ++ three ++ codes " " ++ four ++ codes " " ++ five
    ++ codes " " ++ six ++ codes "\n"

-- a text says six numbers, each by its digits without leading zeros
pub record IsTextOfNumbers (text : List ℕ) (numbers : Numbers) : Type 0 where
  pub one : List ℕ
  pub two : List ℕ
  pub three : List ℕ
  pub four : List ℕ
  pub five : List ℕ
  pub six : List ℕ
  pub text_is : text ≡ six_fields one two three four five six
  pub number : IsNumberText numbers.number one
  pub distance : IsNumberText numbers.distance_mm two
  pub hired : IsNumberText numbers.hired_mm three
  pub hirings : IsNumberText numbers.hirings four
  pub supplements : IsNumberText numbers.supplements five
  pub fare : IsNumberText numbers.fare six

-- a line is that of a mark: ON and a driver, or OFF, and behind it the six numbers
pub record IsMarkLine (line : List ℕ) (mark : Signing) : Type 0 where
  pub numbers : List ℕ
  pub text_is : line ≡ head_text mark.on mark.driver ++ numbers
  pub driver : HasDriver mark.on mark.driver
  pub says : IsTextOfNumbers numbers mark.numbers
