-- Rules: which marks may follow one another in a book, beside a state of the store.
use Rattle.std.specs.Prelude.{[], ⊤, ◌-◌, ◌<◌, ◌^◌, ◌∷◌, ◌≡◌, ◌≤◌, Bool, IfSome, List, None, Option, Some, false}
use Rattle.{std.specs.Prelude.{length, not, slice_get}, shift_book.specs.Marks.{HasDriver, Signing, numbers_of}}
use Rattle.shift_book.specs.Common.{Durable, Numbers}

-- the numbers of a state of the store are its own number and its totals, in the order of a mark
abbrev pub numbers_in : Durable → Numbers
numbers_in now =
    numbers_of now.number now.totals.distance_mm now.totals.hired_mm now.totals.hirings
    now.totals.supplements now.totals.fare

-- six numbers are nowhere less than six before if none of them is smaller than before
pub record IsNowhereLess (before after : Numbers) : Type 0 where
  pub number : before.number ≤ after.number
  pub distance : before.distance_mm ≤ after.distance_mm
  pub hired : before.hired_mm ≤ after.hired_mm
  pub hirings : before.hirings ≤ after.hirings
  pub supplements : before.supplements ≤ after.supplements
  pub fare : before.fare ≤ after.fare

-- numbers fit their fields if the number and the hirings are below 2^64, and the others below 2^128
pub record Fit (numbers : Numbers) : Type 0 where
  pub number : numbers.number < 2 ^ 64
  pub distance : numbers.distance_mm < 2 ^ 128
  pub hired : numbers.hired_mm < 2 ^ 128
  pub hirings : numbers.hirings < 2 ^ 64
  pub supplements : numbers.supplements < 2 ^ 128
  pub fare : numbers.fare < 2 ^ 128

-- somebody is on after a mark that signs on; nobody is at the beginning of a book
abbrev pub is_on : Option Signing → Bool
is_on None = false
is_on (Some mark) = mark.on

-- a mark may follow the mark before it, or begin a book, if it has a driver exactly when it signs on, and signs on
-- exactly when nobody is on. None of its numbers is smaller than in the mark before, or greater than in the store
pub record MayFollow (now : Durable) (before : Option Signing) (mark : Signing) : Type 0 where
  pub driver : HasDriver mark.on mark.driver
  pub turn : mark.on ≡ not (is_on before)
  pub grown : IfSome before (λ mark_before. IsNowhereLess mark_before.numbers mark.numbers)
  pub within : IsNowhereLess mark.numbers (numbers_in now)

-- marks follow on if each may follow the one before it
abbrev pub FollowOn : Durable → (before : Option Signing) → List Signing → Type 0
FollowOn now before [] = ⊤
FollowOn now before (mark ∷ marks) = MayFollow now before mark × FollowOn now (Some mark) marks

-- the last of some marks is the one behind all others, and there is none if there are no marks
abbrev pub last_of : List Signing → Option Signing
last_of marks = slice_get marks (length marks - 1)
