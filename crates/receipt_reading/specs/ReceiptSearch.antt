-- For proofs: what looking for a receipt at the front of a part of a roll gives. Reads, in Roll, says which receipts a
-- roll has.
use Rattle.std.specs.Prelude.{[], ℕ, ◌++◌, ◌≡◌, ◌≤◌, Bool, List, drop, false, length, true}
use Rattle.receipt_reading.specs.{Printed.{Printed}, Roll.{Reads}}

-- bytes may follow a part of a roll: any if the roll hasn't ended, and none if it has
abbrev pub MayFollow : (ended : Bool) → List ℕ → Type 0
MayFollow false more = Unit {0}
MayFollow true more = more ≡ []

-- a look passes a number of bytes of a text and finds these receipts in them, whatever may follow the text
pub record IsReceiptSearch (ended : Bool) (text : List ℕ) (count : ℕ) (receipts : List Printed) : Type 0 where
  pub within : count ≤ length text
  pub reads : (more : List ℕ) → MayFollow ended more → Reads (text ++ more) receipts (drop count text ++ more)
