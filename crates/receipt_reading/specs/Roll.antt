-- Rules: which receipts a roll has.
use Rattle.std.specs.Prelude.{[], ℕ, ◌++◌, ◌∷◌, ◌≡◌, List}
use Rattle.receipt_reading.specs.Printed.{IsPrinted, Printed}

-- a text begins with none if no beginning of it is a receipt
abbrev pub BeginsWithNone : List ℕ → Type 0
BeginsWithNone text = (receipt : Printed) (after : List ℕ) → text ≡ receipt.text ++ after → ¬ (IsPrinted receipt)

-- a text read from its front gives receipts and leaves a rest: if a beginning of what is left is a receipt, that
-- receipt and then those after it, and otherwise those after the next byte
pub data Reads : (text : List ℕ) → (receipts : List Printed) → (rest : List ℕ) → Type 0 where
  over : (text : List ℕ) → Reads text [] text
  found : (text after rest : List ℕ) (receipt : Printed) (more : List Printed) → text ≡ receipt.text ++ after
      → IsPrinted receipt → Reads after more rest → Reads text (receipt ∷ more) rest
  passed : (text after rest : List ℕ) (byte : ℕ) (receipts : List Printed) → text ≡ byte ∷ after
      → BeginsWithNone text → Reads after receipts rest → Reads text receipts rest

-- receipts are on a roll if reading the roll to its end gives them, and no others
abbrev pub AreOnRoll : (receipts : List Printed) → (roll : List ℕ) → Type 0
AreOnRoll receipts roll = Reads roll receipts []

-- receipts are the first of others if those are these and perhaps more behind them
abbrev pub IsFirst : (some all : List Printed) → Type 0
IsFirst some all = (more : List Printed) × (all ≡ some ++ more)
