-- Rules: which receipts a roll has.
use Rattle.std.specs.Prelude.{[], ℕ, ◌++◌, ◌∷◌, ◌≡◌, List}
use Rattle.log_commands.specs.Record.{IsRecord, Record}

-- a text begins with none if no beginning of it is a receipt
abbrev pub BeginsWithNone : List ℕ → Type 0
BeginsWithNone text = (receipt : Record) (after : List ℕ) → text ≡ receipt.text ++ after → ¬ (IsRecord receipt)

-- a text read from its front gives receipts and leaves a rest: if a beginning of what is left is a receipt, that
-- receipt and then those after it, and otherwise those after the next byte
pub data Reads : (text : List ℕ) → (receipts : List Record) → (rest : List ℕ) → Type 0 where
  over : (text : List ℕ) → Reads text [] text
  found : (text after rest : List ℕ) (receipt : Record) (more : List Record) → text ≡ receipt.text ++ after
      → IsRecord receipt → Reads after more rest → Reads text (receipt ∷ more) rest
  passed : (text after rest : List ℕ) (byte : ℕ) (receipts : List Record) → text ≡ byte ∷ after
      → BeginsWithNone text → Reads after receipts rest → Reads text receipts rest

-- receipts are on a roll if reading the roll to its end gives them, and no others
abbrev pub AreOnRoll : (receipts : List Record) → (roll : List ℕ) → Type 0
AreOnRoll receipts roll = Reads roll receipts []
