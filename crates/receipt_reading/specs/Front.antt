-- Rules: receipts at the front of a text.
use Rattle.std.specs.Prelude.{ℕ, ◌≤◌, List, length, take}
use Rattle.receipt_reading.specs.Common.{IsReceiptText, Part, Receipt}

-- a receipt stands in front of a text if the text's first `count` bytes are the receipt, whatever follows them
pub record IsInFront (text : List ℕ) (receipt : Receipt) (part : Part) (count : ℕ) : Type 0 where
  pub within : count ≤ length text
  pub is : IsReceiptText (take count text) receipt part
