-- Rules: receipts as they stand in what was printed.
use Rattle.{std.specs.Prelude.{ℕ, List}, receipt_reading.specs.Common.{IsReceiptText, Part, Receipt}}

-- a printed receipt is a text, and what it says of a hiring and of a seal
pub record Printed : Type 0 where
  pub text : List ℕ
  pub receipt : Receipt
  pub part : Part

-- a printed receipt is one if its text is, by the grammar, the receipt of that hiring and of that part of a seal
pub record IsPrinted (it : Printed) : Type 0 where
  pub is : IsReceiptText it.text it.receipt it.part
