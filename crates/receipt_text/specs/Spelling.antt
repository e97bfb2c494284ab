-- Rules: which text is written of a receipt.
use Rattle.std.specs.Prelude.{ℕ, ◌≡◌, List}
use Rattle.receipt_text.specs.{Common.{IsReceipt, Receipt}, Part.{IsPart, Part}, Receipts.{receipt_text}}

-- a text is the one that is written of a receipt and of a part of a seal, both in their ranges
pub record IsSpelled (text : List ℕ) (receipt : Receipt) (part : Part) : Type 0 where
  pub receipt_is : IsReceipt receipt
  pub part_is : IsPart part
  pub text_is : text ≡ receipt_text receipt part
