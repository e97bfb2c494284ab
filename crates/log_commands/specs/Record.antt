-- Rules: what the log keeps of a receipt.
use Rattle.std.specs.Prelude.{ℕ, ◌≡◌, List}
use Rattle.log_commands.specs.Common.{IsReceiptText, Part, Receipt}

-- a record of the log is the text of a receipt, its number, and the identifier of its taxi
pub record Record : Type 0 where
  pub text : List ℕ
  pub number : ℕ
  pub taxi : List ℕ

-- a record is a receipt's if its text is one by the grammar, and says its number and its taxi
pub record IsRecord (it : Record) : Type 0 where
  pub receipt : Receipt
  pub part : Part
  pub is : IsReceiptText it.text receipt part
  pub number_is : it.number ≡ receipt.number
  pub taxi_is : it.taxi ≡ part.taxi
