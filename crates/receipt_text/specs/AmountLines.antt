-- Rules: the amounts of a receipt's lines: those that are there only if they are above 0, and the total.
use Rattle.std.specs.Prelude.{[], ℕ, ◌+◌, ◌∷◌, List, codes}
use Rattle.receipt_text.specs.Common.{Receipt}

-- a receipt has one optional line, that of the minimum fare: its word and its amount
abbrev pub optional_lines : Receipt → List (List ℕ × ℕ)
optional_lines receipt = (codes "MINIMUM ", receipt.minimum) ∷ []

-- the total of a receipt is its fare and its supplements together; the supplements are no part of the fare
unfoldable pub total_of : Receipt → ℕ
total_of receipt = receipt.fare + receipt.supplements
