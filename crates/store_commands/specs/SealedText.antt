-- Rules: the text of what a store was sealed with.
use Rattle.std.specs.Prelude.{[], ℕ, ◌++◌, ◌∷◌, List, codes}
use Rattle.{seal_record.specs.PlainText.{commented_text}, receipt_text.specs.Receipts.{hex_text}}
use Rattle.{call_ends.specs.LastLine.{numbered}, store_commands.specs.Common.{Seal}}

-- the comments of a seal say its number, the decimals of its tariff's money, and its digest in hexadecimal digits
abbrev pub seal_comments : Seal → List (List ℕ)
seal_comments seal =
    numbered (codes " SEAL") seal.seal_number
    ∷ numbered (codes " DECIMALS") seal.decimals
    ∷ (codes " TARIFF " ++ hex_text seal.digest) ∷ []

-- what a store was sealed with is written as the comments of the seal and the text of its parameters
abbrev pub sealed_text : Seal → List ℕ
sealed_text seal = commented_text (seal_comments seal) seal.params
