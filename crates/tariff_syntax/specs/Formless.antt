-- Rules: the lines of a text that have no form.
use Rattle.std.specs.Prelude.{[], ℕ, ◌+◌, ◌∷◌, ◌≡◌, ◌⊎◌, List}
use Rattle.tariff_syntax.specs.{Common.{Entry}, Reads.{IsEmpty, IsLineOfDecimals, IsLineOfEntry}, TextLines.{lines_of}}

-- a line has no form if it isn't empty and says no entry
pub record IsFormless (decimals : ℕ) (text : List ℕ) : Type 0 where
  pub filled : ¬ IsEmpty text
  pub says_none : (entry : Entry) → ¬ IsLineOfEntry decimals text entry

-- the text numbered `line`, of texts that are numbered from `number` on, has no form
abbrev pub HasFormless : (decimals number : ℕ) → List (List ℕ) → (line : ℕ) → Type 0
HasFormless decimals number [] line = ⊥
HasFormless decimals number (text ∷ texts) line =
    ((line ≡ number) × IsFormless decimals text) ⊎ HasFormless decimals (number + 1) texts line

-- the text numbered `line`, of texts that are numbered from `number` on, has no form under the decimals of the first
-- text that isn't empty, which is then another one, or under 2 if it says none
abbrev pub HasFormlessBelow : (number : ℕ) → List (List ℕ) → (line : ℕ) → Type 0
HasFormlessBelow number [] line = ⊥
HasFormlessBelow number (text ∷ texts) line =
    (IsEmpty text × HasFormlessBelow (number + 1) texts line)
    ⊎ (((decimals : ℕ) × IsLineOfDecimals text decimals × HasFormless decimals (number + 1) texts line)
    ⊎ (¬ IsEmpty text × ((decimals : ℕ) → ¬ IsLineOfDecimals text decimals) × HasFormless 2 number (text ∷ texts) line))

-- a line of a text has no form if it is one of the text's lines, numbered from 1 on, that has none
abbrev pub HasNoForm : (text : List ℕ) → (line : ℕ) → Type 0
HasNoForm text line = HasFormlessBelow 1 (lines_of text) line
