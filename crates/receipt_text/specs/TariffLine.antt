-- Rules: texts of receipts that differ only in the line of the tariff.
use Rattle.std.specs.Prelude.{ℕ, ◌++◌, ◌≡◌, List, codes}
use Rattle.receipt_text.specs.Receipts.{hex_text}

-- a text has a line `TARIFF` with a digest, with a front before it and a back behind it
abbrev pub with_tariff : (front digest back : List ℕ) → List ℕ
with_tariff front digest back = front ++ (codes "\nTARIFF " ++ (hex_text digest ++ (codes "\n" ++ back)))

-- two texts differ only in their line `TARIFF` if they have the same front and back, and each has its own digest
pub record DifferInTariff (digest other : List ℕ) (text rewritten : List ℕ) : Type 0 where
  pub front : List ℕ
  pub back : List ℕ
  pub one : text ≡ with_tariff front digest back
  pub second : rewritten ≡ with_tariff front other back
