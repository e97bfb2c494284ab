-- For proofs: how fields are written one after another. ReceiptRows says which fields a row has.
use Rattle.std.specs.Prelude.{[], ℕ, ◌++◌, ◌∷◌, List}

-- fields are written behind commas if one stands before each
abbrev pub behind_commas : List (List ℕ) → List ℕ
behind_commas [] = []
behind_commas (field ∷ fields) = 44 ∷ (field ++ behind_commas fields)
