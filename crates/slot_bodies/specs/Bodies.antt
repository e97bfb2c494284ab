-- Rules: how large a body is, how bytes are padded, and what makes values the bodies of slots.
use Rattle.std.specs.Prelude.{ℕ, ◌++◌, ◌-◌, ◌≡◌, List, Option, Some, length, replicate}
use Rattle.taxi_units.specs.Bytes.{AreBytes}

-- a body has 511 bytes
abbrev pub body_size : ℕ
body_size = 511

-- bytes are padded to a count by zeros behind them
abbrev pub padded : (count : ℕ) → List ℕ → List ℕ
padded count bytes = bytes ++ replicate (count - length bytes) 0

module _ {T : Type 0} (valid : T → Type 0) (spelling : T → List ℕ) (reads : List ℕ → Option T) where
  -- values are bodies if each one that may be written fills its place and is read again as it was, and if what is read
  -- might have been written, and is read from no other bytes than its own
  pub record AreBodies : Type 0 where
    pub size : (body : T) → valid body → length (spelling body) ≡ body_size
    pub reads_it : (body : T) → valid body → reads (spelling body) ≡ Some body
    pub gives_valid : (bytes : List ℕ) (body : T) → reads bytes ≡ Some body → valid body
    pub nothing_else : (bytes : List ℕ) (body : T)
        → length bytes ≡ body_size → AreBytes bytes → reads bytes ≡ Some body → bytes ≡ spelling body
