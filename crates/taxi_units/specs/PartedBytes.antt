-- Rules: bytes that are parted at a byte.
use Rattle.std.specs.Prelude.{ℕ, ◌≢◌, All, List}

-- bytes have none of a byte if each of them is another one
abbrev pub HasNone : ℕ → List ℕ → Type 0
HasNone byte bytes = All (λ b. b ≢ byte) bytes
