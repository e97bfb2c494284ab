-- For proofs: what a writer does to a text; each part is spelled in front of its rest.
use Rattle.std.specs.Prelude.{ℕ, ◌++◌, ◌≡◌, List}

-- a text went from `old` to `new` by appending what `spelled` puts in front of whatever follows
abbrev pub Appends : (old new : List ℕ) → (spelled : List ℕ → List ℕ) → Type 0
Appends old new spelled = (rest : List ℕ) → new ++ rest ≡ old ++ spelled rest
