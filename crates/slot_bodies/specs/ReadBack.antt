-- For proofs: bytes that are read as a value if it is in its ranges and they are its own.
use Rattle.std.specs.{Prelude.{ℕ, ◌&&◌, List, None, Option, Some, if◌then◌else◌}, Str.{bytes_eq}}
use Rattle.taxi_units.specs.Test.{Test}

-- bytes are read as the value that stands in them if it passes the test of its ranges and spells the same bytes
abbrev pub read_back : {T : Type 0} → (ranges : T → Test) → (spelling : T → List ℕ) → (found : List ℕ → T) → List ℕ
    → Option T
read_back ranges spelling found bytes =
    if (ranges (found bytes)).passes && bytes_eq (spelling (found bytes)) bytes then Some (found bytes) else None
