-- For proofs: what is built of a condition that is read, even if memory runs out.
use Rattle.std.specs.Prelude.{⊤, ◌≡◌, Err, List, None, Ok, Option, Result, Some}
use Rattle.{taxi_units.specs.declared.NoMemory.{NoMemory}, tariff_tree.specs.declared.condition.Cond.{Cond}}
use Rattle.tariff_tree.specs.Tree.{when_part}
use Rattle.tariff_syntax.specs.{Common.{Condition, Entry, and, condition_of, not, or}, Token.{Token}}

-- a condition has parts, which take memory of their own, if it is no atom
abbrev pub HasParts : Condition → Type 0
HasParts (and left right) = ⊤
HasParts (or left right) = ⊤
HasParts (not inner) = ⊤
HasParts _ = ⊥

-- the condition of a line that may have none has parts if there is one and it is no atom
abbrev pub HasPartsIf : Option Condition → Type 0
HasPartsIf None = ⊥
HasPartsIf (Some c) = HasParts c

-- an entry has a condition with parts if its kind has a condition and that is no atom
abbrev pub EntryHasParts : Entry → Type 0
EntryHasParts entry = HasPartsIf (when_part entry)

-- a condition, or NoMemory for its parts
abbrev pub Built : Type 0
Built = Result Cond NoMemory

-- a condition was built, or is missing since memory ran out for its parts
abbrev pub IsBuilt : Built → Condition → Type 0
IsBuilt (Ok built) c = condition_of built ≡ c
IsBuilt (Err _) c = HasParts c

-- what was built, and the tokens after it, are what reading gives, and reading gives something
abbrev pub IsFront : Built × List Token → Option (Condition × List Token) → Type 0
IsFront found None = ⊥
IsFront found (Some read) = IsBuilt found.0 read.0 × (found.1 ≡ read.1)

-- a function built what reading gives, seen through `view`, and returned None exactly if reading gives nothing
abbrev pub Builds : {X : Type 0} → (X → Built × List Token) → Option X → Option (Condition × List Token) → Type 0
Builds view None read = read ≡ None
Builds view (Some found) read = IsFront (view found) read
