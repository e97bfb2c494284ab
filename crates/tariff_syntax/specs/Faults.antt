-- For proofs: the answer of a reader that may run out of memory.
use Rattle.std.specs.Prelude.{◌≡◌, Err, None, Ok, Option, Result, Some}
use Rattle.tariff_syntax.specs.declared.conditions.LineFault.{LineFault, TheVariants.{Bad, NoMemory}}

-- reading gives something, and that needs memory
abbrev pub ReadsAs : {Y : Type 0} → (needs : Y → Type 0) → Option Y → Type 0
ReadsAs needs None = ⊥
ReadsAs needs (Some read) = needs read

-- a fault is Bad only if reading gives nothing, and NoMemory only if it gives something that needs memory
abbrev pub IsFault : {Y : Type 0} → (needs : Y → Type 0) → LineFault → Option Y → Type 0
IsFault needs Bad read = read ≡ None
IsFault needs NoMemory read = ReadsAs needs read

-- a function returned what reading gives, seen through `view`, or a fault: Bad if it gives nothing, or NoMemory
-- if what it gives needs memory
abbrev pub GivesOrFails : {X Y : Type 0} → (X → Y) → (needs : Y → Type 0) → Result X LineFault → Option Y → Type 0
GivesOrFails view needs (Ok x) read = read ≡ Some (view x)
GivesOrFails view needs (Err fault) read = IsFault needs fault read
