-- For proofs: marks of contexts, for those in which a condition holds.
use Rattle.std.specs.{Int.{bit_at}, List.{slice_get}, Prelude.{ℕ, ◌==◌, ◌≡◌, Bool, List, Option, Some, map}}
use Rattle.tariff_compile.specs.Common.{Condition, Context, Marks, holds_if}

-- the test `is_marked` is true if a place is marked
abbrev pub is_marked : Marks → (place : ℕ) → Bool
is_marked marks place = bit_at marks.bits place == 1

-- marks are those of a test if exactly the contexts that pass it are marked
abbrev pub MarksThose : (Context → Bool) → List Context → Marks → Type 0
MarksThose passes xs marks = (place : ℕ) (x : Context) → slice_get xs place ≡ Some x → is_marked marks place ≡ passes x

-- lists of marks are those of conditions, in order, if each context has the marks of the conditions that hold in it
abbrev pub MarkEach : List (Option Condition) → List Context → List Marks → Type 0
MarkEach conditions xs all =
    (place : ℕ) (x : Context) → slice_get xs place ≡ Some x → map (λ (marks : Marks). is_marked marks place) all
    ≡ map (holds_if x) conditions
