-- Rules: what a cut might have left at the moments of a board in memory.
use Rattle.std.specs.Prelude.{[], ℕ, ◌∷◌, ◌⊎◌, List, suc, zero}
use Rattle.{outside.specs.Disk.{MayLeave}, memory_devices.specs.Common.{MayLeaveAmid}}
use Rattle.memory_devices.specs.Calls.{Call, CallOutcome, Contents, IsInSome, Print, Read, Sync, Write, after}

-- a cut leaves of a board any bytes at the places in flight, all others as a read gives them, and what was printed
abbrev pub Leaves : Contents → List ℕ → List ℕ → Type 0
Leaves held left_image left_text = MayLeave held.image (IsInSome held.ranges) held.text left_image left_text

-- a cut inside a print leaves what was printed before with a beginning of its piece; one inside any other call leaves
-- nothing but what a cut before or after it leaves
abbrev pub LeavesAmid : Contents → Call → List ℕ → List ℕ → Type 0
LeavesAmid held Read left_image left_text = ⊥
LeavesAmid held (Write at bytes) left_image left_text = ⊥
LeavesAmid held Sync left_image left_text = ⊥
LeavesAmid held (Print bytes) left_image left_text =
    MayLeaveAmid held.image (IsInSome held.ranges) held.text bytes left_image left_text

-- an image and a text are left by a list of calls if a cut before the first, inside it, or at a later one of them
-- might have left them
abbrev pub LeftBy : Contents → List CallOutcome → List ℕ → List ℕ → Type 0
LeftBy held [] left_image left_text = Leaves held left_image left_text
LeftBy held (kept ∷ more) left_image left_text =
    Leaves held left_image left_text
    ⊎ (LeavesAmid held kept.call left_image left_text ⊎ LeftBy (after held kept) more left_image left_text)

-- an image and a text are left since a moment, which is the number of calls before it, if a cut at it or later might
-- have left them
abbrev pub LeftSince : Contents → List CallOutcome → ℕ → List ℕ → List ℕ → Type 0
LeftSince held calls zero left_image left_text = LeftBy held calls left_image left_text
LeftSince held [] (suc moment) left_image left_text = Leaves held left_image left_text
LeftSince held (kept ∷ more) (suc moment) left_image left_text =
    LeftSince (after held kept) more moment left_image left_text
