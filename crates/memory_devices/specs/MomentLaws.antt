-- For proofs: the laws of the moments of a board in memory, which its impl of the trait Board cites.
use Rattle.std.{specs.Prelude.{[], ℕ, ◌∷◌, ◌≤◌, List, length, suc, zero}, proofs.Common.{inr, le_of_suc-le-suc}}
use Rattle.memory_devices.specs.{Calls.{CallOutcome, Contents, after, after_all}, Moments.{Leaves, LeftBy, LeftSince}}

-- what a cut leaves of a board now is among what a cut at some moment might have left
left_behind : (held : Contents) (calls : List CallOutcome) (left_image left_text : List ℕ)
    → Leaves (after_all held calls) left_image left_text → LeftBy held calls left_image left_text
left_behind held [] left_image left_text now = now
left_behind held (kept ∷ more) left_image left_text now =
    inr (inr (left_behind (after held kept) more left_image left_text now))

-- what a cut leaves of a board now is among what a cut since any earlier moment might have left
pub counts_now : (held : Contents) (calls : List CallOutcome) (start : ℕ) (left_image left_text : List ℕ)
    → start ≤ length calls
    → Leaves (after_all held calls) left_image left_text → LeftSince held calls start left_image left_text
counts_now held calls zero left_image left_text le now = left_behind held calls left_image left_text now
counts_now held [] (suc start) left_image left_text le now = now
counts_now held (kept ∷ more) (suc start) left_image left_text le now =
    counts_now (after held kept) more start left_image left_text (le_of_suc-le-suc le) now

-- since the moment of now a cut might have left only what it leaves of the board now
pub only_now : (held : Contents) (calls : List CallOutcome) (left_image left_text : List ℕ)
    → LeftSince held calls (length calls) left_image left_text
    → Leaves (after_all held calls) left_image left_text
only_now held [] left_image left_text left = left
only_now held (kept ∷ more) left_image left_text left = only_now (after held kept) more left_image left_text left
