-- For proofs: what the code of a board in memory keeps, and what going through its calls again gives.
use Rattle.std.specs.Prelude.{ℕ, ◌+◌, ◌≡◌, ◌≤◌, List, length}
use Rattle.memory_devices.specs.Calls.{Call, CallOutcome, Contents, IsInSome, Print, Read, Sync, Write}
use Rattle.memory_devices.specs.Common.{SameBut}

-- the end of a call is the place behind the last byte that it writes, or 0 if it writes none
abbrev pub call_end : Call → ℕ
call_end Read = 0
call_end (Write at bytes) = at + length bytes
call_end Sync = 0
call_end (Print bytes) = 0

-- a kept call is in a store of `size` bytes if what it writes ends in that store
abbrev pub IsInStore : (size : ℕ) → CallOutcome → Type 0
IsInStore size kept = call_end kept.call ≤ size

-- an image and a text mirror what a board holds if they are the bytes that a read gives and those that were printed
pub record Mirrors (held : Contents) (image text : List ℕ) : Type 0 where
  pub image_is : image ≡ held.image
  pub text_is : text ≡ held.text

-- two images follow what a board holds if the first is the bytes that a read gives, and the second differs from it
-- at most at places in flight
pub record AreLeftOf (held : Contents) (image left : List ℕ) : Type 0 where
  pub image_is : image ≡ held.image
  pub left_is : SameBut (IsInSome held.ranges) held.image left
