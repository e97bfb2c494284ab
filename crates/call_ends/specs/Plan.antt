-- Rules: which words a command reads, in which order, and when it comes to each.
use Rattle.std.specs.Prelude.{ℕ, ◌+◌, ◌==◌, ◌≡◌, ◌⊎◌, List, if◌then◌else◌}

-- a plan has the words that a command reads, in order, each with when the command comes to it: by the contents of its
-- files, the opening image, and the bytes that were `taken` of the drive or the requests
pub data Plan : Type 1 where
  Last : (word : ℕ) (comes : (contents : ℕ → List ℕ) (image taken : List ℕ) → Type 0) → Plan
  Next : (word : ℕ) (comes : (contents : ℕ → List ℕ) (image taken : List ℕ) → Type 0) (behind : Plan) → Plan

-- a plan has a word
abbrev pub HasWord : Plan → (word : ℕ) → Type 0
HasWord (Last own comes) word = word ≡ own
HasWord (Next own comes behind) word = (word ≡ own) ⊎ HasWord behind word

-- a plan comes to a word
abbrev pub ComesTo : Plan → (contents : ℕ → List ℕ) (image : List ℕ) (word : ℕ) (taken : List ℕ) → Type 0
ComesTo (Last own comes) contents image word taken = (word ≡ own) × comes contents image taken
ComesTo (Next own comes behind) contents image word taken =
    ((word ≡ own) × comes contents image taken) ⊎ ComesTo behind contents image word taken

-- the turn of a word is its place in the plan, from 0 on, and behind all places for another word
abbrev pub turn_in : Plan → (word : ℕ) → ℕ
turn_in (Last own comes) word = if word == own then 0 else 1
turn_in (Next own comes behind) word = if word == own then 0 else 1 + turn_in behind word
