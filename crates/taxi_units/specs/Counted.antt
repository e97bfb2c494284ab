-- Rules: what look-ups in a list find, and in how many steps.
use Rattle.std.specs.Prelude.{ℕ, ◌+◌, ◌-◌, ◌<◌, ◌^◌, ◌≡◌, ◌≤◌, List, slice_index_or}

-- an element stands at a place of a list, counted from 0, if the list is longer than that and has the element there
abbrev pub IsElement : {T : Type 0} → List T → (place : ℕ) → T → Type 0
IsElement {T} list place element = (other : T) → element ≡ slice_index_or list place other

-- an element is the last of the first `count` elements of a list, of which there is at least one
abbrev pub IsLastOf : {T : Type 0} → List T → (count : ℕ) → T → Type 0
IsLastOf list count element = (0 < count) × IsElement list (count - 1) element

-- a look-up, in which the counter goes from `old` to `new`, halves its list if it takes no more steps than the list's
-- length has binary digits, and at least one if the list has an element
pub record HalvesIn (length old new : ℕ) : Type 0 where
  pub kept : old ≤ new
  pub most : (digits : ℕ) → length < 2 ^ digits → new ≤ old + digits
  pub least : 0 < length → old + 1 ≤ new
