-- Rules: the list of receipts for which an image of the log stands.
use Rattle.std.specs.Prelude.{[], ℕ, ◌+◌, ◌-◌, ◌<◌, ◌∷◌, ◌≡◌, ◌≢◌, ◌≤◌, ◌⊎◌, List, drop, length}
use Rattle.log_commands.specs.{Record.{Record}, Slots.{HasRecord, IsClosed, slot_of}}

-- records are held from a place in the log on if they are one after another in the slots of its places
abbrev pub AreInSlots : List ℕ → ℕ → List Record → Type 0
AreInSlots image place [] = Unit {0}
AreInSlots image place (it ∷ more) = HasRecord image (slot_of place) place it × AreInSlots image (place + 1) more

-- records rise from a number if the first one's number is above it, and each other's above that of the one before
abbrev pub RiseFrom : ℕ → List Record → Type 0
RiseFrom number [] = Unit {0}
RiseFrom number (it ∷ more) = (number < it.number) × RiseFrom it.number more

-- a log whose newest record is at the place `last` has one record at each place if `last` is below 256, and else 256 or
-- 255
abbrev pub IsCount : (last count : ℕ) → Type 0
IsCount last count = ((last < 256) × (count ≡ last)) ⊎ ((256 ≤ last) × ((count ≡ 256) ⊎ (count ≡ 255)))

-- an image ends with records, the oldest first, of which the newest is at the place `last`, if their places are in a
-- row, their numbers rise, and all other slots are closed
pub record EndsWith (image : List ℕ) (last : ℕ) (records : List Record) : Type 0 where
  pub count : IsCount last (length records)
  pub held : AreInSlots image (last + 1 - length records) records
  pub rise : RiseFrom 0 records
  pub others : (slot : ℕ) → slot < 256
      → ((place : ℕ) → last < place + length records → place ≤ last → slot ≢ slot_of place) → IsClosed image slot

-- an image stands for a list of records if it ends with them at some place
abbrev pub StandsFor : List Record → List ℕ → Type 0
StandsFor records image = (last : ℕ) × EndsWith image last records

-- the last ones of a list are as many records of its end as are asked for, or all if it has fewer
abbrev pub last_ones : ℕ → List Record → List Record
last_ones count records = drop (length records - count) records

-- an image stands for the last of a list if it stands for the last 256 of it, or for the last 255
abbrev pub StandsForLast : List Record → List ℕ → Type 0
StandsForLast records image = StandsFor (last_ones 256 records) image ⊎ StandsFor (last_ones 255 records) image

-- an image stands at a place of the log if it stands for some list whose newest record is at that place
abbrev pub StandsAt : List ℕ → (last : ℕ) → Type 0
StandsAt image last = (records : List Record) × EndsWith image last records
