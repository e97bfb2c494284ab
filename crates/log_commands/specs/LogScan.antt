-- For proofs: what a scan of the log tells of its slots. Unread says which slots are bad.
use Rattle.std.specs.Prelude.{ℕ, ◌≡◌, ◌≢◌, ◌≤◌, ◌⊎◌, Err, List, None, Ok, Option, Result, Some, drop, get_or}
use Rattle.log_commands.specs.Record.{IsRecord, Record}
use Rattle.log_commands.specs.Slots.{HasRecord, IsClosed, IsOpen, Spells, behind_gate, slot_of}
use Rattle.log_commands.specs.declared.scanning.{Content.{Content}, Entry.{Entry}, ScanFault.TheVariants.{BadSlot}}
use Rattle.log_commands.specs.declared.scanning.{Content.TheVariants.{Closed, Filled, Unread}, ScanFault.{ScanFault}}
pub use Rattle.log_commands.specs.Unread.{IsBad, IsBroken, IsLowestBad}

-- a slot of an image has a content if it is closed, if it is open and its bytes are no record's, or if it holds a
-- record at a place, as the content says
abbrev pub IsContent : List ℕ → ℕ → Content → Type 0
IsContent image slot Closed = IsClosed image slot
IsContent image slot Unread = IsOpen image slot × ((place : ℕ) (it : Record)
    → ¬ Spells (behind_gate image slot) place it)
IsContent image slot (Filled place it) = HasRecord image slot place it

-- the 512 bytes of a slot have a content if they are a closed gate, an open one before no record's bytes, or an open
-- one before a record's, as the content says
abbrev pub IsContentOf : List ℕ → Content → Type 0
IsContentOf bytes Closed = get_or bytes 0 0 ≢ 165
IsContentOf bytes Unread = (get_or bytes 0 0 ≡ 165) × ((place : ℕ) (it : Record)
    → ¬ Spells (drop 1 bytes) place it)
IsContentOf bytes (Filled place it) = (get_or bytes 0 0 ≡ 165) × Spells (drop 1 bytes) place it

-- a content that was read is sound, whatever the board tells, if its record is one, at a place of 1 up to its number
abbrev pub IsContentInRange : Content → Type 0
IsContentInRange Closed = Unit {0}
IsContentInRange Unread = Unit {0}
IsContentInRange (Filled place it) = IsRecord it × (1 ≤ place) × (place ≤ it.number)

-- an answer is that of a slot's content if it is no entry, the entry of its record, or that the slot is bad, as the
-- content says
abbrev pub IsEntryOf : ℕ → Content → Result (Option Entry) ScanFault → Type 0
IsEntryOf slot Closed result = result ≡ Ok None
IsEntryOf slot Unread result = result ≡ Err (BadSlot slot)
IsEntryOf slot (Filled place it) result =
    ((slot_of place ≡ slot) × (result ≡ Ok (Some (record { place = place; number = it.number }))))
    ⊎ ((slot_of place ≢ slot) × (result ≡ Err (BadSlot slot)))

-- an entry is a slot's if the slot is closed and there is none, or if it holds a record of this number at this place
-- and is the place's own
abbrev pub IsEntry : List ℕ → ℕ → Option Entry → Type 0
IsEntry image slot None = IsClosed image slot
IsEntry image slot (Some entry) =
    (it : Record) × HasRecord image slot entry.place it × (it.number ≡ entry.number) × (slot_of entry.place ≡ slot)
