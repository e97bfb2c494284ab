-- Rules: what the slots of the log hold.
use Rattle.std.specs.{Int.{to_be_bytes, w16, w64}, Prelude.{replicate, take}}
use Rattle.std.specs.Prelude.{[], ℕ, ◌%◌, ◌*◌, ◌++◌, ◌+◌, ◌-◌, ◌∷◌, ◌≡◌, ◌≢◌, ◌≤◌, List, drop, get_or, length}
use Rattle.log_commands.specs.Record.{IsRecord, Record}

-- the slots of the log, numbered from 0 to 255, begin 512 bytes from one another, the first at byte 0
abbrev pub slot_at : ℕ → ℕ
slot_at slot = 512 * slot

-- the slot of a place in the log, which counts from 1, is the remainder by 256 of the place less 1
abbrev pub slot_of : ℕ → ℕ
slot_of place = (place - 1) % 256

-- the 511 bytes that spell a record at a place in the log are the place, the text's length, the text, zeros, and the
-- layout, which is 1
abbrev pub spelling : ℕ → List ℕ → List ℕ
spelling place text =
    to_be_bytes w64 place ++ (to_be_bytes w16 (length text) ++ (text ++ (replicate (500 - length text) 0 ++ (1 ∷ []))))

-- a text is a record's if the record is a receipt's and has that text
pub record IsRecordOf (text : List ℕ) (it : Record) : Type 0 where
  pub is : IsRecord it
  pub text_is : it.text ≡ text

-- bytes spell a record at a place in the log if they are its bytes there and the place is at most its number
pub record Spells (bytes : List ℕ) (place : ℕ) (it : Record) : Type 0 where
  pub is : IsRecord it
  pub first : 1 ≤ place
  pub most : place ≤ it.number
  pub bytes_are : bytes ≡ spelling place it.text

-- a slot is closed if its gate, the first byte, is another than 0xA5
abbrev pub IsClosed : List ℕ → ℕ → Type 0
IsClosed image slot = get_or image (slot_at slot) 0 ≢ 165

-- a slot is open if its gate is 0xA5
abbrev pub IsOpen : List ℕ → ℕ → Type 0
IsOpen image slot = get_or image (slot_at slot) 0 ≡ 165

-- the bytes behind the gate of a slot are the 511 bytes of the slot but for its first
abbrev pub behind_gate : List ℕ → ℕ → List ℕ
behind_gate image slot = take 511 (drop (slot_at slot + 1) image)

-- a slot holds a record at a place in the log if it is open and the bytes behind its gate spell that
pub record HasRecord (image : List ℕ) (slot place : ℕ) (it : Record) : Type 0 where
  pub opened : IsOpen image slot
  pub spells : Spells (behind_gate image slot) place it
