-- Rules: what a command takes in pieces of at most 512 bytes, and no further than it has to.
use Rattle.std.specs.Prelude.{[], ℕ, ◌≡◌, List, None, Option, Some}
use Rattle.{taxi_units.specs.Streams.{IsSplit, TellsEnd}, drive_text.specs.Ending.{drives}}
use Rattle.data_port.specs.ServedStream.{requests}

-- a stream is a drive, or the requests of a data port, in the file of a word
pub data Stream : Type 0 where
  Drive : (word : ℕ) → Stream
  Requests : (word : ℕ) → Stream

-- the bytes that were taken of a stream are those in front of what is left of its file; and there are none without a
-- stream
abbrev pub TakesBytes : Option Stream → (contents left : ℕ → List ℕ) (taken : List ℕ) → Type 0
TakesBytes None contents left taken = taken ≡ []
TakesBytes (Some (Drive word)) contents left taken = IsSplit (contents word) taken (left word)
TakesBytes (Some (Requests word)) contents left taken = IsSplit (contents word) taken (left word)

-- the status of an answer that calls a stream bad or too long is 16 for requests, and else 3
abbrev pub bad_status : Option Stream → ℕ
bad_status None = 3
bad_status (Some (Drive word)) = 3
bad_status (Some (Requests word)) = 16

-- the bytes that were taken of a stream tell its end, and there is a stream
abbrev pub TellsItsEnd : Option Stream → (contents left : ℕ → List ℕ) → Type 0
TellsItsEnd None contents left = ⊥
TellsItsEnd (Some (Drive word)) contents left = TellsEnd drives (contents word) (left word)
TellsItsEnd (Some (Requests word)) contents left = TellsEnd requests (contents word) (left word)
