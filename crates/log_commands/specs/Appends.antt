-- Rules: what a cut leaves while the log gets one more record.
use Rattle.std.specs.Prelude.{[], ℕ, ◌++◌, ◌∷◌, ◌⊎◌, List}
use Rattle.log_commands.specs.{LogList.{StandsFor, last_ones}, Record.{Record}}
pub use Rattle.log_commands.specs.AppendStages.{IsReady, IsShut, IsStill, IsWritten}

-- a list is kept in an image that stands for the list, or for its last 255
abbrev pub IsListKept : List Record → List ℕ → Type 0
IsListKept records image = StandsFor records image ⊎ StandsFor (last_ones 255 records) image

-- an append of a record to the log leaves, at each moment, an image that keeps the list, or that stands for the last
-- 256 of the list with the new record
abbrev pub IsStep : List Record → Record → List ℕ → Type 0
IsStep records it image = IsListKept records image ⊎ StandsFor (last_ones 256 (records ++ it ∷ [])) image
