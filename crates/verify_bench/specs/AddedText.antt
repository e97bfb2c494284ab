-- For proofs: what the writing of lines adds to a text. Generated says which lines are written.
use Rattle.std.specs.Prelude.{ℕ, ◌++◌, ◌+◌, ◌≡◌, ◌≤◌, List, flat_map, length}
use Rattle.{arrayvec.specs.ArrayVec.{array_vec_len}, taxi_units.specs.Line.{line_size}}
use Rattle.verify_bench.specs.Common.{Run, run_events}
use Rattle.verify_bench.specs.{Generated.{Place, Written, lines_text}, declared.writing.Writing.{Writing}}

-- lines have as many events as their runs together
abbrev pub lines_events : List Run → ℕ
lines_events lines = length (flat_map run_events lines)

-- a writing stands at the state of its draws and at its time
abbrev pub place_of : Writing → Place
place_of writing = record { state = writing.state; tenths = writing.tenths }

-- a writing adds lines if it then stands behind them, and its text and its events have grown by theirs; by no more than
-- the given bytes and events, in no more than the given tenths of a second
pub record Adds (old new : Writing) (bytes tenths events : ℕ) (written : Written) : Type 0 where
  pub place : place_of new ≡ written.next
  pub text : new.text.items ≡ old.text.items ++ lines_text written.lines
  pub counted : new.events ≡ old.events + lines_events written.lines
  pub few_bytes : array_vec_len new.text ≤ array_vec_len old.text + bytes
  pub few_tenths : new.tenths ≤ old.tenths + tenths
  pub few_events : new.events ≤ old.events + events

-- a writing has room for bytes, tenths of a second and events if with them its text has at most 512 bytes, its time
-- is at most 10^9 tenths, and its events are at most 10^12
abbrev pub HasRoom : Writing → (bytes tenths events : ℕ) → Type 0
HasRoom writing bytes tenths events =
    (array_vec_len writing.text + bytes ≤ line_size)
    × (writing.tenths + tenths ≤ 1000000000)
    × (writing.events + events ≤ 1000000000000)
