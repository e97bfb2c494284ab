-- Rules: a state that follows another by a list of commits. Entries has the sums over their entries.
use Rattle.std.specs.Prelude.{◌+◌, ◌≡◌, List, length}
use Rattle.totals_record.specs.{Common.{Change, Durable}, States.{IsHeldAfter, entries_of, layout_after}}
pub use Rattle.totals_record.specs.Entries.{AddsUp, totals_of}

-- a state follows another by a list of commits if its number grew by how many they are, its totals by their entries,
-- and its layout and its held trip are what they leave
pub record GrowsBy (old new : Durable) (changes : List Change) : Type 0 where
  pub number : new.number ≡ old.number + length changes
  pub layout : new.layout ≡ layout_after old.layout changes
  pub totals : AddsUp old.totals new.totals (entries_of changes)
  pub held : IsHeldAfter old.hold changes new.hold
