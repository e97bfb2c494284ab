-- Laws that the crates above cite.
use Rattle.std.proofs.Common.{ℕ, ◌↔◌, ◌≡◌, List, Some}
use Rattle.{slot_bodies.proofs.Laws.{reads_exactly}, totals_record.specs.Reading.{again, decoded, reads}}
use Rattle.totals_record.specs.{Common.{Durable}, Ranges.{IsDurable}, Spelling.{spelling}, Table.{durable_test}}
pub use Rattle.totals_record.proofs.CommitRanges.{entry_keeps as entries_keep_the_ranges}
pub use Rattle.totals_record.proofs.CommitRanges.{trip_keeps as held_trips_keep_the_ranges}
pub use Rattle.totals_record.proofs.CommittedStates.{follows as changes_add_up, follows_then as states_follow_in_turn}

-- bytes are read as a state exactly if it is in its ranges and they are its own
pub states_are_read_by_their_table : (bytes : List ℕ) (durable : Durable) → (reads bytes ≡ Some durable)
    ↔ (IsDurable durable × (bytes ≡ spelling durable))
unfolding reads
states_are_read_by_their_table bytes durable = reads_exactly durable_test spelling decoded again bytes durable
