-- Laws of definitions that the crates above cite.
pub use Rattle.slot_bodies.proofs.ReadBack.{bodies_of, not_in_range, other_bytes, own_bytes, reads_exactly}
pub use Rattle.slot_bodies.proofs.{Rows.{length-read_row, one_more}, ValueWidths.{row_fits}}
pub use Rattle.slot_bodies.proofs.ValueWidths.{alone_again, below_of_most, below_of_times, fits_of_range, parts_below}
