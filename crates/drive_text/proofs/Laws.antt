-- The laws of this crate, as its public empty functions state them.
pub use Rattle.drive_text.proofs.Cuts.{events_added as events_are_added, first_bad-append as bad_stays}
pub use Rattle.drive_text.proofs.Cuts.{pieces_give_events, pieces_give_runs, pieces_give_the_same}
pub use Rattle.drive_text.proofs.Cuts.{runs_added as runs_are_added, runs_in-append_bad as bad_ends_runs}
pub use Rattle.drive_text.proofs.Ends.{bad_drive_ends, endless_drive_ends, unfinished_drive_ends, whole_drive_ends}
pub use Rattle.drive_text.proofs.{LineLaw.{lines_make_the_text}, ReadBack.{runs_in-event_text as written_line_gives}}
pub use Rattle.drive_text.proofs.ReadBack.{bad_at_end-event_text as written_line_is_good}
pub use Rattle.drive_text.proofs.ReaderPlaces.{begun_fits as few_lines, failed_at as failed_reader}
pub use Rattle.drive_text.proofs.ReaderPlaces.{failed_stays as failed_reader_stays, goes_on as going_reader}
pub use Rattle.drive_text.proofs.{ReaderPlaces.{same_bytes as same_reader}, WrittenDrives.{written_drive_means}}
pub use Rattle.drive_text.proofs.Table.{line_runs-table as lines_give_what_the_table_says}
pub use Rattle.drive_text.proofs.Wholes.{at_end as drive_at_end, so_far as drive_so_far}
pub use Rattle.drive_text.proofs.WrittenDrives.{event-short as written_line_is_short, written_drive_ends}
