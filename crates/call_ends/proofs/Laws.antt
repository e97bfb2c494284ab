-- The lemmas that the crates above cite.
pub use Rattle.call_ends.proofs.{BoardRuns.{board_runs}, Unwritten.{bytes-kept, bytes-read, bytes-then, reads-then}}
pub use Rattle.call_ends.proofs.CallsWithoutDevices.{carries-kept, carries-looked, carries-said, carries-shut}
pub use Rattle.call_ends.proofs.{CallsWithoutDevices.{carries-unread}, EndsApart.{refusal_by}, Tariffs.{lines_of_sound}}
pub use Rattle.call_ends.proofs.{Endings.{course-unprinted, ends-with, finishes-later, may-then}, Rests.{board_or_not}}
pub use Rattle.call_ends.proofs.EndsApart.{board_not_read, done_not_board, done_not_read, ends_apart, not_status}
pub use Rattle.call_ends.proofs.FaultCounts.{board_counts, cause_board, cause_carried, cause_done, files_left}
pub use Rattle.call_ends.proofs.FaultCounts.{not_board-text, not_read-memory, not_some, not_true, read_fault-text}
pub use Rattle.call_ends.proofs.FaultCounts.{rose_after, rose_before, stops_at, stops_by, unless_read}
pub use Rattle.call_ends.proofs.Following.{fails-text, fails_as, goes-all, goes-none, goes-on, reads-bad, reads-fault}
pub use Rattle.call_ends.proofs.{Following.{reads-ok, stops-with}, Making.{word_is}, PrintedParts.{out-then}}
pub use Rattle.call_ends.proofs.Making.{MakesOfWord, MakesText, Refuses, carries-line, carries-made, carries-printed}
pub use Rattle.call_ends.proofs.Making.{ends-plain, ends-printed, few_pieces, made-bad, makes-answer, makes-failing}
pub use Rattle.call_ends.proofs.Making.{makes-known, makes-lacking, makes-none, makes-nothing, makes-of, makes-read}
pub use Rattle.call_ends.proofs.Making.{makes-stopped, makes-unread, prints-by, prints-none, refuses-bad, text_is}
pub use Rattle.call_ends.proofs.{OneAnswer.{as_found, as_refused, no_fault, same_fault}, Rows.{begins-row, printed-row}}
pub use Rattle.call_ends.proofs.PrintedParts.{out-as, out-by, out-failed, out-ok, out-print, out-row, out-row_failed}
pub use Rattle.call_ends.proofs.Refusals.{course-bad_tariff, course-no_memory, course-refused, ends-failing}
pub use Rattle.call_ends.proofs.{Refusals.{ends-lacking, ends-refused}, ShownTexts.{course-unread, course-whole}}
pub use Rattle.call_ends.proofs.ShownTexts.{Here, course-begun, course-lacking, course-part, course-shown}
pub use Rattle.call_ends.proofs.Streams.{not_bad}
