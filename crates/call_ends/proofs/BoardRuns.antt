-- The laws of the runs of a board's calls that the functions of this crate try.
pub use Rattle.outside.proofs.Laws.{keeps_none, keeps_print, keeps_then}

-- no calls, a print, and one run of calls after another keep the store
pub ruleset board_runs = (keeps_none, keeps_print, keeps_then)
