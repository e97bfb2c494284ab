-- How drives end, from the bytes that were taken.
use Rattle.std.proofs.Common.{[], ℕ, ◌++◌, ◌<◌, ◌≡◌, ◌≤◌, List, None, Some, ap, flat_map, length, refl, sym}
use Rattle.{std.proofs.lemmas.List.{append-nil}, taxi_units.proofs.Laws.{whole_stream_reached}}
use Rattle.taxi_units.specs.Streams.{IsSplit, KeepsBad, stream_limit}
use Rattle.taxi_units.proofs.Laws.{bad_stream_reached, endless_stream_reached, unfinished_stream_reached}
use Rattle.drive_text.specs.Drive.{bad_at_end, events_in, first_bad}
use Rattle.drive_text.specs.{Ending.{BadAt, Endless, ReachesEnd, Whole, drives}, Runs.{run_events}}
use Rattle.drive_text.proofs.Cuts.{first_bad-append, runs_in-append_bad}

keeps : KeepsBad drives
keeps = record { stays = first_bad-append; ends = λ drive line is. rw is refl }

whole_split : (drive : List ℕ) → IsSplit drive drive []
whole_split drive = record { bytes = sym (append-nil drive) }

seam : (taken left : List ℕ) → IsSplit (taken ++ left) taken left
seam taken left = record { bytes = refl }

pub whole_drive_ends : (drive : List ℕ) → length drive < stream_limit → bad_at_end drive ≡ None
    → ReachesEnd drive drive [] Whole
whole_drive_ends drive few good = whole_stream_reached drives events_in (whole_split drive) refl few good

pub unfinished_drive_ends : (drive : List ℕ) (line : ℕ) → length drive < stream_limit → bad_at_end drive ≡ Some line
    → ReachesEnd drive drive [] (BadAt line)
unfinished_drive_ends drive line few bad = unfinished_stream_reached drives events_in (whole_split drive) refl few bad

pub bad_drive_ends : (taken left : List ℕ) (line : ℕ) → length taken ≤ stream_limit → first_bad taken ≡ Some line
    → ReachesEnd (taken ++ left) taken left (BadAt line)
bad_drive_ends taken left line few is = bad_stream_reached drives events_in (seam taken left) keeps
    (λ more. ap (flat_map run_events) (runs_in-append_bad taken more line is)) few is

pub endless_drive_ends : (taken left : List ℕ) → length taken ≡ stream_limit → first_bad taken ≡ None
    → ReachesEnd (taken ++ left) taken left Endless
endless_drive_ends taken left full good = endless_stream_reached drives events_in (seam taken left) full good
