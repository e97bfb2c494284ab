-- A generated drive means its lines.
use Rattle.std.proofs.Common.{[], ℕ, ◌<◌, ◌≡◌, ◌≤◌, All, None, ap, arith, length, length-append}
use Rattle.{std.proofs.lemmas.List.Elements.{All-cons}, drive_text.specs.{Drive.{events_in}, Ending.{stream_limit}}}
use Rattle.verify_bench.specs.{AddedText.{lines_events}, Common.{IsRunInRange, One, Up, bad_at_end, runs_in}}
use Rattle.verify_bench.specs.Generated.{beginning, generated, generated_lines, line_text, lines_text, trips_from}
use Rattle.verify_bench.proofs.{Lines.{first_is_short}, LinesRead.{lines_read, nothing_reads}, Ranged.{trips_in_range}}

lines_in_range : (seed trips : ℕ) → trips ≤ 1000 → All IsRunInRange (generated_lines seed trips)
lines_in_range seed trips few = All-cons IsRunInRange (One (Up 1772406000)) (trips_from trips (beginning seed)).lines
    (omega arith, omega arith) (trips_in_range seed trips few).0

pub generated_is_good : (seed trips : ℕ) → trips ≤ 1000 → bad_at_end (generated seed trips) ≡ None
generated_is_good seed trips few =
    (lines_read (generated_lines seed trips) [] (lines_in_range seed trips few) nothing_reads.0).0

pub generated_means_its_lines : (seed trips : ℕ) → trips ≤ 1000
    → runs_in (generated seed trips) ≡ generated_lines seed trips
generated_means_its_lines seed trips few =
    let read = lines_read (generated_lines seed trips) [] (lines_in_range seed trips few) nothing_reads.0 in
    rw nothing_reads.1 at read.1

pub generated_is_short : (seed trips : ℕ) → trips ≤ 1000 → length (generated seed trips) < stream_limit
generated_is_short seed trips few =
    let others = lines_text (trips_from trips (beginning seed)).lines in
    omega (
      arith,
      length-append (line_text (One (Up 1772406000))) others,
      first_is_short,
      (trips_in_range seed trips few).1,
    )

pub events_of_lines : (seed trips : ℕ) → trips ≤ 1000
    → length (events_in (generated seed trips)) ≡ lines_events (generated_lines seed trips)
events_of_lines seed trips few = ap lines_events (generated_means_its_lines seed trips few)
