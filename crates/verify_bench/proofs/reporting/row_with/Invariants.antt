use Rattle.{std.proofs.Common.{map, take}, verify_bench.specs.CsvWriter.{IsRow}}
use Rattle.verify_bench.proofs.reporting.row_with.Given as goal

abbrev pub invariant-loop-field : goal.invariant-loop-field
invariant-loop-field l = IsRow l.row (map (λ field. field.now) (take l.field-index l.fields))
