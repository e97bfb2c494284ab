use Rattle.{std.proofs.Common.{Some}, verify_bench.specs.{CsvWriter.{HasRows}, Report.{rows_text, rows_to}}}
use Rattle.verify_bench.proofs.reporting.report.Given as goal

abbrev pub invariant-loop-place : goal.invariant-loop-place
invariant-loop-place l =
    HasRows (λ v. Some v.items) l.writer (rows_text (rows_to l.step l.decimals l.fn.expected l.fn.readings l.place))
