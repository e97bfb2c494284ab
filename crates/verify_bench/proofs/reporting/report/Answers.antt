use Rattle.std.proofs.Common.{[], ◌∙◌, Some, refl}
use Rattle.verify_bench.specs.CsvWriter.{HasRows}
use Rattle.verify_bench.{specs.Report.{rows_text, rows_to}, proofs.ReportRows.{text_of_more, text_of_none}}
use Rattle.verify_bench.proofs.reporting.report.Goals as goal

pub loop-place-init : goal.loop-place-init
loop-place-init c =
    let from = c.from_writer-writer.ensures in
    let first : HasRows (λ v. Some v.items) c.from_writer-writer.result [] = record {
      setup = from.cfg ∙ c.new.ensures;
      fields = from.fields;
      wrote = from.wrote;
      bytes = rw (from.wtr, from.empty, c.new-2.ensures.items) refl;
    } in
    let header = c.in_ok-put_row.ensures [] first in
    rw (c.in_ok-header.ensures.whole, text_of_none c.args.step c.args.decimals c.args.expected.now c.args.readings.now)
    at header

pub loop-place-preserved : goal.loop-place-preserved
loop-place-preserved c =
    let row = c.in_ok-put_row-2.ensures (rows_text (rows_to c.args.step c.args.decimals c.args.expected.now
    c.args.readings.now c.loop-place.place)) c.loop-place.invariant in
    rw (
      c.in_ok-row.ensures.whole,
      c.at-expected.ensures,
      c.at-reading.ensures,
      text_of_more c.args.step c.args.decimals c.args.expected.now c.args.readings.now c.loop-place.place,
    ) at row
