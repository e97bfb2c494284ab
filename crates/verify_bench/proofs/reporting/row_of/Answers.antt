use Rattle.std.proofs.Common.{[]}
use Rattle.verify_bench.proofs.reporting.row_of.Goals as goal

pub returns : goal.returns
returns c =
    let row =
    c.in_ok-put_field-9.ensures _
    (c.in_ok-put_field-8.ensures _ (c.in_ok-put_field-7.ensures _ (c.in_ok-put_field-6.ensures _
    (c.in_ok-put_field-5.ensures _
    (c.in_ok-put_field-4.ensures _ (c.in_ok-put_field-3.ensures _ (c.in_ok-put_field-2.ensures _
    (c.in_ok-put_field.ensures [] c.begin_row-row.ensures))))))))
    in
    let wanted = c.texts_expected-wanted.ensures in
    let read = c.texts_read-read.ensures in
    rw (
      c.as_slice.ensures.value,
      c.number.ensures,
      wanted.kind,
      c.as_slice-2.ensures.value,
      wanted.fare,
      c.as_slice-3.ensures.value,
      read.fare,
      c.as_slice-4.ensures.value,
      wanted.distance,
      c.as_slice-5.ensures.value,
      read.distance,
      c.as_slice-6.ensures.value,
      wanted.time,
      c.as_slice-7.ensures.value,
      read.time,
      c.word_of.ensures,
    ) at row
