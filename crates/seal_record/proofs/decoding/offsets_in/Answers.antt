use Rattle.std.proofs.Common.{◌∙◌, arith}
use Rattle.slot_bodies.{specs.BytesAt.{byte_at}, proofs.Laws.{length-read_row}}
use Rattle.seal_record.{specs.{Common.{read_row}, Decoding.{pair_table}}, proofs.Ranged.{offsets_by}}
use Rattle.seal_record.proofs.decoding.offsets_in.Goals as goal

pub returns-then-count-gt-MOST_OFFSETS : goal.returns-then-count-gt-MOST_OFFSETS
returns-then-count-gt-MOST_OFFSETS c = λ lawful.
    omega (
      arith,
      lawful.few,
      length-read_row pair_table (byte_at c.args.bytes.now 67) c.args.bytes.now 68,
      c.if-count-gt-MOST_OFFSETS.true,
    )

pub returns : goal.returns
returns c =
    offsets_by c.offsets_of.result c.as_slice.result.now
    (read_row pair_table (byte_at c.args.bytes.now 67) c.args.bytes.now 68)
    (c.as_slice.ensures.value ∙ c.pairs_in.ensures) c.offsets_of.ensures
