use Rattle.std.proofs.{Common.{false, refl}, lemmas.Bool.Decides.{same_from_decides}}
use Rattle.seal_record.specs.OffsetList.{is_offset_list, offsets_test}
use Rattle.seal_record.proofs.offset_list.offsets_of.Goals as goal

pub returns-in-Ok : goal.returns-in-Ok
returns-in-Ok c =
    rw ((offsets_test c.args.pairs.now).decides.1 (c.in-Ok.ensures.lawful.0 refl), c.in-Ok.ensures.value) refl

pub returns-in-Err : goal.returns-in-Err
returns-in-Err c = rw (same_from_decides (is_offset_list c.args.pairs.now) false
    (offsets_test c.args.pairs.now).decides c.in-Err.ensures.lawful) refl
