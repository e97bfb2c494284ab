use Rattle.{std.proofs.Common.{arith, refl}, drive_text.proofs.Laws.{written_line_is_short}}
use Rattle.verify_bench.proofs.Adds.{adds_event}
use Rattle.verify_bench.proofs.writing.Writing.put.Goals as goal

pub unwrap-requires : goal.unwrap-requires
unwrap-requires c = c.put_event.ensures.variant.1 (omega (arith, written_line_is_short c.args.event c.requires.range))

pub returns : goal.returns
returns c = adds_event c.args.self.now _ c.args.event c.requires.range refl refl refl
    (rw c.unwrap.ensures at c.put_event.ensures.ok)
