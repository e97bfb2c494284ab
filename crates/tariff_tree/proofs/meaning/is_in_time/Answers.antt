use Rattle.std.proofs.{Common.{refl}, lemmas.Bool.{le-leb, lt-leb}}
use Rattle.tariff_tree.proofs.meaning.is_in_time.Goals as goal

pub returns-then-from-minute-2 : goal.returns-then-from-minute-2
returns-then-from-minute-2 c =
    rw (
      lt-leb c.args.from c.args.to c.if-from-to.false,
      le-leb c.args.from c.args.minute c.if-from-minute-2.true,
    ) refl

pub returns-else-from-minute-2 : goal.returns-else-from-minute-2
returns-else-from-minute-2 c =
    rw (
      lt-leb c.args.from c.args.to c.if-from-to.false,
      lt-leb c.args.from c.args.minute c.if-from-minute-2.false,
    ) refl
