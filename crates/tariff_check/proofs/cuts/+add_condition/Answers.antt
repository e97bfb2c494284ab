use Rattle.{std.proofs.lemmas.Result.{on_ok_weaker}, tariff_check.specs.{Common.{condition_of}, Lines.{atoms_of}}}
use Rattle.tariff_check.proofs.CutLaws.{with_both}
use Rattle.tariff_check.proofs.cuts.+add_condition.Goals as goal

pub returns-in_ok-add_condition-in-And : goal.returns-in_ok-add_condition-in-And
returns-in_ok-add_condition-in-And t c =
    let first = rw c.deref.ensures at c.in_ok-add_condition-in-And.ensures in
    let second = rw c.deref-in-And.ensures at c.add_condition-in-And.ensures in
    rw c.in-And.is (on_ok_weaker c.add_condition-in-And.result
    (with_both c.args.dimension c.args.cuts.now.keys c.add_condition.new.cuts.keys c.add_condition-in-And.new.cuts.keys
    (atoms_of (condition_of c.in-And.left.value)) (atoms_of (condition_of c.in-And.right.value)) first) second)

pub returns-in_ok-add_condition-in-Or : goal.returns-in_ok-add_condition-in-Or
returns-in_ok-add_condition-in-Or t c =
    let first = rw c.deref-in-Or.ensures at c.in_ok-add_condition-in-Or.ensures in
    let second = rw c.deref-in-Or-2.ensures at c.add_condition-in-Or-2.ensures in
    rw c.in-Or.is (on_ok_weaker c.add_condition-in-Or-2.result (with_both c.args.dimension c.args.cuts.now.keys
    c.add_condition-in-Or.new.cuts.keys c.add_condition-in-Or-2.new.cuts.keys
    (atoms_of (condition_of c.in-Or.left.value)) (atoms_of (condition_of c.in-Or.right.value)) first) second)
