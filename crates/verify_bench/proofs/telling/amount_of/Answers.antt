use Rattle.std.proofs.Common.{◌∙◌, ◌≡◌, Some, sym}
use Rattle.verify_bench.{specs.Common.{supplement_of, tree_of}, proofs.TreeParts.{sound_supplement}}
use Rattle.verify_bench.proofs.telling.amount_of.Goals as goal

pub returns-in-Some-clause-most : goal.returns-in-Some-clause-most
returns-in-Some-clause-most c =
    let is : supplement_of (tree_of c.args.checked.now).lines c.args.number ≡ Some c.in-Some.supplement =
    sym c.supplement.ensures.value ∙ c.in-Some.is
    in
    (sound_supplement (tree_of c.args.checked.now) c.args.number c.in-Some.supplement c.supplement.ensures.writable
    c.supplement.ensures.sound is).1
