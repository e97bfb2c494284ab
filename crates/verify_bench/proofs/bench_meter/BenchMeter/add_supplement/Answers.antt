use Rattle.std.proofs.{Common.{◌∙◌, ◌≡◌, Some, sym}, lemmas.Result.{on_ok_weaker}}
use Rattle.verify_bench.{specs.Common.{supplement_of, tree_of}, proofs.TreeParts.{sound_supplement}}
use Rattle.verify_bench.specs.Settings.{setting_under}
use Rattle.verify_bench.proofs.bench_meter.BenchMeter.add_supplement.Goals as goal

pub add_up_to-requires-clause-number : goal.add_up_to-requires-clause-number
add_up_to-requires-clause-number c =
    let is : supplement_of (tree_of c.args.checked.now).lines c.args.number ≡ Some c.in-Some.supplement =
    sym c.supplement.ensures.value ∙ c.in-Some.is
    in
    (sound_supplement (tree_of c.args.checked.now) c.args.number c.in-Some.supplement c.supplement.ensures.writable
    c.supplement.ensures.sound is).0

pub add_up_to-requires-clause-most : goal.add_up_to-requires-clause-most
add_up_to-requires-clause-most c =
    let is : supplement_of (tree_of c.args.checked.now).lines c.args.number ≡ Some c.in-Some.supplement =
    sym c.supplement.ensures.value ∙ c.in-Some.is
    in
    (sound_supplement (tree_of c.args.checked.now) c.args.number c.in-Some.supplement c.supplement.ensures.writable
    c.supplement.ensures.sound is).2

pub returns-in-Some-clause-moves : goal.returns-in-Some-clause-moves
returns-in-Some-clause-moves c =
    let is : supplement_of (tree_of c.args.checked.now).lines c.args.number ≡ Some c.in-Some.supplement =
    sym c.supplement.ensures.value ∙ c.in-Some.is
    in
    on_ok_weaker c.add_up_to.result (λ moves params trip found m hired next stands. rw is (moves
    (setting_under c.args.checked.now params) trip found m hired next stands)) c.add_up_to.ensures.moves
