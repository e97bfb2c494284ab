use Rattle.std.proofs.Common.{◌∙◌, ◌≡◌, arith, sym}
use Rattle.{arrayvec.specs.ArrayVec.{array_vec_len}, verify_bench.proofs.Trips.{none_left}}
use Rattle.verify_bench.proofs.remaining.Remaining.take.Goals as goal

pub returns-clause-over : goal.returns-clause-over
returns-clause-over c none =
    let ready = c.write_on.new.self in
    let all : ready.given ≡ array_vec_len ready.writing.text =
    omega (arith, c.give.ensures.count, c.write_on.ensures.sound, c.requires.some, none) in
    sym c.write_on.ensures.left ∙ none_left ready all (c.write_on.ensures.some all)
