use Rattle.std.proofs.{Common.{ℕ, ◌+◌, arith}, lemmas.{Grind.{common_steps}, List.FromFn.{map-range_with_len_more}}}
use Rattle.tariff_compile.specs.Common.{supplement_of, tree_of}
use Rattle.tariff_compile.proofs.choices.all_supplements.Goals as goal

pub loop-place-preserved : goal.loop-place-preserved
loop-place-preserved c =
    let more = map-range_with_len_more
    (λ (place : ℕ). supplement_of (tree_of c.args.checked.now).lines (place + 1)) 0 c.loop-place.place
    c.loop-place.place (omega arith) in
    grind (arith, common_steps, more)
