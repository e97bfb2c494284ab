use Rattle.std.proofs.{Common.{◌∙◌, ◌≡◌, pos, subst, sym}, lemmas.List.{take_all, take_more}}
use Rattle.interval_clock.specs.Offsets.{IsOffsetList}
use Rattle.interval_clock.proofs.offsets.Offsets.from_pairs.Goals as goal

pub loop-pair-preserved : goal.loop-pair-preserved
loop-pair-preserved c =
    let more = take_more c.args.pairs.now c.loop-pair.pair-index (0, pos 0) c.loop-pair-test.true in
    cc

-- at the end all pairs were kept
all_kept : (c : goal.After-loop-pair) → c.loop-pair.kept.items ≡ c.args.pairs.now
all_kept c = c.loop-pair.invariant ∙ take_all c.loop-pair.pair-index c.args.pairs.now c.loop-pair-test.false

pub invariant_of-result : goal.invariant_of-result
invariant_of-result c = subst IsOffsetList (sym (all_kept c)) c.in_default.ensures

pub returns-clause-value : goal.returns-clause-value
returns-clause-value c = all_kept c
