use Rattle.std.proofs.Common.{◌++◌, ◌≡◌, drop, flat_map}
use Rattle.bench_commands.specs.ExplainedText.{taken_text}
use Rattle.bench_commands.proofs.explained_text.push_taken.Given as goal

-- the lines so far, and those that are left
abbrev pub invariant-loop-supplement : goal.invariant-loop-supplement
invariant-loop-supplement l = record {
  text : l.text.items ++ flat_map (taken_text l.decimals) (drop l.supplement-index l.taken)
      ≡ l.fn.text.items ++ flat_map (taken_text l.decimals) l.taken;
}
