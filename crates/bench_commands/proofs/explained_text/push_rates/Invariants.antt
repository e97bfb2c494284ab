use Rattle.std.proofs.Common.{◌++◌, ◌≡◌, drop, flat_map}
use Rattle.bench_commands.specs.ExplainedText.{rate_text}
use Rattle.bench_commands.proofs.explained_text.push_rates.Given as goal

-- the lines so far, and those that are left
abbrev pub invariant-loop-group : goal.invariant-loop-group
invariant-loop-group l = record {
  text : l.text.items ++ flat_map (rate_text l.scale) (drop l.group-index l.groups)
      ≡ l.fn.text.items ++ flat_map (rate_text l.scale) l.groups;
}
