use Rattle.std.proofs.Common.{◌++◌, ◌≡◌, drop, flat_map}
use Rattle.bench_commands.specs.StoryText.{moment_text}
use Rattle.bench_commands.proofs.story_text.push_moments.Given as goal

-- the lines so far, and those that are left
abbrev pub invariant-loop-moment : goal.invariant-loop-moment
invariant-loop-moment l = record {
  text : l.text.items ++ flat_map (moment_text l.decimals) (drop l.moment-index l.moments)
      ≡ l.fn.text.items ++ flat_map (moment_text l.decimals) l.moments;
}
