use Rattle.std.proofs.Common.{◌++◌, ◌+◌, ◌≡◌, ◌≤◌, drop, map}
use Rattle.bench_commands.specs.{Common.{story_of}, ExplainedText.{numbered_texts}, StoryText.{story_text}}
use Rattle.bench_commands.proofs.story_text.push_stories.Given as goal

-- the stories so far, and those that are left
abbrev pub invariant-loop-story : goal.invariant-loop-story
invariant-loop-story l = record {
  text : l.text.items
      ++ numbered_texts (story_text l.decimals) (l.number + 1) (map story_of (drop l.story-index l.stories))
      ≡ l.fn.text.items ++ numbered_texts (story_text l.decimals) 1 (map story_of l.stories);
  count : l.number ≤ l.story-index;
}
