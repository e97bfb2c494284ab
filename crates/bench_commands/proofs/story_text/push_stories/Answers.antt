use Rattle.std.proofs.Common.{◌++◌, ◌+◌, ◌∙◌, ap, arith, map}
use Rattle.{verify_bench.specs.declared.moment.Story.{Story}, bench_commands.specs.StoryText.{story_text}}
use Rattle.bench_commands.specs.Common.{story_of}
use Rattle.bench_commands.{specs.ExplainedText.{numbered_texts}, proofs.TextsInTurn.{numbered_all, numbered_more}}
use Rattle.bench_commands.proofs.story_text.push_stories.Goals as goal

pub loop-story-preserved : goal.loop-story-preserved
loop-story-preserved c =
    let line = story_text c.args.decimals in
    let list = c.args.stories.now in
    let all = c.args.text.now.items ++ numbered_texts line 1 (map story_of list) in
    let number = c.loop-story.number in
    record {
      text = numbered_more line story_of list all c.loop-story.story-index number c.story-item.result
          c.loop-story.text.items _ (omega (arith, c.loop-story-test.true)) c.loop-story.invariant.text
          (c.in_ok-push_story.ensures
          ∙ ap (λ (x : Story). c.loop-story.text.items ++ line (number + 1) (story_of x)) c.story-item.is);
      count = omega (arith, c.loop-story.invariant.count);
    }

pub returns : goal.returns
returns c =
    let line = story_text c.args.decimals in
    let list = c.args.stories.now in
    numbered_all line story_of list (c.args.text.now.items ++ numbered_texts line 1 (map story_of list))
    c.loop-story.story-index (c.loop-story.number + 1) c.loop-story.text.items
    (omega (arith, c.loop-story-test.false)) c.loop-story.invariant.text
