use Rattle.std.proofs.{Common.{[], ◌++◌, ◌∙◌, ◌∷◌, ◌≡◌, List, OnOk, ap, refl, rules, sym}, lemmas.Result.{on_ok_weaker}}
use Rattle.verify_bench.{specs.Common.{Kind, Moment, Story}, proofs.StoryLists.{adds_end, adds_moment}}
use Rattle.verify_bench.specs.Story.{HiringStory}
use Rattle.verify_bench.proofs.stories.Stories.add.Goals as goal

story_is : {before after : List Moment} (kind : Kind) → before ≡ after
    → (let first : HiringStory = record { kind = kind; moments = before } in
    let second : HiringStory = record { kind = kind; moments = after } in first ≡ second)
story_is kind same = rw same refl

pub returns-in-None : goal.returns-in-None
returns-in-None c =
    let old = c.args.self.now in
    let pushed : c.push.new.self.items ≡ old.begun.items ++ c.args.moment ∷ [] = search rules in
    adds_moment c.args.moment old (record old { begun = c.push.new.self }) (sym c.kind_in.ensures ∙ c.in-None.is) refl
    pushed

pub returns-in-Some : goal.returns-in-Some
returns-in-Some c =
    let old = c.args.self.now in
    let kind = c.in-Some.kind in
    let story : Story = record { kind = kind; moments = c.replace-moments.result } in
    let pushed : c.push.new.self.items ≡ old.begun.items ++ c.args.moment ∷ [] = search rules in
    let moments : c.replace-moments.result.items ≡ old.begun.items ++ c.args.moment ∷ [] =
    ap (λ (v : _). v.items) c.replace-moments.ensures.value ∙ pushed in
    let none : c.replace-moments.new.dest.items ≡ [] =
    ap (λ (v : _). v.items) c.replace-moments.ensures.after ∙ c.new.ensures.items in
    let grown : OnOk c.map_err-in-Some.result (c.push-in-Some.new.self.items ≡ old.closed.items ++ story ∷ []) =
    search rules in
    on_ok_weaker c.map_err-in-Some.result (λ closed. adds_end c.args.moment kind old
    (record { closed = c.push-in-Some.new.self; begun = c.replace-moments.new.dest }) story
    (sym c.kind_in.ensures ∙ c.in-Some.is) closed
    (story_is kind moments) none) grown
