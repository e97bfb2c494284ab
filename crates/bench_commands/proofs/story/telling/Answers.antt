use Rattle.bench_commands.specs.Story.{telling_text}
use Rattle.bench_commands.proofs.story.telling.Goals as goal

pub returns-in-Err : goal.returns-in-Err
returns-in-Err g c = λ image. (c.in-Err.ensures.reads telling_text image).refused

pub returns-in-Ok-told_by : goal.returns-in-Ok-told_by
returns-in-Ok-told_by g c = λ image.
    rw c.in-Ok-told_by.ensures (c.in-Ok.ensures.reads telling_text image).makes
