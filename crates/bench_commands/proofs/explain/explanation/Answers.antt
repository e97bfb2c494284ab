use Rattle.bench_commands.specs.Explain.{explanation_text}
use Rattle.bench_commands.proofs.explain.explanation.Goals as goal

pub returns-in-Err : goal.returns-in-Err
returns-in-Err g c = λ image. (c.in-Err.ensures.reads explanation_text image).refused

pub returns-in-Ok-explained_by : goal.returns-in-Ok-explained_by
returns-in-Ok-explained_by g c = λ image.
    rw c.in-Ok-explained_by.ensures (c.in-Ok.ensures.reads explanation_text image).makes
