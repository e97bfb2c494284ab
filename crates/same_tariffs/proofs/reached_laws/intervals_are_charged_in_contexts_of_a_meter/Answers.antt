use Rattle.same_tariffs.proofs.{MeterContexts.{agree-self, charged-in, hired-in}, Runs.{run-within}}
use Rattle.same_tariffs.proofs.reached_laws.intervals_are_charged_in_contexts_of_a_meter.Goals as goal

pub returns : goal.returns
returns c = record {
  reached = λ t s durable events range timely on. run-within s durable events (agree-self t s range) timely on;
  interval = λ t s m range within. charged-in t s m range within.placed within.ticks;
  hiring = λ t s m range within. hired-in t s m range within.placed;
}
