use Rattle.std.proofs.{Common.{◌∙◌, ap, arith, subst, sym}, lemmas.Grind.{common_steps}}
use Rattle.meter_states.specs.{Common.{IsSecond}, Core.{CoreData}}
use Rattle.meter_states.proofs.meter_state.State.expire.Goals as goal

pub returns-in-Some-clause-stage : goal.returns-in-Some-clause-stage
returns-in-Some-clause-stage g c = grind (arith, common_steps) steps 4000000

pub returns-in_default-clause-stage : goal.returns-in_default-clause-stage
returns-in_default-clause-stage g c = grind (arith, common_steps) steps 4000000

pub close-requires-clause-closing : goal.close-requires-clause-closing
close-requires-clause-closing g c = record {
  kind = λ is. cc;
  finish = subst IsSecond (sym (c.second.ensures ∙ ap (λ (p : CoreData). p.clock) c.self.view_is))
      c.requires.lawful.clock;
}
