use Rattle.std.proofs.Common.{ℕ, ◌∙◌, ap, subst, sym}
use Rattle.{taxi_units.specs.declared.receipt.Kind.TheVariants.{Closed}, meter_states.proofs.Powered.{amid-closes}}
use Rattle.meter_states.specs.{Common.{IsSecond, Outcome, closed}, Core.{ComesToOutcome, CoreData}}
use Rattle.meter_states.proofs.Pushes.{few-none}
use Rattle.meter_states.proofs.meter_state.State.clear.Goals as goal

pub close-requires : goal.close-requires
close-requires g c = record {
  lawful = amid-closes c.requires.ready.lawful;
  trip = c.requires.trip;
  closing = record {
    kind = λ is. cc;
    finish = subst IsSecond (sym (c.second.ensures ∙ ap (λ (p : CoreData). p.clock) c.self.view_is))
        c.requires.ready.lawful.clock;
  };
  room = few-none 1 c.args.acts.now.items c.requires.ready.room;
}

pub returns-clause-stage : goal.returns-clause-stage
returns-clause-stage g c = record {
  lawful = c.close.ensures.lawful;
  few = rw c.requires.ready.room at c.close.ensures.few;
  roam = c.close.ensures.roam;
  ranges = c.close.ensures.stage.ranges;
  follows = λ s m is e.
      subst (λ (o : Outcome). ComesToOutcome s c.close.new.self c.args.acts.now.items c.close.new.acts.items o)
      (ap (λ (n : ℕ). closed s Closed n m) (c.second.ensures ∙ ap (λ (p : CoreData). p.clock) (c.self.view_is ∙ e)))
      (c.close.ensures.stage.follows s m is e);
}

pub returns-clause-steps : goal.returns-clause-steps
returns-clause-steps g c = c.close.ensures.steps
