use Rattle.std.proofs.Common.{◌∙◌, None, Option, ap, arith, option_map, subst, sym}
use Rattle.{meter_model.specs.Trip.{core_trip_in}, meter_states.specs.Common.{Trip, hold_taken}}
use Rattle.meter_states.{specs.Core.{ComesToOutcome}, proofs.{Outcomes.{quiet-follows}, Pushes.{few-none}}}
use Rattle.meter_states.proofs.meter_state.State.take_hold.Goals as goal

pub take_held-requires : goal.take_held-requires
take_held-requires g c = record {
  ready = c.requires.ready;
  second = c.requires.second;
  held = c.requires.hold _ c.in-Some.is;
}

pub returns-in-Some : goal.returns-in-Some
returns-in-Some g c = record {
  lawful = c.take_held.ensures.lawful;
  few = c.take_held.ensures.few;
  stage = record {
    ranges = c.take_held.ensures.stage.ranges;
    follows = λ s m is saved e.
        subst (λ (o : Option Trip). ComesToOutcome s c.take_held.new.self c.args.acts.now.items
        c.take_held.new.acts.items
        (hold_taken s c.args.second o m)) (sym c.in-Some.is)
        (c.take_held.ensures.stage.follows s m is (ap (option_map core_trip_in) (sym c.in-Some.is) ∙ saved) e);
  };
  steps = c.take_held.ensures.steps;
}

pub returns-in_default : goal.returns-in_default
returns-in_default g c = record {
  lawful = c.requires.ready.lawful;
  few = few-none 2 c.args.acts.now.items c.requires.ready.room;
  stage = record {
    ranges = λ before. before;
    follows = λ s m is saved e.
        subst (λ (o : Option Trip). ComesToOutcome s c.args.self.now c.args.acts.now.items c.args.acts.now.items
        (hold_taken s c.args.second o m)) (sym c.in_default.is)
        (quiet-follows s c.args.self.now c.args.acts.now.items (record m { trip = None }) e);
  };
  steps = omega arith;
}
