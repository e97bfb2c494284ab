use Rattle.std.proofs.Common.{◌∙◌, arith, subst, sym}
use Rattle.{meter_model.specs.Supply.{resumed}, meter_states.proofs.{Outcomes.{quiet-follows}, Pushes.{few-none}}}
use Rattle.meter_states.specs.{Common.{Outcome}, Core.{ComesToOutcome}}
use Rattle.meter_states.proofs.{Powered.{none-hires}, SupplyStages.{begun-by, held-second, hold-aborted, hold-resumed}}
use Rattle.meter_states.proofs.meter_state.State.take_held.Goals as goal

pub is_within_hold-requires : goal.is_within_hold-requires
is_within_hold-requires g c = held-second c.requires.held.range

pub go_on-requires : goal.go_on-requires
go_on-requires g c = record {
  begun = begun-by c.requires.held.range (c.is_within_hold.ensures.later c.if-is_within_hold.true) c.requires.second;
  new = c.requires.ready.new;
  range = c.requires.held.range;
}

pub returns-then-is_within_hold : goal.returns-then-is_within_hold
returns-then-is_within_hold g c = record {
  lawful = c.go_on.ensures.lawful c.args.tables.now c.requires.ready.lawful
      c.requires.held.fits;
  few = few-none 2 c.args.acts.now.items c.requires.ready.room;
  stage = record {
    ranges = λ before. before;
    follows = λ s m is saved e.
        let held = c.args.held in
        let acts = c.args.acts.now.items in
        let within = sym (c.is_within_hold.ensures.value s is.secured) ∙ c.if-is_within_hold.true in
        subst (λ (o : Outcome). ComesToOutcome s c.go_on.new.self acts acts o)
        (sym (hold-resumed s c.args.second held m within))
        (quiet-follows s c.go_on.new.self acts (resumed held m).next (c.go_on.ensures.state s m saved e));
  };
  steps = omega arith;
}

pub returns-else-is_within_hold : goal.returns-else-is_within_hold
returns-else-is_within_hold g c = record {
  lawful = c.abort.ensures.lawful;
  few = c.abort.ensures.few;
  stage = record {
    ranges = c.abort.ensures.stage.ranges;
    follows = λ s m is saved e.
        let late = sym (c.is_within_hold.ensures.value s is.secured) ∙ c.if-is_within_hold.false in
        subst (λ (o : Outcome). ComesToOutcome s c.abort.new.self c.args.acts.now.items c.abort.new.acts.items o)
        (sym (hold-aborted s c.args.second c.args.held m late)) (c.abort.ensures.stage.follows s m is saved e);
  };
  steps = c.abort.ensures.steps;
}

pub abort-requires : goal.abort-requires
abort-requires g c = record {
  ready = c.requires.ready;
  hire = none-hires c.args.self.now.operating c.args.self.now.trip c.requires.ready.lawful.on c.requires.ready.new.1;
  held = c.requires.held;
}
