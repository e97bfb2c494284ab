use Rattle.std.proofs.Common.{◌∙◌, Bool, ap, if◌then◌else◌, inr, subst, sym}
use Rattle.meter_states.{specs.Common.{Outcome, expired, key_pressed}, proofs.KeyStages.{steps-twelve}}
use Rattle.meter_states.{specs.Core.{ComesToOutcome}, proofs.{Powered.{between-amid}, Pushes.{few-longer}}}
use Rattle.meter_states.proofs.meter_state.State.expire_or_press.Goals as goal

pub expire-requires : goal.expire-requires
expire-requires g c = record {
  lawful = c.requires.lawful;
  trip = c.is_long.ensures.long c.if-is_long.true;
  room = c.requires.room;
}

pub press-requires : goal.press-requires
press-requires g c = record {
  ready = record {
    lawful = c.is_long.ensures.short c.args.tables.now c.requires.lawful c.if-is_long.false;
    room = c.requires.room;
  };
}

pub returns-then-is_long : goal.returns-then-is_long
returns-then-is_long g c = record {
  stage =
      let stage = c.expire.ensures.stage in
      record {
        lawful = between-amid stage.lawful;
        few = stage.few;
        roam = inr stage.roam;
        ranges = stage.ranges;
        follows = λ s m is e.
            let long = sym (c.is_long.ensures.state s m e) ∙ c.if-is_long.true in
            subst (λ (o : Outcome). ComesToOutcome s c.expire.new.self c.args.acts.now.items c.expire.new.acts.items o)
            (ap (λ (b : Bool). if b then expired s m else key_pressed s m) (sym long)) (stage.follows s m is e);
      };
  steps = steps-twelve c.expire.new.steps c.args.steps.now c.args.self.now.operating c.expire.ensures.steps;
}

pub returns-else-is_long-clause-stage : goal.returns-else-is_long-clause-stage
returns-else-is_long-clause-stage g c =
    let stage = c.press.ensures.stage in
    record {
      lawful = stage.lawful;
      few = few-longer c.press.new.acts.items stage.few;
      roam = stage.roam;
      ranges = stage.ranges;
      follows = λ s m is e.
          let short = sym (c.is_long.ensures.state s m e) ∙ c.if-is_long.false in
          subst (λ (o : Outcome). ComesToOutcome s c.press.new.self c.args.acts.now.items c.press.new.acts.items o)
          (ap (λ (b : Bool). if b then expired s m else key_pressed s m) (sym short)) (stage.follows s m is e);
    }

pub returns-else-is_long-clause-steps : goal.returns-else-is_long-clause-steps
returns-else-is_long-clause-steps g c = c.press.ensures.steps
