use Rattle.std.proofs.Common.{ℕ, ◌<◌, ◌∙◌, ◌≤◌, ap, subst, sym}
use Rattle.meter_states.{specs.Common.{Aborted, IsSecond, Outcome, closed, last_number}, proofs.Pushes.{few-none}}
use Rattle.meter_states.specs.Core.{ComesToOutcome, CoreData}
use Rattle.meter_states.proofs.{Outcomes.{quiet-follows, trip-saved}, Powered.{none-hires, powered-longer, some-there}}
use Rattle.meter_states.proofs.SupplyStages.{aborted-closes, kept-closed, kept-held, kept-quiet, kept-roams}
use Rattle.meter_states.proofs.meter_state.State.hold_or_close.Goals as goal

pub enter_roaming-requires : goal.enter_roaming-requires
enter_roaming-requires g c = record {
  lawful = c.requires.lawful;
  hire = none-hires c.args.self.now.operating c.args.self.now.trip c.requires.lawful.on
      (sym (ap (λ (p : CoreData). p.trip) c.self.view_is) ∙ c.in-None.is);
  some = subst (λ (p : CoreData). 0 < p.roam) c.self.view_is c.if-self-gt0.true;
  room = few-none 3 c.args.acts.now.items c.requires.room;
}

pub hold-requires : goal.hold-requires
hold-requires g c = record {
  lawful = (c.args.tables.now, c.requires.lawful);
  trip = sym (ap (λ (p : CoreData). p.trip) c.self.view_is) ∙ c.in-Some.is;
  number = subst (λ (p : CoreData). p.number < last_number) c.self.view_is c.if-self-lt-LAST_NUMBER.true;
  room = c.requires.room;
}

pub close-requires : goal.close-requires
close-requires g c = record {
  lawful = powered-longer c.requires.lawful;
  trip = some-there c.in-Some.trip (sym (ap (λ (p : CoreData). p.trip) c.self.view_is) ∙ c.in-Some.is);
  closing = record {
    kind = aborted-closes;
    finish = subst IsSecond (sym (c.second.ensures ∙ ap (λ (p : CoreData). p.clock) c.self.view_is))
        c.requires.lawful.clock;
  };
  room = few-none 1 c.args.acts.now.items c.requires.room;
}

pub returns-then-self-gt0-clause-stage : goal.returns-then-self-gt0-clause-stage
returns-then-self-gt0-clause-stage g c = record {
  ranges = c.enter_roaming.ensures.ranges;
  follows = λ s m is e.
      let none = sym (ap (λ (p : CoreData). p.trip) (c.self.view_is ∙ e)) ∙ c.in-None.is in
      let some = subst (λ (p : CoreData). 0 < p.roam) (c.self.view_is ∙ e) c.if-self-gt0.true in
      subst (λ (o : Outcome).
      ComesToOutcome s c.enter_roaming.new.self c.args.acts.now.items c.enter_roaming.new.acts.items o)
      (sym (kept-roams s m m.trip none some)) (c.enter_roaming.ensures.follows c.args.seal.now s m is e);
}

pub returns-else-self-gt0-clause-stage : goal.returns-else-self-gt0-clause-stage
returns-else-self-gt0-clause-stage g c = record {
  ranges = λ before. before;
  follows = λ s m is e.
      let none = sym (ap (λ (p : CoreData). p.trip) (c.self.view_is ∙ e)) ∙ c.in-None.is in
      let few = subst (λ (p : CoreData). p.roam ≤ 0) (c.self.view_is ∙ e) c.if-self-gt0.false in
      subst (λ (o : Outcome). ComesToOutcome s c.args.self.now c.args.acts.now.items c.args.acts.now.items o)
      (sym (kept-quiet s m m.trip none few)) (quiet-follows s c.args.self.now c.args.acts.now.items m e);
}

pub returns-then-self-lt-LAST_NUMBER-clause-stage : goal.returns-then-self-lt-LAST_NUMBER-clause-stage
returns-then-self-lt-LAST_NUMBER-clause-stage g c = record {
  ranges = c.hold.ensures.ranges c.args.tables.now c.requires.lawful;
  follows = λ s m is e.
      let has =
      trip-saved s m.trip c.in-Some.trip (sym (ap (λ (p : CoreData). p.trip) (c.self.view_is ∙ e)) ∙ c.in-Some.is) in
      let few = subst (λ (p : CoreData). p.number < last_number) (c.self.view_is ∙ e) c.if-self-lt-LAST_NUMBER.true in
      subst (λ (o : Outcome). ComesToOutcome s c.hold.new.self c.args.acts.now.items c.hold.new.acts.items o) (sym
      (kept-held s m has.0 has.1 few)) (c.hold.ensures.follows s m has.0 has.2 e);
}

pub returns-else-self-lt-LAST_NUMBER-clause-stage : goal.returns-else-self-lt-LAST_NUMBER-clause-stage
returns-else-self-lt-LAST_NUMBER-clause-stage g c = record {
  ranges = c.close.ensures.stage.ranges;
  follows = λ s m is e.
      let has =
      trip-saved s m.trip c.in-Some.trip (sym (ap (λ (p : CoreData). p.trip) (c.self.view_is ∙ e)) ∙ c.in-Some.is) in
      let many = subst (λ (p : CoreData). last_number ≤ p.number) (c.self.view_is ∙ e) c.if-self-lt-LAST_NUMBER.false in
      let same = ap (λ (n : ℕ). closed s Aborted n m) (c.second.ensures ∙ ap (λ (p : CoreData). p.clock) (c.self.view_is
      ∙ e)) ∙ sym (kept-closed s m has.0 has.1 many) in
      subst (λ (o : Outcome). ComesToOutcome s c.close.new.self c.args.acts.now.items c.close.new.acts.items o) same
      (c.close.ensures.stage.follows s m is e);
}

pub returns-else-self-lt-LAST_NUMBER-clause-steps : goal.returns-else-self-lt-LAST_NUMBER-clause-steps
returns-else-self-lt-LAST_NUMBER-clause-steps g c = c.close.ensures.steps
