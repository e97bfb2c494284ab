use Rattle.std.proofs.{Common.{◌<◌, ◌∙◌, ◌≡◌, ◌≤◌, ap, arith, length, subst, sym}, lemmas.Grind.{common_steps}}
use Rattle.meter_states.specs.Common.{ForHire, Outcome}
use Rattle.meter_states.{specs.Core.{ComesToOutcome, CoreData}, proofs.RoamingStages.{room-three}}
use Rattle.meter_states.proofs.RoamingStages.{amid-enters, checked-many, few-entered, lawful-entered, many-some}
use Rattle.meter_states.proofs.meter_state.State.check_roaming.Goals.{in-ForHire, in_default}
use Rattle.meter_states.proofs.meter_state.State.check_roaming.Goals as goal

pub enter_roaming-requires : goal.enter_roaming-requires
enter_roaming-requires c = record {
  lawful = amid-enters c.requires.lawful;
  hire = elim c.match-matches.branch [
    | in-ForHire w ↦ sym (ap (λ (p : CoreData). p.operating) c.self.view_is) ∙ w.in-ForHire.is
    | in_default w ↦ absurd cc
  ];
  some = subst (λ (p : CoreData). 0 < p.roam) c.self.view_is (many-some c.self.inside.roam
      c.if-self-ge-ROAMING_MOST.true);
  room = room-three (length c.args.acts.now.items) c.args.self.now.roam c.requires.room;
}

pub returns-then-self-ge-ROAMING_MOST : goal.returns-then-self-ge-ROAMING_MOST
returns-then-self-ge-ROAMING_MOST c = record {
  lawful = c.enter_roaming.ensures.lawful;
  few = few-entered (length c.enter_roaming.new.acts.items)
      (length c.args.acts.now.items) c.args.self.now.roam c.requires.room
      (subst (λ (p : CoreData). 1000000 ≤ p.roam) c.self.view_is c.if-self-ge-ROAMING_MOST.true)
      c.enter_roaming.ensures.few;
  ranges = λ number same.
      lawful-entered c.args.tables.now c.args.self.now.number number c.args.self.now.roam c.args.acts.now.items
      c.enter_roaming.new.acts.items same
      (subst (λ (p : CoreData). 1000000 ≤ p.roam) c.self.view_is c.if-self-ge-ROAMING_MOST.true)
      c.enter_roaming.ensures.ranges;
  follows = λ seal s m is e.
      let here : c.self.inside.operating ≡ ForHire =
      elim c.match-matches.branch [ in-ForHire w ↦ w.in-ForHire.is | in_default w ↦ absurd cc ] in
      let hire = sym (ap (λ (p : CoreData). p.operating) (c.self.view_is ∙ e)) ∙ here in
      let many = subst (λ (p : CoreData). 1000000 ≤ p.roam) (c.self.view_is ∙ e) c.if-self-ge-ROAMING_MOST.true in
      subst
      (λ (o : Outcome). ComesToOutcome s c.enter_roaming.new.self c.args.acts.now.items c.enter_roaming.new.acts.items
      o)
      (sym (checked-many s m hire many)) (c.enter_roaming.ensures.follows seal s m is e);
}

pub returns-else-matches-clause-follows : goal.returns-else-matches-clause-follows
returns-else-matches-clause-follows c = grind (arith, common_steps) steps 4000000
