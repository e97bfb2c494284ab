use Rattle.std.proofs.Common.{[], ◌++◌, ◌+◌, ◌∙◌, ◌∷◌, ◌≤◌, ap, subst, sym}
use Rattle.{meter_model.specs.ClosedTrip.{roaming_entry}, meter_states.specs.Common.{Enter, roaming_amid}}
use Rattle.meter_states.specs.{Core.{CoreData}, Lawful.{IsBetweenEvents}}
use Rattle.meter_states.proofs.{Powered.{powered-entered, roaming-beside, roaming-room}, Pushes.{few-more, lawful-more}}
use Rattle.totals_record.specs.declared.entry.Entry as store
use Rattle.meter_states.proofs.meter_state.State.enter_roaming.Goals as goal

pub roaming_entry-requires : goal.roaming_entry-requires
roaming_entry-requires c = subst (λ (p : CoreData). p.roam ≤ roaming_amid) (sym c.self.view_is) c.requires.lawful.roam

pub returns : goal.returns
returns c = record {
  lawful = subst (λ (q : CoreData). IsBetweenEvents c.args.tables.now (record q { roam = 0; number = q.number + 1 }))
      (sym c.self.view_is)
      (powered-entered c.requires.hire c.requires.some c.requires.lawful);
  few = few-more c.args.acts.now.items c.push.new.self.items (Enter c.roaming_entry.result) c.push.ensures.items;
  ranges =
      let room = roaming-room c.requires.some c.requires.lawful in
      lawful-more c.args.tables.now c.args.self.now.number c.args.acts.now.items c.push.new.self.items
      (Enter c.roaming_entry.result) c.push.ensures.items
      (record {
        room = roaming-beside c.args.self.now.number room;
        range = c.roaming_entry.ensures.range;
        roaming = λ roams. room;
      });
  follows = λ seal s m is e. record {
    state = ap (λ (p : CoreData). record p { roam = 0; number = p.number + 1 }) (c.self.view_is ∙ e);
    done = c.push.ensures.items
        ∙ ap (λ (x : store.Entry). c.args.acts.now.items ++ Enter x ∷ [])
        (c.roaming_entry.ensures.value s is.tariff ∙ ap (λ (p : CoreData). roaming_entry s p.roam) (c.self.view_is
        ∙ e));
  };
}
