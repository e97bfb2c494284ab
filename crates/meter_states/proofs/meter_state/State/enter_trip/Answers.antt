use Rattle.std.proofs.Common.{[], ◌++◌, ◌+◌, ◌∙◌, ◌∷◌, ◌≤◌, ap, arith, subst, sym}
use Rattle.meter_states.specs.Common.{Enter, entry_of_trip, last_number}
use Rattle.meter_states.{specs.Core.{CoreData}, proofs.Pushes.{closing-room, few-more, lawful-more}}
use Rattle.totals_record.specs.declared.entry.Entry as store
use Rattle.meter_states.proofs.meter_state.State.enter_trip.Goals as goal

pub entry-requires : goal.entry-requires
entry-requires c = record {
  range = record {
    range = c.requires.trip.range.range;
    pulses = omega
        (arith, c.requires.trip.range.pulses, c.requires.trip.number);
  };
  position = subst (λ (p : CoreData). (1 ≤ p.position) × (p.position ≤ 9))
      (sym c.self.view_is) c.requires.trip.position;
  kind = c.requires.kind;
}

pub returns : goal.returns
returns c = record {
  number = ap (λ (p : CoreData). record p { number = p.number + 1 }) c.self.view_is;
  few = few-more c.args.acts.now.items c.push.new.self.items (Enter c.entry.result) c.push.ensures.items;
  ranges = lawful-more c.args.tables.now c.args.self.now.number c.args.acts.now.items c.push.new.self.items
      (Enter c.entry.result) c.push.ensures.items
      (record {
        room = c.requires.trip.number;
        range = c.entry.ensures.range;
        roaming = closing-room (c.args.self.now.number + 1 ≤ last_number) c.entry.result c.args.kind
            c.entry.ensures.kind
            c.requires.kind;
      });
  follows = λ s m t is saved e. record {
    state = ap (λ (p : CoreData). record p { number = p.number + 1 }) (c.self.view_is ∙ e);
    done = c.push.ensures.items
        ∙ ap (λ (x : store.Entry). c.args.acts.now.items ++ Enter x ∷ [])
        (c.entry.ensures.value s t is saved ∙ ap (λ (p : CoreData). entry_of_trip s c.args.kind p.position t)
        (c.self.view_is
        ∙ e));
  };
}
