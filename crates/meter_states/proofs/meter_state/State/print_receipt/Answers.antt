use Rattle.std.proofs.Common.{[], ◌++◌, ◌∙◌, ◌∷◌, ◌≤◌, ap, subst, sym}
use Rattle.meter_states.{specs.{Common.{Receipt, receipt_of}, Core.{CoreData}}, proofs.Pushes.{few-more, lawful-more}}
use Rattle.meter_states.specs.Lawful.{IsTripBeside}
use Rattle.taxi_units.specs.declared.receipt.Receipt as receipts
use Rattle.meter_states.proofs.meter_state.State.print_receipt.Goals as goal

pub receipt-requires : goal.receipt-requires
receipt-requires g c = record {
  range = subst (λ (p : CoreData).
      IsTripBeside c.args.tables.now p.number 8640000 c.args.trip.now) (sym c.self.view_is) c.requires.trip.range;
  position = subst (λ (p : CoreData). (1 ≤ p.position) × (p.position ≤ 9))
      (sym c.self.view_is) c.requires.trip.position;
  number = subst (λ (p : CoreData). (1 ≤ p.number) × (p.number ≤ 2000000000000001))
      (sym c.self.view_is) c.requires.trip.number;
  closing = c.requires.closing;
}

pub returns : goal.returns
returns g c = record {
  few = few-more c.args.acts.now.items c.push.new.self.items (Receipt c.receipt.result) c.push.ensures.items;
  ranges = λ number.
      lawful-more c.args.tables.now number c.args.acts.now.items c.push.new.self.items
      (Receipt c.receipt.result) c.push.ensures.items c.receipt.ensures.range;
  follows = λ s m t is saved e. record {
    state = e;
    done = c.push.ensures.items
        ∙ ap (λ (r : receipts.Receipt). c.args.acts.now.items ++ Receipt r ∷ [])
        (c.receipt.ensures.value s t is saved ∙ ap (λ (p : CoreData).
        receipt_of s c.args.closing.kind c.args.closing.finish p.position t p.number) (c.self.view_is ∙ e));
  };
  steps = c.receipt.ensures.steps;
}
