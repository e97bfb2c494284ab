use Rattle.std.proofs.Common.{◌∙◌, ◌≤◌, Option, ap, subst, sym}
use Rattle.meter_states.specs.Common.{SoundTariff, Supplement, amount_in, most_in, supplement_numbered}
use Rattle.meter_states.proofs.TableSupplements.{bounded, supplement-in, supplement-number}
use Rattle.meter_states.proofs.lookups.find_supplement.Goals as goal

pub returns : goal.returns
returns g c =
    let t = c.supplement.ensures.compiled.0 in
    let is = c.supplement.ensures.compiled.1 in
    let value = c.supplement.ensures.tree t is ∙ sym (supplement-in t c.args.tables.now c.args.number is) in
    record {
      setting = λ s is.
          c.supplement.ensures.tree is.tree is.compiled
          ∙ ap (λ (t : SoundTariff). supplement_numbered t.supplements c.args.number) (sym is.parts);
      value = value;
      number = λ some.
          supplement-number t c.args.number is.writable (λ none. some (c.supplement.ensures.tree t is ∙ none));
      amount = subst (λ (o : Option Supplement). amount_in o ≤ 1000000) (sym value)
          ((bounded c.args.tables.now c.supplement.ensures.compiled).amount c.args.number);
      most = subst (λ (o : Option Supplement). most_in o ≤ 99) (sym value)
          ((bounded c.args.tables.now c.supplement.ensures.compiled).most c.args.number);
      steps = c.supplement.ensures.steps;
    }
