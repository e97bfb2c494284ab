use Rattle.std.proofs.Common.{ℕ, ◌+◌, ◌-◌, ◌<◌, ◌∙◌, ◌≡◌, Option, Some, ap, arith, get_or, length, rules, set, subst}
use Rattle.{std.proofs.{Common.{sym}, Math.ListN.{length-set}}, meter_states.specs.Supplements.{supplement_in}}
use Rattle.meter_states.specs.{Common.{Supplement, amount_in, most_in, supplement_numbered}, Lawful.{AreExtrasInRange}}
use Rattle.meter_states.proofs.{Amounts.{allowed-more, amounts-more}, TableSupplements.{supplement-of-setting}}
use Rattle.meter_states.proofs.Trips.{extra-saved}
use Rattle.meter_states.proofs.trip.add_extra.Goals as goal

pub returns-clause-saved : goal.returns-clause-saved
returns-clause-saved c = λ p s t found is e.
    let n = c.args.number in
    let amount : c.args.supplement.amount ≡ amount_in (supplement_numbered s.tariff.supplements n) =
    ap amount_in (sym found) ∙ ap amount_in (supplement-of-setting s p n is) in
    extra-saved s t n c.args.supplement.amount c.args.trip.now (omega arith) (omega arith) amount e

pub returns-clause-range : goal.returns-clause-range
returns-clause-range c = λ p is range.
    let n = c.args.number in
    let i = n - 1 in
    let counts = c.args.trip.now.extras in
    let same : 1 + i ≡ n = omega arith in
    let found : supplement_in p (1 + i) ≡ Some c.args.supplement = ap (supplement_in p) same ∙ is in
    let most : get_or counts i 0 < most_in (supplement_in p (1 + i)) =
    subst (λ (o : Option Supplement). get_or counts i 0 < most_in o) (sym found) c.requires.few in
    let within : i < length counts = omega (arith, range.extras.sixteen) in
    let sum = amounts-more (supplement_in p) 1 i counts within in
    let amount : amount_in (supplement_in p (1 + i)) ≡ c.args.supplement.amount = ap amount_in found in
    let extras : AreExtrasInRange p (set counts i (get_or counts i 0 + 1))
    (c.args.trip.now.extras_sum + c.args.supplement.amount) =
    record {
      sixteen = omega (arith, length-set {A = ℕ}, range.extras.sixteen);
      allowed = allowed-more (supplement_in p) 1 i counts within most range.extras.allowed;
      amounts = omega (arith, range.extras.amounts, sum, amount);
    } in
    search rules
