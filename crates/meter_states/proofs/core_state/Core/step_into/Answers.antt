use Rattle.std.proofs.Common.{[], ℕ, ◌++◌, ◌∙◌, ◌∷◌, ◌≡◌, All, List, ap, arith, refl, subst, sym}
use Rattle.{std.proofs.lemmas.List.Elements.{All-cons, All-nil}, meter_states.specs.Common.{Act, NotNow, Refuse}}
use Rattle.meter_states.{specs.Acts.{IsLawfulAct, KeepsRanges}, proofs.Outcomes.{not_off, off-meets, on-meets}}
use Rattle.meter_states.{specs.Cache.{CachedCore}, proofs.{ActRanges.{acts-keep}, Powered.{powered-on}}}
use Rattle.meter_states.specs.Core.{CoreData}
use Rattle.meter_states.proofs.core_state.Core.step_into.Goals as goal

pub returns-then-is_off-clause-takes : goal.returns-then-is_off-clause-takes
returns-then-is_off-clause-takes g c =
    let n = c.args.self.now.state.number in
    let acts = c.refuse.ensures ∙ ap (λ (before : List Act). before ++ Refuse NotNow ∷ []) c.requires.empty in
    record {
      lawful = c.requires.ready.lawful;
      ranges = subst (All (IsLawfulAct c.args.tables.now n)) (sym acts)
          (All-cons (IsLawfulAct c.args.tables.now n) (Refuse NotNow) [] tt (All-nil
          (IsLawfulAct c.args.tables.now n)));
      commits = λ durable range same. subst (All (KeepsRanges durable)) (sym acts)
          (All-cons (KeepsRanges durable) (Refuse NotNow) [] tt (All-nil (KeepsRanges durable)));
      meets = λ s m is stands.
          let off = sym (ap (λ (w : CachedCore). w.state.operating) c.self.view_is) ∙ c.if-is_off.ensures.0 refl in
          off-meets s c.args.self.now.state c.refuse.new.acts.items c.args.event m off
          (λ second. c.requires.ready.supply second off) acts stands;
    }

pub returns-clause-takes : goal.returns-clause-takes
returns-clause-takes g c =
    let p = c.args.tables.now in
    let n = c.self.inside.state.number in
    let is : n ≡ c.args.self.now.state.number = ap (λ (w : CachedCore). w.state.number) c.self.view_is in
    let none : All (IsLawfulAct p n) c.args.acts.now.items = rw c.requires.empty (λ k d below. absurd (omega arith)) in
    let ranges = c.take_event.ensures.ranges none in
    record {
      lawful = record { powered = c.take_event.ensures.lawful; cache = c.take_event.ensures.cache };
      ranges = subst (λ (number : ℕ). All (IsLawfulAct p number) c.take_event.new.acts.items) is ranges;
      commits = λ durable range same. acts-keep p n c.take_event.new.acts.items ranges durable range (same ∙ sym is);
      meets = λ s m is stands.
          let view = ap (λ (w : CachedCore). w.state) c.self.view_is in
          let on = powered-on c.is_off.result view c.requires.ready.lawful.powered c.is_off.ensures c.if-is_off.false in
          on-meets s c.args.self.now.state c.take_event.new.self c.take_event.new.acts.items c.args.event m
          (λ off. not_off c.self.inside.state.operating c.self.inside.state.trip on.on
          (ap (λ (q : CoreData). q.operating) view ∙ off))
          (λ same. c.take_event.ensures.meets s m is (view ∙ same)) stands;
    }
