use Rattle.std.proofs.Common.{[], ◌∙◌, ◌≡◌, ◌⊎◌, ap, inr, refl, subst, sym}
use Rattle.meter_states.specs.{Cache.{CachedCore, IsCacheOf}, Common.{roaming_between, run}, Core.{CoreData}}
use Rattle.meter_states.specs.Equals.{MayGo, intervals_of}
use Rattle.meter_states.proofs.{Outcomes.{follows-meets, not_off}, Powered.{powered-on, stands-on}}
use Rattle.meter_states.proofs.core_state.Core.equal_intervals.Goals as goal

pub returns-then-count-eq0-clause-lawful : goal.returns-then-count-eq0-clause-lawful
returns-then-count-eq0-clause-lawful c = c.requires.lawful

pub returns-then-count-eq0-clause-same : goal.returns-then-count-eq0-clause-same
returns-then-count-eq0-clause-same c = (refl, refl)

pub returns-then-count-eq0-clause-meets : goal.returns-then-count-eq0-clause-meets
returns-then-count-eq0-clause-meets c = λ s m is stands. record { state = stands; done = refl }

pub take_equal-requires-clause-lawful : goal.take_equal-requires-clause-lawful
take_equal-requires-clause-lawful c = powered-on c.is_off.result
    (ap (λ (w : CachedCore). w.state) c.self.view_is) c.requires.lawful.powered c.is_off.ensures c.if-is_off.false

pub take_equal-requires-clause-cache : goal.take_equal-requires-clause-cache
take_equal-requires-clause-cache c = subst (λ (w : CachedCore). IsCacheOf c.args.tables.now c.args.seal.now w.cache)
    (sym c.self.view_is) c.requires.lawful.cache

pub returns : goal.returns
returns c = record {
  lawful = record {
    powered = inr c.take_equal.ensures.taken.lawful;
    cache = subst (λ (w : CachedCore). IsCacheOf c.args.tables.now c.args.seal.now w.cache)
        (sym c.self.view_is) c.requires.lawful.cache;
  };
  most = c.take_equal.ensures.taken.most;
  full = subst (λ (w : CachedCore). (c.take_equal.result ≡ c.args.count)
      ⊎ (MayGo c.args.tables.now c.args.seal.now w.cache c.args.pulses c.take_equal.new.self → ⊥))
      c.self.view_is c.take_equal.ensures.full;
  same = (
    c.take_equal.ensures.taken.same.0 ∙ ap (λ (w : CachedCore). w.state.operating) c.self.view_is,
    c.take_equal.ensures.taken.same.1 ∙ ap (λ (w : CachedCore). w.state.number) c.self.view_is,
  );
  cache = ap (λ (w : CachedCore). w.cache) c.self.view_is;
  meets = λ s m is stands.
      let view = ap (λ (w : CachedCore). w.state) c.self.view_is in
      let on = powered-on c.is_off.result view c.requires.lawful.powered c.is_off.ensures c.if-is_off.false in
      let e = stands-on s c.args.self.now.state m stands (λ off. not_off c.self.inside.state.operating
      c.self.inside.state.trip on.on (ap (λ (p : CoreData). p.operating) view ∙ off)) in
      follows-meets s c.args.tables.now 8639999 roaming_between 0 c.take_equal.new.self []
      (run s (intervals_of c.args.pulses c.take_equal.result) m) c.take_equal.ensures.taken.lawful
      (c.take_equal.ensures.follows s m is (view ∙ e));
}
