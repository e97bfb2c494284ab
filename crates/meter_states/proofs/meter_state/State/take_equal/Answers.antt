use Rattle.std.proofs.Common.{◌+◌, ◌<◌, ◌∙◌, ◌≤◌, ap, arith, refl, sym}
use Rattle.meter_states.{specs.Common.{ForHire, Hired, Stopped, roaming_most}, proofs.EqualIntervals.{full-in}}
use Rattle.meter_states.specs.{Core.{CoreData}, Equals.{roams}}
use Rattle.meter_states.proofs.meter_state.State.take_equal.Goals as goal

pub returns-in-Hired-clause-full : goal.returns-in-Hired-clause-full
returns-in-Hired-clause-full c =
    full-in c.args.tables.now c.args.seal.now c.args.cache.now c.args.pulses c.charge_equal.new.self Hired
    c.charge_equal.result c.args.count _
    (c.charge_equal.ensures.taken.same.0 ∙ sym (ap (λ (p : CoreData). p.operating) c.self.view_is) ∙ c.in-Hired.is)
    (λ stop go. stop go) c.charge_equal.ensures.full

pub returns-in-ForHire : goal.returns-in-ForHire
returns-in-ForHire c = record {
  taken = c.roam_equal.ensures.taken c.args.tables.now c.requires.lawful;
  full =
      let core = c.roam_equal.new.self in
      let p = c.args.pulses in
      let taken = c.roam_equal.ensures.taken c.args.tables.now c.requires.lawful in
      full-in c.args.tables.now c.args.seal.now c.args.cache.now p core ForHire c.roam_equal.result c.args.count
      (roaming_most ≤ core.roam + roams core.number p)
      (taken.same.0 ∙ sym (ap (λ (p : CoreData). p.operating) c.self.view_is) ∙ c.in-ForHire.is)
      (λ (stop : roaming_most ≤ core.roam + roams core.number p) (go : core.roam + roams core.number p < roaming_most).
      omega (arith, stop, go)) c.roam_equal.ensures.full;
  follows = c.roam_equal.ensures.follows c.args.tables.now c.args.seal.now c.requires.lawful
      (c.if-not-is_still.ensures.0 refl);
}

pub returns-in-Stopped : goal.returns-in-Stopped
returns-in-Stopped c = record {
  taken = c.pass_equal.ensures.taken c.args.tables.now c.requires.lawful;
  full =
      let taken = c.pass_equal.ensures.taken c.args.tables.now c.requires.lawful in
      full-in c.args.tables.now c.args.seal.now c.args.cache.now c.args.pulses c.pass_equal.new.self Stopped
      c.pass_equal.result c.args.count _
      (taken.same.0 ∙ sym (ap (λ (p : CoreData). p.operating) c.self.view_is) ∙ c.in-Stopped.is)
      (λ stop go. stop go) c.pass_equal.ensures.full;
  follows = c.pass_equal.ensures.follows c.args.tables.now c.args.seal.now c.requires.lawful
      (c.if-not-is_still.ensures.0 refl);
}
