use Rattle.std.proofs.Common.{◌∙◌, ◌≤◌, ap, arith, refl, subst, sym}
use Rattle.{tariff_check.specs.SoundLookups.{has_date}, meter_states.specs.{Cache.{sealed_time}, Common.{SoundTariff}}}
use Rattle.meter_states.specs.Core.{CoreData}
use Rattle.meter_states.proofs.meter_state.State.context_on.Goals as goal

pub returns : goal.returns
returns c = record {
  value = λ seal s m cached is stands.
      let core = c.self.view_is ∙ stands in
      rw (
        c.constant.ensures.value ∙ is.tariff.constant,
        ap (λ (p : CoreData). p.position) core,
        ap (λ (p : CoreData). p.zone) core,
        cached.weekday,
        cached.month_day,
        cached.holiday is.tariff.tree is.tariff.compiled ∙ ap (λ (t : SoundTariff). has_date t.holidays
            (sealed_time seal c.args.local.now.second).year (sealed_time seal c.args.local.now.second).month
            (sealed_time seal c.args.local.now.second).date) (sym is.tariff.parts),
        cached.minute,
        c.pulses.ensures.state s m stands,
        c.ticks.ensures.state s m stands,
        is.secured.offsets,
      ) refl;
  exact = λ t has. rw (
    c.constant.ensures.value,
    ap (λ (p : CoreData). p.position) c.self.view_is,
    ap (λ (p : CoreData). p.zone) c.self.view_is,
    c.pulses.ensures.exact t has,
    c.ticks.ensures.exact t has,
  ) refl;
  range = λ seal local.
      let tables = c.args.tables.now in
      let on = c.requires.lawful in
      record {
        constant = c.constant.ensures.value;
        position = subst (λ (p : CoreData). (1 ≤ p.position) × (p.position ≤ tables.positions))
            (sym c.self.view_is) on.position;
        zone = subst (λ (p : CoreData). (1 ≤ p.zone) × (p.zone ≤ tables.zones)) (sym c.self.view_is) on.zone;
        weekday = local.weekdays;
        month_day = local.month_days;
        minute = local.minutes;
        holiday = local.holidays;
        pulses = omega (arith, c.pulses.ensures.range tables on);
        ticks = omega (arith, c.ticks.ensures.range tables on);
      };
}
