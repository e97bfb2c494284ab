use Rattle.std.proofs.{Common.{◌<◌, ◌∙◌, Some, ap, arith, subst, sym}, lemmas.Grind.{common_steps}}
use Rattle.meter_states.specs.Common.{CoreTrip, Outcome, extra_added_to, times, with_extra}
use Rattle.meter_states.{specs.Core.{ComesToOutcome, CoreData, core_of}, proofs.Outcomes.{quiet-follows, trip-saved}}
use Rattle.meter_states.proofs.KeyStages.{extra-more}
use Rattle.meter_states.proofs.{Powered.{trip-beside, trip-taken}, Pushes.{few-none}, TableSupplements.{extras-few}}
use Rattle.meter_states.proofs.meter_state.State.add_found.Goals as goal

pub add_extra-requires-clause-sum : goal.add_extra-requires-clause-sum
add_extra-requires-clause-sum c =
    let beside = trip-beside c.self.view_is c.in-Some.is c.requires.ready.1.lawful in
    extras-few c.requires.ready.0 8639999 c.in-Some.trip beside.range

pub returns : goal.returns
returns c = record {
  stage = λ tables seal ready found.
      let t = c.in-Some.trip in
      let u = c.add_extra.new.trip in
      let view = c.self.view_is in
      let acts = c.args.acts.now.items in
      let beside = trip-beside view c.in-Some.is ready.lawful in
      let counts = c.add_extra.ensures.counts in
      record {
        lawful = trip-taken view c.in-Some.is c.add_extra.ensures.started
            (record {
              range = c.add_extra.ensures.range tables found beside.range;
              pulses = omega (arith, beside.pulses, counts.0, counts.1);
            }) ready.lawful;
        few = few-none 1 acts ready.room;
        number = ap (λ (q : CoreData). q.number) view;
        ranges = λ before. before;
        follows = λ s m is e.
            let saved = trip-saved s m.trip t (sym (ap (λ (p : CoreData). p.trip) (view ∙ e)) ∙ c.in-Some.is) in
            let few : times c.args.n saved.0.extras < c.args.supplement.max = subst (λ n. n < c.args.supplement.max)
            (c.times.ensures.times s saved.0 saved.2) c.if-times-supplement.false in
            let more = c.add_extra.ensures.saved tables s saved.0 found is.tariff saved.2 in
            let now = c.args.self.now in
            let state = ap (λ (q : CoreData). record q { trip = Some u }) e
            ∙ ap (λ (x : CoreTrip). record (core_of s m) { trip = Some x }) more in
            let added = quiet-follows s (record now { trip = Some u }) acts
            (record m { trip = Some (with_extra c.args.n saved.0) }) state in
            let all = subst (λ (o : Outcome). ComesToOutcome s (record now { trip = Some u }) acts acts o)
            (sym (extra-more c.args.n c.args.supplement m saved.0 saved.1 few)) added in
            subst (λ (q : CoreData). ComesToOutcome s (record q { trip = Some u }) acts acts
            (extra_added_to c.args.n c.args.supplement m.trip m)) (sym view) all;
      };
}

pub returns-then-times-supplement : goal.returns-then-times-supplement
returns-then-times-supplement c = grind (arith, common_steps) steps 4000000
