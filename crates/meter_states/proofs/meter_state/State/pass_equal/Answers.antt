use Rattle.std.proofs.Common.{[], ◌*◌, ◌+◌, ◌∙◌, ◌≡◌, ◌≤◌, Some, ap, arith, inl, inr, subst, sym}
use Rattle.{std.proofs.{Math.Nat.{mul-le-mul_left}, lemmas.Bool.{cases_lt}}, meter_states.specs.EqualStages.{passed}}
use Rattle.{tariff_compile.proofs.Laws.{tables_are_fit}, meter_states.proofs.EqualIntervals.{stopped-equal, taken-none}}
use Rattle.meter_states.{specs.{Common.{CoreTrip, quiet, run}, Equals.{intervals_of}}, proofs.Outcomes.{quiet-follows}}
use Rattle.meter_states.{specs.Core.{ComesToOutcome, CoreData}, proofs.Powered.{trip-beside, trip-in, trip-taken}}
use Rattle.meter_states.proofs.Settings.{modulus-some}
use Rattle.meter_states.proofs.meter_state.State.pass_equal.Goals as goal

pub returns : goal.returns
returns c = record {
  taken = λ tables on.
      let n = c.min-n.result in
      let value = c.add_passed.ensures.value in
      let beside = trip-beside c.self.view_is c.in-Some.is on in
      let few : n * c.args.pulses ≤ n * 2000 = mul-le-mul_left n c.requires.pulses in
      let pulses = ap (λ (x : CoreTrip). x.pulses) value in
      let ticks = ap (λ (x : CoreTrip). x.ticks) value in
      record {
        lawful = trip-taken c.self.view_is c.in-Some.is (ap (λ (x : CoreTrip). x.started) value)
            (record {
              range = c.add_passed.ensures.range tables beside.range;
              pulses = omega (arith, beside.pulses, few, pulses, ticks);
            }) on;
        most = omega (arith, c.min-n.ensures);
        same = (ap (λ (q : CoreData). q.operating) c.self.view_is, ap (λ (q : CoreData). q.number) c.self.view_is);
      };
  full = elim (cases_lt c.min-n.result c.args.count) [
    | inl fewer ↦ inr (λ more.
        let same : c.add_passed.new.trip ≡ more.trip = cc in
        let ticks = ap (λ (x : CoreTrip). x.ticks) (sym same ∙ c.add_passed.ensures.value) in
        omega (arith, fewer, c.min-n.ensures, ticks, more.short))
    | inr all ↦ inl (omega (arith, all, c.min-n.ensures))
  ];
  follows = λ tables seal on still s m is e.
      let core = c.args.self.now in
      let p = c.args.pulses in
      let n = c.min-n.result in
      let t = c.in-Some.trip in
      let some = modulus-some s tables is.tariff (tables_are_fit tables on.compiled) in
      let has = trip-in c.self.view_is c.in-Some.is in
      let range = trip-beside c.self.view_is c.in-Some.is on in
      let short : t.ticks + n ≤ 8639999 = omega (arith, c.min-n.ensures, range.range.ticks) in
      let all = stopped-equal s tables p n m core t is.tariff some c.requires.pulses e c.requires.stopped has still
      on.roam short in
      rw c.add_passed.ensures.value (subst (λ (x : CoreData). ComesToOutcome s
      (record x { trip = Some (passed p n t) }) [] [] (run s (intervals_of p n) m)) (sym c.self.view_is) all);
}

pub returns-in_default-clause-taken : goal.returns-in_default-clause-taken
returns-in_default-clause-taken c = λ tables on. taken-none c.args.count c.self.view_is on

pub returns-in_default-clause-follows : goal.returns-in_default-clause-follows
returns-in_default-clause-follows c = λ tables seal on still s m is e. subst (λ (x : CoreData). ComesToOutcome s x [] []
    (quiet m)) (sym c.self.view_is) (quiet-follows s c.args.self.now [] m e)
