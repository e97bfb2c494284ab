use Rattle.std.proofs.Common.{[], ℕ, ◌*◌, ◌+◌, ◌<◌, ◌^◌, ◌∙◌, ◌≡◌, ◌≤◌, ◌⊎◌, Some, ap, arith, inr, refl, subst, sym}
use Rattle.std.proofs.{Math.Nat.{mul-le-mul_left, mul-le-mul_right}, lemmas.Nat.{mul-le}}
use Rattle.{tariff_compile.proofs.Laws.{tables_are_fit}, meter_states.proofs.Powered.{trip-beside, trip-in, trip-taken}}
use Rattle.meter_states.specs.Common.{Context, CoreTrip, Meter, charge_at, context_of, longest_trip, modulus_of, quiet}
use Rattle.meter_states.{specs.Common.{run}, proofs.EqualIntervals.{pulses-few, range-later, taken-none}}
use Rattle.meter_states.{specs.Core.{ComesToOutcome, CoreData, core_of}, proofs.Settings.{modulus-is, modulus-some}}
use Rattle.meter_states.specs.EqualStages.{charged}
use Rattle.meter_states.{specs.Equals.{intervals_of, spare_of}, proofs.Outcomes.{quiet-follows}}
use Rattle.meter_states.proofs.EqualIntervals.{charge-by-weights, charged-full, context-later, hired-equal, near-later}
use Rattle.meter_states.proofs.meter_state.State.charge_equal.Goals as goal

pub returns : goal.returns
returns c =
    let tables = c.args.tables.now in
    let n = c.most_times-n.result in
    let t = c.in-Some-trip.trip in
    let has = trip-in c.self.view_is c.in-Some-trip.is in
    let range = trip-beside c.self.view_is c.in-Some-trip.is c.requires.lawful in
    let room = rw c.spare.ensures.value at c.most_times-n.ensures.room in
    record {
      taken =
          let value = c.add_charged.ensures.value in
          let few : n * c.args.pulses ≤ n * 2000 = mul-le-mul_left n c.requires.pulses in
          let pulses = ap (λ (x : CoreTrip). x.pulses) value in
          let ticks = ap (λ (x : CoreTrip). x.ticks) value in
          record {
            lawful = trip-taken c.self.view_is c.in-Some-trip.is (ap (λ (x : CoreTrip). x.started) value)
                (record {
                  range = c.add_charged.ensures.range tables range.range room;
                  pulses = omega (arith, range.pulses, few, pulses, ticks);
                }) c.requires.lawful;
            most = omega (
              arith,
              c.most_times-n.ensures.most,
              c.most_times-near.ensures.most,
              c.most_times-longest.ensures.most,
              c.min-few.ensures,
            );
            same = (ap (λ (q : CoreData). q.operating) c.self.view_is, ap (λ (q : CoreData). q.number) c.self.view_is);
          };
      full =
          let few : (c.min-few.result ≡ c.args.count) ⊎ (longest_trip ≤ t.ticks + c.min-few.result + 1) =
          grind (arith, c.min-few.ensures, range.range.ticks) in
          let full = rw c.spare.ensures.value at c.most_times-n.ensures.full in
          charged-full tables c.args.seal.now c.args.cache.now c.args.pulses c.charge-each.result n
          c.most_times-near.result
          c.most_times-longest.result c.min-few.result c.args.count _ t c.add_charged.new.trip c.in-Some.lasting refl
          c.add_charged.ensures.value c.charge-each.ensures.charge (λ rate is. c.in-Some.ensures.lasts t rate has is)
          range.range.meterage.rest room few c.most_times-longest.ensures.full c.most_times-near.ensures.full full;
      follows = λ s m is e.
          let core = c.args.self.now in
          let p = c.args.pulses in
          let q = c.charge-each.result in
          let lasting = c.in-Some.lasting in
          let some = modulus-some s tables is.tariff (tables_are_fit tables c.requires.lawful.compiled) in
          let fewer : n ≤ c.most_times-longest.result =
          omega (arith, c.most_times-n.ensures.most, c.most_times-near.ensures.most) in
          let short : t.ticks + n ≤ 8639999 =
          omega (arith, fewer, c.most_times-longest.ensures.most, c.min-few.ensures, range.range.ticks) in
          let long : n ≤ lasting.longer = omega (arith, fewer, c.most_times-longest.ensures.room) in
          let modulus = modulus-is s tables is.tariff in
          let rest : t.meterage.rest < modulus_of s = rw modulus at range.range.meterage.rest in
          let spare : n * q ≤ spare_of tables.rounding (modulus_of s) t.meterage =
          subst (λ (k : ℕ). n * q ≤ spare_of tables.rounding k t.meterage) modulus room in
          let x = context_of s m in
          let saved = sym has ∙ ap (λ (p : CoreData). p.trip) e in
          let charge : (i : ℕ) (k : Meter) → i < n → record core { trip = Some (charged p q i t) } ≡ core_of s k
          → charge_at s (context_of s k) p ≡ q = λ i k below same.
          let y : Context = record x { pulses = t.pulses + i * p; ticks = t.ticks + i } in
          let less : i * p ≤ c.most_times-near.result * p =
          mul-le-mul_right p (omega (arith, below, c.most_times-n.ensures.most)) in
          let far : i * p ≤ lasting.further = omega (arith, less, c.most_times-near.ensures.room) in
          let slow : i * p ≤ i * 2000 = mul-le-mul_left i c.requires.pulses in
          let near = near-later s m t p i lasting.further lasting.longer saved far (omega (arith, below, long)) in
          let y_in = range-later tables x (t.pulses + i * p) (t.ticks + i)
          (c.in-Some.ensures.range c.args.seal.now s m c.requires.cache is e)
          (omega (arith, slow, below, short, range.pulses, c.requires.lawful.number.1)) (omega (arith, below, short)) in
          let weights = c.in-Some.ensures.near c.args.seal.now s m y c.requires.cache is e y_in near in
          ap (λ (y : Context). charge_at s y p) (context-later s m k core t (charged p q i t) e has same)
          ∙ sym (c.charge-each.ensures.charge ∙ charge-by-weights s tables c.args.seal.now y p lasting.weights is
          weights) in
          let all = hired-equal s tables p q n m core t is.tariff some c.requires.pulses e c.requires.hired has
          c.requires.still c.requires.lawful.roam short rest spare charge in
          rw c.add_charged.ensures.value (subst (λ (x : CoreData). ComesToOutcome s
          (record x { trip = Some (charged p q n t) }) [] [] (run s (intervals_of p n) m)) (sym c.self.view_is) all);
    }

pub cached_rate-requires : goal.cached_rate-requires
cached_rate-requires c = record { lawful = c.requires.lawful; lasting = c.requires.cache.rate }

pub returns-in_default : goal.returns-in_default
returns-in_default c = record {
  taken = taken-none c.args.count refl c.requires.lawful;
  full = inr (λ may. c.in_default.ensures.none refl may.outlasts.trip may.outlasts.has may.serve);
  follows = λ s m is e. quiet-follows s c.args.self.now [] m e;
}

pub returns-in_default-trip-clause-taken : goal.returns-in_default-trip-clause-taken
returns-in_default-trip-clause-taken c = taken-none c.args.count c.self.view_is c.requires.lawful

pub returns-in_default-trip-clause-follows : goal.returns-in_default-trip-clause-follows
returns-in_default-trip-clause-follows c = λ s m is e. subst (λ (x : CoreData). ComesToOutcome s x [] [] (quiet m))
    (sym c.self.view_is) (quiet-follows s c.args.self.now [] m e)

pub charge-each-requires-clause-pulses : goal.charge-each-requires-clause-pulses
charge-each-requires-clause-pulses c = c.requires.pulses

pub overflow_sub-trip : goal.overflow_sub-trip
overflow_sub-trip c =
    let range = trip-beside c.self.view_is c.in-Some-trip.is c.requires.lawful in
    range.range.ticks

pub spare-requires : goal.spare-requires
spare-requires c =
    let range = trip-beside c.self.view_is c.in-Some-trip.is c.requires.lawful in
    record { range = range.range }

pub add_charged-requires-clause-pulses : goal.add_charged-requires-clause-pulses
add_charged-requires-clause-pulses c = c.requires.pulses

pub add_charged-requires-clause-few : goal.add_charged-requires-clause-few
add_charged-requires-clause-few c =
    pulses-few (trip-beside c.self.view_is c.in-Some-trip.is c.requires.lawful) c.requires.lawful.number.1

pub add_charged-requires-clause-rest : goal.add_charged-requires-clause-rest
add_charged-requires-clause-rest c =
    let tables = c.args.tables.now in
    let range = trip-beside c.self.view_is c.in-Some-trip.is c.requires.lawful in
    let fit = tables_are_fit tables c.requires.lawful.compiled in
    let rest = range.range.meterage.rest in
    omega (arith, rest, mul-le tables.step tables.measure (10 ^ 6) (2 * 10 ^ 23) fit.step.1 fit.measure.1)
