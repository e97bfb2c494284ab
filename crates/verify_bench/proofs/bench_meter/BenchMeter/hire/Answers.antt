use Rattle.std.{specs.Prelude.{nat_le}, proofs.Common.{ℕ, ◌∙◌, ◌≡◌, ap, arith, false, refl, sym}}
use Rattle.verify_bench.specs.{Common.{context_now, context_on, hired, hirings_end, local_at}, Settings.{setting_under}}
use Rattle.verify_bench.{specs.Fees.{fees_of_hiring}, proofs.Benches.{hires_yet, moves_quietly}}
use Rattle.verify_bench.proofs.bench_meter.BenchMeter.hire.Goals as goal

pub returns-clause-moves : goal.returns-clause-moves
returns-clause-moves c trip found m before stands =
    let s = setting_under c.args.checked.now c.args.params.now in
    let x : c.context-x.result ≡ context_now s m =
    c.context-x.ensures m before stands ∙ ap (λ (second : ℕ). context_on s (local_at s second) m) stands.clock in
    let few : nat_le hirings_end m.durable.number ≡ false =
    hires_yet s before c.args.self.now m stands c.if-self-ge-HIRINGS_END.false in
    let fees : c.fees_of_hiring-fees.result ≡ fees_of_hiring s.tariff (context_now s m) =
    c.fees_of_hiring-fees.ensures.fees ∙ ap (fees_of_hiring s.tariff) x in
    let made = c.new.ensures in
    rw few (moves_quietly s before (context_now s m) trip found _ (hired s m) (record {
      operating = refl;
      clock = stands.clock;
      began = stands.began;
      taken = stands.taken;
      latch = stands.latch;
      position = stands.position;
      zone = stands.zone;
      roam = refl;
      number = stands.number;
      held = stands.held;
      trips = record {
        started = rw made.started (sym stands.clock);
        fees = rw (made.fees, fees) refl;
        opening = rw (made.fees, fees) refl;
        own_fees = rw made.fees fees;
        whole = made.sums.0;
        rates = λ place. rw made.rates refl;
        stopped = made.sums.1;
        dropped = made.sums.2;
        extras = sym made.extras;
        few = rw made.sums.0 (omega arith);
      };
    }))
