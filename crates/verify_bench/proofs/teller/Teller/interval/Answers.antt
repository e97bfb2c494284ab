use Rattle.std.proofs.{Common.{[], ◌∷◌}, lemmas.Result.{on_ok_weaker}}
use Rattle.verify_bench.{specs.Common.{Pulses, Tick}, proofs.Tellings.{tells_then}}
use Rattle.verify_bench.{specs.Settings.{setting_under}, proofs.Carried.{interval_none, interval_some}}
use Rattle.verify_bench.proofs.teller.Teller.interval.Goals as goal

pub returns-then-pulses-eq0-clause-tells : goal.returns-then-pulses-eq0-clause-tells
returns-then-pulses-eq0-clause-tells c =
    on_ok_weaker c.one.result (λ goes. rw (interval_none c.args.pulses c.if-pulses-eq0.true) goes) c.one.ensures.tells

pub returns-clause-tells : goal.returns-clause-tells
returns-clause-tells c =
    let s = setting_under c.args.checked.now c.args.params.now in
    on_ok_weaker c.one-3.result (λ goes. rw (interval_some c.args.pulses c.if-pulses-eq0.false)
    (tells_then s (Pulses c.args.pulses ∷ []) (Tick ∷ []) c.args.self.now c.one-2.new.self c.one-3.new.self
    c.args.stories.now c.one-2.new.stories c.one-3.new.stories c.in_ok-one.ensures.tells goes))
    c.one-3.ensures.tells
