use Rattle.std.proofs.{Common.{[], ◌++◌, ◌∷◌, ◌≡◌, OnOk, rules}, lemmas.Result.{on_ok_weaker}}
use Rattle.verify_bench.proofs.AmountSums.{all_numbers, few_times}
use Rattle.verify_bench.proofs.hiring.Hiring.add_extra.Goals as goal

pub returns-clause-whole : goal.returns-clause-whole
returns-clause-whole c =
    let pushed : OnOk c.map_err.result (c.push.new.self.items ≡ c.args.self.now.extras.items ++ c.args.number ∷ []) =
    search rules in
    let whole = c.requires.whole in
    on_ok_weaker c.map_err.result (λ items. record {
      started = whole.started;
      fees = whole.fees;
      charge = whole.charge;
      rates = whole.rates;
      stopped = whole.stopped;
      dropped = whole.dropped;
      numbers = rw items (all_numbers c.args.number c.args.self.now.extras.items c.requires.number whole.numbers);
      few = λ number. rw items (few_times c.args.number c.args.self.now.extras.items c.requires.few whole.few number);
    }) pushed
