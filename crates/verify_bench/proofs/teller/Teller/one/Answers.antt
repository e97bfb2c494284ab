use Rattle.{std.proofs.lemmas.Result.{on_ok_weaker}, verify_bench.specs.Settings.{setting_under}}
use Rattle.verify_bench.proofs.Tellings.{tells_event}
use Rattle.verify_bench.proofs.teller.Teller.one.Goals as goal

pub returns-clause-tells : goal.returns-clause-tells
returns-clause-tells c =
    on_ok_weaker c.tell.result (λ tells. tells_event (setting_under c.args.checked.now c.args.params.now) c.args.event
    c.args.self.now c.tell.new.self c.args.stories.now c.tell.new.stories tells) c.tell.ensures.tells
