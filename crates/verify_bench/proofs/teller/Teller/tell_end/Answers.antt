use Rattle.std.proofs.{Common.{◌≢◌, rules}, lemmas.Result.{on_ok_weaker}}
use Rattle.verify_bench.{specs.{Common.{Off}, Settings.{setting_under}}, proofs.Tellings.{told_in_off, told_to_the_end}}
use Rattle.verify_bench.proofs.teller.Teller.tell_end.Goals as goal

pub returns-in-Off : goal.returns-in-Off
returns-in-Off c = λ all amid.
    told_in_off (setting_under c.args.checked.now c.args.params.now) all c.args.self.now c.args.stories.now c.in-Off.is
    amid

pub returns-in-ForHire : goal.returns-in-ForHire
returns-in-ForHire c =
    let s = setting_under c.args.checked.now c.args.params.now in
    let on : c.args.self.now.meter.operating ≢ Off = search rules in
    on_ok_weaker c.tell.result (λ tells all amid. told_to_the_end s all c.args.self.now c.tell.new.self
    c.args.stories.now c.tell.new.stories on tells amid) c.tell.ensures.tells
