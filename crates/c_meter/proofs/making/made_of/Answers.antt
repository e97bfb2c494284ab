use Rattle.{std.proofs.Common.{Err, ap}, meter_texts.proofs.Laws.{made_by}, c_meter.specs.Common.{NoMemory, tree_of}}
use Rattle.c_meter.proofs.Stops.{stop_or}
use Rattle.c_meter.proofs.making.made_of.Goals as goal

pub returns-clause-made : goal.returns-clause-made
returns-clause-made c =
    made_by c.args.tariff.now c.args.params.now (tree_of c.in-Ok.checked) c.in-Ok-compile.tables _
    c.in-Ok.ensures.read.0 c.in-Ok.ensures.read.1 c.in-Ok-params_of.ensures.said
    c.in-Ok-compile.ensures.tables c.in-Ok-compile.ensures.value

pub returns-in-Err-clause-no_tariff : goal.returns-in-Err-clause-no_tariff
returns-in-Err-clause-no_tariff c = λ is. c.in-Err.ensures.no_tariff (ap Err (ap (stop_or NoMemory) is))
