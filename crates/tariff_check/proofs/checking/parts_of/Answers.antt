use Rattle.{std.{specs.Prelude.{Err, Ok, OnErr, Result}, proofs.Common.{map}}, tariff_check.specs.Common.{line_of}}
use Rattle.tariff_check.proofs.FaultStages.{none_before}
use Rattle.tariff_check.proofs.checking.parts_of.Goals as goal

-- what holds anyway holds on an error
on_err_anyway : {T E : Type 0} (r : Result T E) (P : Type 0) → P → OnErr r P
on_err_anyway (Ok x) P p = tt
on_err_anyway (Err e) P p = p

pub returns-clause-memory : goal.returns-clause-memory
returns-clause-memory c = on_err_anyway c.map_err.result _ (none_before (map line_of c.args.lines.now) c.requires)
