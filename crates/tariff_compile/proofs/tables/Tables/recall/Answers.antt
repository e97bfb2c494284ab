use Rattle.{std.proofs.Common.{subst}, tariff_compile.specs.Tables.{IsFit}}
use Rattle.tariff_compile.proofs.tables.Tables.recall.Goals as goal

pub returns-clause-fit : goal.returns-clause-fit
returns-clause-fit c = subst IsFit c.self.view_is c.self.invariant.1
