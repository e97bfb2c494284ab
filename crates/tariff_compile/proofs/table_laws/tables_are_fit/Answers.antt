use Rattle.tariff_compile.proofs.Compiled.{tables_fit}
use Rattle.tariff_compile.proofs.table_laws.tables_are_fit.Goals as goal

pub returns : goal.returns
returns c = tables_fit
