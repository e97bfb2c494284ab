use Rattle.tariff_compile.proofs.tables.Tables.constant.Goals as goal

pub returns-clause-range : goal.returns-clause-range
returns-clause-range c = c.self.invariant.0.1.constant
