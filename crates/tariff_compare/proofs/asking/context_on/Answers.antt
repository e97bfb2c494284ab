use Rattle.tariff_compare.proofs.Asked.{context_in_range, same_asked}
use Rattle.tariff_compare.proofs.asking.context_on.Goals as goal

pub returns-clause-value : goal.returns-clause-value
returns-clause-value c = same_asked c.args.tables.now c.args.m.now _ _ _ _ c.constant.ensures.value
    c.requires.date.weekday c.requires.date.month_day c.requires.holiday

pub returns-clause-range : goal.returns-clause-range
returns-clause-range c = context_in_range c.args.tables.now c.args.m.now _ (returns-clause-value c) c.requires.asked
