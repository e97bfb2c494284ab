use Rattle.tariff_syntax.proofs.writing.push_item.Goals as goal

pub returns-in-Supplement : goal.returns-in-Supplement
returns-in-Supplement c = rw c.in-Supplement.is c.push_supplement.ensures
