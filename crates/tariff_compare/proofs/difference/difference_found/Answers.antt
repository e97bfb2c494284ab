use Rattle.tariff_compare.proofs.difference.difference_found.Goals as goal

pub part_at-requires-clause-one : goal.part_at-requires-clause-one
part_at-requires-clause-one c = c.in-Some.ensures.there.one

pub part_at-requires-clause-other : goal.part_at-requires-clause-other
part_at-requires-clause-other c = c.in-Some.ensures.there.other
