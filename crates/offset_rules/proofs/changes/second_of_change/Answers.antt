use Rattle.{std.proofs.Common.{refl}, offset_rules.specs.Changes.{second_of_change}}
use Rattle.offset_rules.proofs.changes.second_of_change.Goals as goal

pub returns : goal.returns
unfolding second_of_change
returns c = rw (c.number_of_date-day.ensures.value, c.date_of_change.ensures.value) refl
