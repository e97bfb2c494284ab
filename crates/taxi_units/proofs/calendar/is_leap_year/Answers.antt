use Rattle.std.proofs.Common.{refl}
use Rattle.taxi_units.proofs.calendar.is_leap_year.Goals as goal

pub returns-else-year-ne0 : goal.returns-else-year-ne0
returns-else-year-ne0 c = rw (c.if-year-eq0.true, c.if-year-ne0.false) refl
