use Rattle.std.proofs.Common.{refl}
use Rattle.tariff_compare.proofs.grid.Grid.make.Goals as goal

pub returns : goal.returns
returns c = rw (
  c.in_ok-numbers_to.ensures,
  c.positions.ensures.value,
  c.in_ok-numbers_to-2.ensures,
  c.zones.ensures.value,
  c.in_ok-different_days.ensures,
  c.in_ok-listed.ensures,
  c.list.ensures,
  c.list-2.ensures,
  c.in_ok-listed-2.ensures,
  c.list-3.ensures,
  c.list-4.ensures,
  c.in_ok-listed-3.ensures,
  c.list-5.ensures,
  c.list-6.ensures,
  c.cuts-cuts.ensures,
  c.cuts-others.ensures,
) refl
