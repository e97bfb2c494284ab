use Rattle.std.proofs.Common.{◌^◌}
use Rattle.tariff_compile.proofs.CellNumbers.{cell_number_below, fits_on_the_way}
use Rattle.tariff_compile.proofs.bands.cell_number.Goals as goal

pub and_digit-zones-requires : goal.and_digit-zones-requires
and_digit-zones-requires c =
    (fits_on_the_way c.args.sizes.now c.args.bands.now (2 ^ 32) c.requires.below c.requires.fits).zones

pub and_digit-weekdays-requires : goal.and_digit-weekdays-requires
and_digit-weekdays-requires c = rw (c.and_digit-zones.ensures)
    (fits_on_the_way c.args.sizes.now c.args.bands.now (2 ^ 32) c.requires.below c.requires.fits).weekdays

pub and_digit-holidays-requires : goal.and_digit-holidays-requires
and_digit-holidays-requires c = rw (c.and_digit-weekdays.ensures, c.and_digit-zones.ensures)
    (fits_on_the_way c.args.sizes.now c.args.bands.now (2 ^ 32) c.requires.below c.requires.fits).holidays

pub and_digit-month_days-requires : goal.and_digit-month_days-requires
and_digit-month_days-requires c =
    rw (c.and_digit-holidays.ensures, c.and_digit-weekdays.ensures, c.and_digit-zones.ensures)
    (fits_on_the_way c.args.sizes.now c.args.bands.now (2 ^ 32) c.requires.below c.requires.fits).month_days

pub and_digit-minutes-requires : goal.and_digit-minutes-requires
and_digit-minutes-requires c = rw (
  c.and_digit-month_days.ensures,
  c.and_digit-holidays.ensures,
  c.and_digit-weekdays.ensures,
  c.and_digit-zones.ensures,
) (fits_on_the_way c.args.sizes.now c.args.bands.now (2 ^ 32) c.requires.below c.requires.fits).minutes

pub and_digit-distances-requires : goal.and_digit-distances-requires
and_digit-distances-requires c = rw (
  c.and_digit-minutes.ensures,
  c.and_digit-month_days.ensures,
  c.and_digit-holidays.ensures,
  c.and_digit-weekdays.ensures,
  c.and_digit-zones.ensures,
) (fits_on_the_way c.args.sizes.now c.args.bands.now (2 ^ 32) c.requires.below c.requires.fits).distances

pub and_digit-requires : goal.and_digit-requires
and_digit-requires c = rw (
  c.and_digit-distances.ensures,
  c.and_digit-minutes.ensures,
  c.and_digit-month_days.ensures,
  c.and_digit-holidays.ensures,
  c.and_digit-weekdays.ensures,
  c.and_digit-zones.ensures,
) (fits_on_the_way c.args.sizes.now c.args.bands.now (2 ^ 32) c.requires.below c.requires.fits).cells

pub returns-clause-below : goal.returns-clause-below
returns-clause-below c = rw (
  c.and_digit.ensures,
  c.and_digit-distances.ensures,
  c.and_digit-minutes.ensures,
  c.and_digit-month_days.ensures,
  c.and_digit-holidays.ensures,
  c.and_digit-weekdays.ensures,
  c.and_digit-zones.ensures,
) (cell_number_below c.args.sizes.now c.args.bands.now c.requires.below)
