-- Rules: how many cells a tariff has. Contexts in one cell mean the same to each of its conditions.
use Rattle.std.specs.Prelude.{ℕ, ◌*◌, ◌+◌, List, if◌then◌else◌}
use Rattle.tariff_check.specs.{Common.{Distance, Line, Minute, MonthDay, Time}, Cuts.{count_of}}
use Rattle.tariff_check.specs.Parts.{has_holidays, positions_of, zones_of}

-- a tariff has two kinds of days if it has a holiday, holidays and others, and one kind if it has none
abbrev pub day_kinds : List Line → ℕ
day_kinds lines = if has_holidays lines then 2 else 1

-- the bands between the cuts, in all four dimensions together, are the product of the bands in each: one more than it
-- has cuts
abbrev pub bands_between : List Line → ℕ
bands_between lines =
    (count_of MonthDay lines + 1) * (count_of Minute lines + 1)
    * (count_of Distance lines + 1) * (count_of Time lines + 1)

-- the cells of a tariff are its positions, times its zones, weekdays, kinds of days and bands between cuts
abbrev pub cells_of : List Line → ℕ
cells_of lines = positions_of lines * zones_of lines * 7 * day_kinds lines * bands_between lines
