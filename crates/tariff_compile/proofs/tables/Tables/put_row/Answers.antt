use Rattle.{std.proofs.Common.{Fits, arith, w64}, tariff_compile.proofs.EachKind.{row_short}}
use Rattle.tariff_compile.proofs.tables.Tables.put_row.Goals as goal

pub returns-clause-short : goal.returns-clause-short
returns-clause-short c =
    let wide : Fits w64 c.args.i = c.ranges.i in
    let short = row_short c.args.self.now c.args.i c.make_row.ensures.compiled c.requires (omega (arith, wide)) in
    (short.some, short.few)

pub returns-in_err-make_row-clause-short : goal.returns-in_err-make_row-clause-short
returns-in_err-make_row-clause-short c =
    let wide : Fits w64 c.args.i = c.ranges.i in
    let short = row_short c.args.self.now c.args.i c.make_row.ensures.compiled c.requires (omega (arith, wide)) in
    (short.some, short.few)
