use Rattle.{std.proofs.Common.{map, refl}, tariff_syntax.{specs.Parsed.{entries_read}, proofs.LineFaults.{fault_is}}}
use Rattle.tariff_syntax.specs.{Common.{line_of}, TextLines.{lines_of}}
use Rattle.tariff_syntax.proofs.parsing.lines.Goals as goal

pub returns-in-Err-NoMemory : goal.returns-in-Err-NoMemory
returns-in-Err-NoMemory c = fault_is c.args.decimals c.loop-line.number (map line_of c.loop-line.lines)
    c.in-Some.line.now (lines_of c.in-Some.below.now) (lines_of c.loop-line.rest.now) (entries_read c.args.decimals
    c.args.first (lines_of c.args.text.now)) c.fault_below.result c.in-Some.ensures.0 c.loop-line.invariant.same
    (c.put_line.ensures.memory (rw (c.in-Err-NoMemory.is, c.in-Err-NoMemory.field-0-is) refl)) c.fault_below.ensures
