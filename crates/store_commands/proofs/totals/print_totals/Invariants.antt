use Rattle.std.{specs.List.{flat_map, range_with_len}, proofs.Common.{◌++◌, ◌+◌, Ok}}
use Rattle.store_commands.specs.{Common.{PrintsOut}, TotalsText.{position_at, totals_heading}}
use Rattle.store_commands.proofs.totals.print_totals.Given as goal

-- the heading and the lines of the positions so far were printed
abbrev pub invariant-loop-place : goal.invariant-loop-place
invariant-loop-place g l = PrintsOut {T = Unit {0}} {E = Unit {0}} g.B.Printer
    (totals_heading l.decimals l.durable
    ++ flat_map (position_at l.decimals l.durable.totals.shares) (range_with_len 0 l.place))
    (1 + l.place) l.fn.board l.board l.fn.steps l.steps (Ok tt)
