use Rattle.std.proofs.Common.{◌∙◌, arith}
use Rattle.tariff_check.proofs.CutLaws.{line_step}
use Rattle.tariff_check.proofs.cuts.cuts.Goals as goal

pub loop-line-preserved : goal.loop-line-preserved
loop-line-preserved c =
    line_step c.args.dimension c.loop-line.cuts.keys c.add_line.new.cuts.keys c.args.lines.now c.loop-line.line-index
    c.line-item.result (omega arith) c.line-item.is c.in_ok-add_line.ensures ∙ c.loop-line.invariant
