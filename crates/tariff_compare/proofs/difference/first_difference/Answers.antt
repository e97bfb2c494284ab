use Rattle.std.proofs.Common.{◌∙◌, sym}
use Rattle.tariff_compare.{specs.Common.{tree_of}, proofs.Frames.{frame_positions, frame_zones}}
use Rattle.tariff_compare.proofs.difference.first_difference.Goals as goal

pub context_difference-requires-clause-positions : goal.context_difference-requires-clause-positions
context_difference-requires-clause-positions c =
    frame_positions (tree_of c.args.one.now) (tree_of c.args.other.now)
    (sym c.frame_difference.ensures.value ∙ c.in-None.is)

pub context_difference-requires-clause-zones : goal.context_difference-requires-clause-zones
context_difference-requires-clause-zones c =
    frame_zones (tree_of c.args.one.now) (tree_of c.args.other.now)
    (sym c.frame_difference.ensures.value ∙ c.in-None.is)
