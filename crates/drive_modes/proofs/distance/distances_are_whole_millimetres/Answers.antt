use Rattle.drive_modes.proofs.WholeMillimetres.{millimetres-most, millimetres-reached}
use Rattle.drive_modes.proofs.distance.distances_are_whole_millimetres.Goals as goal

pub returns : goal.returns
returns c = record { most = millimetres-most; reached = millimetres-reached }
