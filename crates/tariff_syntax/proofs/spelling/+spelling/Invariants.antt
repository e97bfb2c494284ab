use Rattle.std.proofs.Common.{◌*◌, ◌+◌}
use Rattle.tariff_syntax.proofs.spelling.+spelling.Given as goal

abbrev pub decreases-push_condition : goal.decreases-push_condition
decreases-push_condition l = 3 * goal.size-push_condition l

abbrev pub decreases-push_closed : goal.decreases-push_closed
decreases-push_closed l = 3 * goal.size-push_closed l + 1

abbrev pub decreases-push_term : goal.decreases-push_term
decreases-push_term l = 3 * goal.size-push_term l + 2

abbrev pub decreases-push_factor : goal.decreases-push_factor
decreases-push_factor l = 3 * goal.size-push_factor l + 2
