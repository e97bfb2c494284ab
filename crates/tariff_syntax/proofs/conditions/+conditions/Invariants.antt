use Rattle.std.proofs.Common.{ℕ, ◌*◌, ◌+◌}
use Rattle.tariff_syntax.specs.declared.conditions.Joint.{Joint, TheVariants.{And, Or}}
use Rattle.tariff_syntax.proofs.conditions.+conditions.Given as goal

abbrev pub decreases-condition : goal.decreases-condition
decreases-condition l = 1000 * l.depth + 700

-- a join by `or` stands above one by `and`
abbrev pub height : Joint → ℕ
height Or = 398
height And = 0

abbrev pub decreases-more_parts : goal.decreases-more_parts
decreases-more_parts l = 1000 * l.depth + 2 + height l.joint + l.most

abbrev pub decreases-term : goal.decreases-term
decreases-term l = 1000 * l.depth + 300

abbrev pub decreases-factor : goal.decreases-factor
decreases-factor l = 1000 * l.depth

abbrev pub decreases-factor_above : goal.decreases-factor_above
decreases-factor_above l = 1000 * l.depth + 900

abbrev pub decreases-negation : goal.decreases-negation
decreases-negation l = 1000 * l.depth + 800

abbrev pub decreases-in_parentheses : goal.decreases-in_parentheses
decreases-in_parentheses l = 1000 * l.depth + 800

abbrev pub decreases-joined_part : goal.decreases-joined_part
decreases-joined_part l = 1000 * l.depth + 1 + height l.joint
