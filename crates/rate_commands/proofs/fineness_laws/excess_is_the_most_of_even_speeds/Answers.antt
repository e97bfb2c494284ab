use Rattle.std.proofs.Common.{ℕ, ◌≡◌}
use Rattle.rate_commands.proofs.TableScale.{table_excess}
use Rattle.rate_commands.proofs.fineness_laws.excess_is_the_most_of_even_speeds.Goals as goal

pub returns : goal.returns
returns c = λ t k place excess r w sound there weights.
    let even = c.even_speeds_are_charged_nearly.ensures in
    let crossing = c.the_cross_over_speed_reaches_the_bound.ensures in
    table_excess t k place excess r w sound there weights (λ own. record {
      share = even.share own;
      above = even.above own;
      free = even.free own;
      even = crossing.even own;
      as_one = crossing.as_one own;
      reached = crossing.reached own;
    })
