use Rattle.std.proofs.Common.{◌+◌, ◌≡◌, ◌≤◌, ap, length, min, subst}
use Rattle.tariff_calendar.{specs.Lists.{list_in, most_reads}, proofs.Found.{at_least, enough_reads}}
use Rattle.tariff_calendar.proofs.cuts.Cuts.find.Goals as goal

pub returns-clause-most : goal.returns-clause-most
returns-clause-most g c =
    c.count.ensures.steps.most (most_reads c.args.dimension)
    (enough_reads c.args.dimension (length c.ordered.result.now) c.ordered.ensures.ordered.few)

pub returns-clause-least : goal.returns-clause-least
returns-clause-least g c =
    let same : length c.ordered.result.now ≡ length (list_in c.args.self.now c.args.dimension) =
    ap length c.ordered.ensures.value in
    subst (λ n. c.args.steps.now + min 1 n ≤ c.count.new.steps) same (at_least (length c.ordered.result.now)
    c.args.steps.now c.count.new.steps c.count.ensures.steps.kept c.count.ensures.steps.least)
