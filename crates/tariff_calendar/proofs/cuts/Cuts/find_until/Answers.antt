use Rattle.std.proofs.Common.{ℕ, ◌≡◌, List, length, subst}
use Rattle.tariff_calendar.{specs.Lists.{count_at_most, most_reads}, proofs.Found.{enough_reads}}
use Rattle.tariff_calendar.proofs.cuts.Cuts.find_until.Goals as goal

pub returns-clause-same : goal.returns-clause-same
returns-clause-same g c = λ other from to.
    subst (λ (list : List ℕ). count_at_most other list ≡ count_at_most c.args.value list) c.ordered.ensures.value
    (c.count_until.ensures.same other from to)

pub returns-clause-most : goal.returns-clause-most
returns-clause-most g c =
    c.count_until.ensures.most (most_reads c.args.dimension)
    (enough_reads c.args.dimension (length c.ordered.result.now) c.ordered.ensures.ordered.few)
