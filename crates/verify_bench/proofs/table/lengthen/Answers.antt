use Rattle.std.proofs.Common.{[], ◌++◌, ◌∙◌, ◌∷◌, ◌≡◌, List, ap, rules}
use Rattle.verify_bench.{specs.{Common.{RateSums}, Gathered.{no_rate_sums, rate_at}}, proofs.GatheredSums.{pushed_none}}
use Rattle.verify_bench.proofs.table.lengthen.Goals as goal

pub loop-length-preserved : goal.loop-length-preserved
loop-length-preserved c =
    let pushed : c.push.new.self.items ≡ c.loop-length.table.items ++ no_rate_sums ∷ [] = search rules in
    record {
      long = search rules;
      same = λ other. ap (λ (xs : List RateSums). rate_at xs other) pushed
          ∙ pushed_none c.loop-length.table.items other ∙ c.loop-length.invariant.same other;
    }
