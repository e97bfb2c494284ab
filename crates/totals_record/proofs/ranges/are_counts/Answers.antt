use Rattle.std.specs.List.{list_all}
use Rattle.std.proofs.{Common.{ℕ, ◌&&◌, ◌∙◌, Bool, ap, length, nat_le, sym}, lemmas.Bool.{eq-eqb}}
use Rattle.totals_record.proofs.ranges.are_counts.Goals as goal

pub returns : goal.returns
returns c = c.are_few.ensures
    ∙ sym (ap (λ (b : Bool). b && list_all (λ (count : ℕ). nat_le count 99) c.args.counts.now)
    (eq-eqb (length c.args.counts.now) 16 c.told-counts))
