use Rattle.std.proofs.{Common.{◌==◌, ◌∙◌, ap, w64}, lemmas.Nat.Bits.{bit_at_set_other, bit_at_set_same}}
use Rattle.tariff_compile.{specs.Marks.{is_marked}, proofs.Bits.{or_true}}
use Rattle.tariff_compile.proofs.marks.Marks.and_at.Goals as goal

pub returns-then-marked-clause-here : goal.returns-then-marked-clause-here
returns-then-marked-clause-here c =
    rw c.if-marked.true (ap (λ n. n == 1) (bit_at_set_same w64 c.args.self.bits c.args.place c.requires)
    ∙ or_true (is_marked c.args.self c.args.place))

pub returns-then-marked-clause-others : goal.returns-then-marked-clause-others
returns-then-marked-clause-others c =
    λ other apart. ap (λ n. n == 1) (bit_at_set_other w64 c.args.self.bits c.args.place c.requires other apart)
