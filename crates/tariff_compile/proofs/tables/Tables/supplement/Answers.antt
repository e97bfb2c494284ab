use Rattle.std.proofs.Common.{◌-◌, ◌∙◌, List, Option, ap, arith, get_or}
use Rattle.tariff_compile.{specs.Common.{Supplement}, proofs.Compiled.{supplement-none, supplement-there}}
use Rattle.tariff_compile.specs.Tables.{TableParts}
use Rattle.tariff_compile.proofs.tables.Tables.supplement.Goals.{then-number-lt1-via-else-number-lt1+then-number-gt16}
use Rattle.tariff_compile.proofs.tables.Tables.supplement.Goals.{then-number-lt1-via-then-number-lt1}
use Rattle.tariff_compile.proofs.tables.Tables.supplement.Goals as goal

pub returns-then-number-lt1-clause-tree : goal.returns-then-number-lt1-clause-tree
returns-then-number-lt1-clause-tree g c = λ t is. supplement-none t c.args.self.now c.args.number is (λ range.
    elim c.then-number-lt1.branch [
      | then-number-lt1-via-then-number-lt1 w ↦ omega arith
      | then-number-lt1-via-else-number-lt1+then-number-gt16 w ↦ omega arith
    ])

pub returns-clause-tree : goal.returns-clause-tree
returns-clause-tree g c = λ t is.
    c.read.ensures.value c.read.result
    ∙ (ap (λ (list : List (Option Supplement)). get_or list (c.args.number - 1) c.read.result)
    (c.of-supplements.ensures ∙ (c.as_slice.ensures.value ∙ ap (λ (p : TableParts). p.supplements) c.self.view_is))
    ∙ supplement-there t c.args.self.now c.args.number c.read.result is (omega arith, omega arith))
