use Rattle.std.proofs.{Common.{◌∙◌, ap, arith}, lemmas.Grind.{common_steps}}
use Rattle.tariff_compile.specs.Tables.{TableParts}
use Rattle.tariff_compile.proofs.tables.Tables.fees_of.Goals as goal

pub read-fee-requires : goal.read-fee-requires
read-fee-requires g c =
    rw (c.of.ensures ∙ (c.as_slice.ensures.value ∙ ap (λ (p : TableParts). p.initials) c.self.view_is)) c.requires

pub returns-clause-value : goal.returns-clause-value
returns-clause-value g c =
    let fee = c.read-fee.ensures.value (record { amount = 0; covers = 0 }) in
    grind (arith, common_steps, fee)
