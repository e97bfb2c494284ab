use Rattle.std.proofs.Common.{◌∙◌, sym}
use Rattle.seal_record.proofs.Ranged.{read_none, read_other, read_own}
use Rattle.seal_record.proofs.seal.SealBody.get.Goals as goal

pub returns-in_err-seal : goal.returns-in_err-seal
returns-in_err-seal c = rw c.from_residual.ensures (sym (read_none c.args.bytes.now c.in_err-seal.ensures))

pub returns-then-not-is_text : goal.returns-then-not-is_text
returns-then-not-is_text c =
    sym (read_other c.args.bytes.now c.as_slice.result.now c.in_ok-seal.seal c.is_text.result c.in_ok-seal.ensures.0
    (c.as_slice.ensures.value ∙ c.spell.ensures) c.is_text.ensures c.if-not-is_text.true)

pub returns : goal.returns
returns c =
    sym (read_own c.args.bytes.now c.as_slice.result.now c.in_ok-seal.seal c.is_text.result c.in_ok-seal.ensures.0
    c.in_ok-seal.ensures.1 (c.as_slice.ensures.value ∙ c.spell.ensures) c.is_text.ensures c.if-not-is_text.false)
