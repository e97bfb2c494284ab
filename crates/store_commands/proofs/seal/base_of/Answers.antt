use Rattle.std.proofs.Common.{◌∙◌, refl, sym}
use Rattle.store_commands.proofs.seal.base_of.Goals as goal

pub returns-then-is_some-clause-answer : goal.returns-then-is_some-clause-answer
returns-then-is_some-clause-answer c = rw (c.in-Latest.is, sym c.is_some.ensures ∙ c.if-is_some.true) refl
