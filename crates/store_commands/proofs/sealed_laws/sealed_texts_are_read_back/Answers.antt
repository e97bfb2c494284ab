use Rattle.store_commands.proofs.SealedLaws.{sealed_again}
use Rattle.store_commands.proofs.sealed_laws.sealed_texts_are_read_back.Goals as goal

pub returns : goal.returns
returns c = sealed_again
