use Rattle.store_commands.proofs.SealsOfTexts.{seal_of_texts, sealed_on_any, sealed_on_itself}
use Rattle.store_commands.proofs.sealed_laws.sealed_texts_seal_the_same.Goals as goal

pub returns-clause-texts : goal.returns-clause-texts
returns-clause-texts c = seal_of_texts

pub returns-clause-itself : goal.returns-clause-itself
returns-clause-itself c = sealed_on_itself

pub returns-clause-other : goal.returns-clause-other
returns-clause-other c = sealed_on_any
