use Rattle.shift_book.proofs.DriverWords.{drivers_are_their_words}
use Rattle.shift_book.proofs.mark_laws.drivers_are_their_words.Goals as goal

pub returns : goal.returns
returns c = drivers_are_their_words
