use Rattle.shift_book.proofs.DriverWords.{driver_told, no_driver_told}
use Rattle.shift_book.proofs.reading.read_driver.Goals as goal

pub returns-clause-some : goal.returns-clause-some
returns-clause-some c = driver_told c.args.word.now c.driver_of.result c.driver_of.ensures

pub returns-clause-none : goal.returns-clause-none
returns-clause-none c = no_driver_told c.args.word.now c.driver_of.result c.driver_of.ensures
