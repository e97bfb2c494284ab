-- Rules: the commands `mark on DRIVER` and `mark off`.
use Rattle.{std.specs.Prelude.{[], Err, None, Ok, Option, Result, Some, false, true}, shift_book.specs.Shares.{Driver}}
use Rattle.{shift_book.specs.Marks.{Signing, mark_text}, store_commands.specs.Common.{store_command}}
use Rattle.store_commands.specs.Common.{Answer, Command, Durable, Ended, Seal, numbers_in, refused_as, shows}
use Rattle.store_commands.specs.Opening.{opening_in, store_of}

-- the mark of a state of the store signs a driver on, or, without a driver, signs whoever is on off
abbrev pub mark_of : Option Driver → Durable → Signing
mark_of (Some driver) now = record { driver = driver.items; on = true; numbers = numbers_in now }
mark_of None now = record { driver = []; on = false; numbers = numbers_in now }

-- the answer to a driver shows the line of the mark of a sealed store, and else refuses the store
abbrev pub mark_answer : (driver : Option Driver) → Result (Durable × Seal) Ended → Answer
mark_answer driver (Err why) = refused_as why
mark_answer driver (Ok store) = shows (mark_text (mark_of driver store.0))

-- the command `mark` shows the mark of the store
abbrev pub mark_command : (driver : Option Driver) → Command
mark_command driver = store_command (λ image. mark_answer driver (store_of (opening_in image)))
