-- Rules: the command `sealed`.
use Rattle.{std.specs.Prelude.{Err, Ok, Result}, store_commands.specs.Opening.{opening_in, store_of}}
use Rattle.store_commands.specs.Common.{Answer, Command, Durable, Ended, Seal, refused_as, shows, store_command}
use Rattle.store_commands.specs.SealedText.{sealed_text}

-- the answer to a sealed store shows what it was sealed with, and else refuses the store
abbrev pub sealed_answer : Result (Durable × Seal) Ended → Answer
sealed_answer (Err why) = refused_as why
sealed_answer (Ok store) = shows (sealed_text store.1)

-- the command `sealed` shows what the store was sealed with
abbrev pub sealed_command : Command
sealed_command = store_command (λ image. sealed_answer (store_of (opening_in image)))
