-- Rules: the command `totals`.
use Rattle.{std.specs.Prelude.{Err, Ok, Result}, store_commands.specs.Opening.{opening_in, store_of}}
use Rattle.store_commands.specs.Common.{Answer, Command, Durable, Ended, Seal, refused_as, shows, store_command}
use Rattle.store_commands.specs.TotalsText.{totals_text}

-- the answer to a sealed store shows its totals, with the decimals of the seal, and else refuses the store
abbrev pub totals_answer : Result (Durable × Seal) Ended → Answer
totals_answer (Err why) = refused_as why
totals_answer (Ok store) = shows (totals_text store.1.decimals store.0)

-- the command `totals` shows the totals of the store
abbrev pub totals_command : Command
totals_command = store_command (λ image. totals_answer (store_of (opening_in image)))
