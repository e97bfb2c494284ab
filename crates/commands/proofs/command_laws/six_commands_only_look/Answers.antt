use Rattle.{std.proofs.Common.{Option, Some, inl, refl}, commands.specs.Command.{IsReadOnlyRow, IsStoreQuery}}
use Rattle.commands.specs.declared.words.Row.{Row}
use Rattle.commands.specs.declared.words.Row.TheVariants as rows
use Rattle.commands.proofs.command_laws.six_commands_only_look.Goals as goal

unwritten_by_name : (row : Option Row) → IsReadOnlyRow row → IsStoreQuery row
unwritten_by_name (Some rows.Totals) h = tt
unwritten_by_name (Some rows.Bench) h = tt
unwritten_by_name (Some rows.Port) h = tt
unwritten_by_name (Some (rows.Mark driver)) h = tt
unwritten_by_name (Some rows.Shifts) h = tt
unwritten_by_name (Some rows.Sealed) h = tt
unwritten_by_name (Some rows.Seal) h = h.unwritten 0 (inl refl)
unwritten_by_name (Some rows.Run) h = h.unwritten 0 (inl refl)
unwritten_by_name row h = absurd h.opens

unwritten_by_record : (row : Option Row) → IsStoreQuery row → IsReadOnlyRow row
unwritten_by_record (Some rows.Totals) h = record { opens = tt; unwritten = λ status w. w }
unwritten_by_record (Some rows.Bench) h = record { opens = tt; unwritten = λ status w. w }
unwritten_by_record (Some rows.Port) h = record { opens = tt; unwritten = λ status w. w }
unwritten_by_record (Some (rows.Mark driver)) h = record { opens = tt; unwritten = λ status w. w }
unwritten_by_record (Some rows.Shifts) h = record { opens = tt; unwritten = λ status w. w }
unwritten_by_record (Some rows.Sealed) h = record { opens = tt; unwritten = λ status w. w }
unwritten_by_record row h = absurd h

pub returns : goal.returns
returns c = λ row. (unwritten_by_name row, unwritten_by_record row)
