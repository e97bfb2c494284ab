-- Rules: what is shown of the log.
use Rattle.{std.specs.Prelude.{ℕ, List, flat_map}, log_commands.specs.Record.{Record}}

-- the texts of records are the text of each record, one after another
abbrev pub texts_of : List Record → List ℕ
texts_of records = flat_map (λ it. it.text) records
