-- Rules: which words are a command.
use Rattle.std.specs.Prelude.{[], ℕ, ◌∷◌, List, None, Option, Some, codes, if◌then◌else◌}
use Rattle.{taxi_units.specs.Words.{is_word}, log_commands.specs.Common.{Call, File, Rows, Show}}

-- one word is a command if it is `show`
abbrev pub one_word : (command : List ℕ) → Option Call
one_word command = if is_word command (codes "show") then Some Show else None

-- two words are a command if the first is `file` or `rows`, and the second then names the roll
abbrev pub two_words : (command : List ℕ) → Option Call
two_words command =
    if is_word command (codes "file") then Some File
    else if is_word command (codes "rows") then Some Rows else None

-- words call for `show`, for `file ROLL`, for `rows ROLL`, or for nothing
abbrev pub call_of : List (List ℕ) → Option Call
call_of (command ∷ []) = one_word command
call_of (command ∷ roll ∷ []) = two_words command
call_of words = None
