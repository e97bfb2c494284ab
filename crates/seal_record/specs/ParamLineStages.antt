-- By law: what one more line of a parameter text says, in the stages of the code. The laws
-- lines_say_their_parameter and bad_lines_have_their_fault say what it is.
use Rattle.std.specs.Prelude.{[], ℕ, ℤ, ◌++◌, ◌∷◌, Bool, Err, List, None, Ok, Option, Result, Some, codes, false}
use Rattle.std.specs.{Prelude.{if◌then◌else◌, is_some}, Str.{bytes_eq}}
use Rattle.seal_record.specs.Common.{◌>>=◌, BadValue, Constant, Hold, Name, Offset, ParamFault, Secured, Taxi, Twice}
use Rattle.seal_record.specs.{Common.{Unknown, number_in}, Limits.{greatest_constant, least_constant, longest_hold}}
use Rattle.seal_record.specs.{Lines.{is_passed, key_in, value_in}, ParamsSoFar.{ParamsSoFar}}
use Rattle.seal_record.specs.{OffsetList.{is_offset_list}, Values.{mode_read, pair_read, secured_read, taxi_read}}
use Rattle.seal_record.specs.declared.params.Name.TheVariants as name

-- the parameter of a key, if the key is one of the six
unfoldable pub name_of : (key : List ℕ) → Option Name
name_of key =
    if bytes_eq key (codes "taxi") then Some Taxi
    else (if bytes_eq key (codes "constant") then Some Constant
    else (if bytes_eq key (codes "mode") then Some name.Mode
    else (if bytes_eq key (codes "hold") then Some Hold
    else (if bytes_eq key (codes "offset") then Some Offset
    else (if bytes_eq key (codes "secured") then Some Secured else None)))))

-- a test whether a parameter that may be said once has been said, so that one line more would say it twice
abbrev pub is_twice : ParamsSoFar → Name → Bool
is_twice said Offset = false
is_twice said Taxi = is_some said.taxi
is_twice said Constant = is_some said.constant
is_twice said name.Mode = is_some said.mode
is_twice said Hold = is_some said.hold_time
is_twice said Secured = is_some said.secured

-- what has been said with one offset more, if the list with it is lawful
abbrev pub with_pair : ParamsSoFar → ℕ × ℤ → Option ParamsSoFar
with_pair said pair =
    if is_offset_list (said.offsets ++ pair ∷ []) then Some (record said { offsets = said.offsets ++ pair ∷ [] })
    else None

-- what has been said with a parameter's value, if the value is of its form
abbrev pub with_value : ParamsSoFar → Name → (value : List ℕ) → Option ParamsSoFar
with_value said Taxi value = taxi_read value >>= (λ taxi. Some (record said { taxi = Some taxi }))
with_value said Constant value =
    number_in least_constant greatest_constant value >>= (λ n. Some (record said { constant = Some n }))
with_value said name.Mode value = mode_read value >>= (λ mode. Some (record said { mode = Some mode }))
with_value said Hold value = number_in 0 longest_hold value >>= (λ n. Some (record said { hold_time = Some n }))
with_value said Offset value = pair_read value >>= with_pair said
with_value said Secured value = secured_read value >>= (λ day. Some (record said { secured = Some day }))

-- what has been said if a value is good, and else the fault of its line
abbrev pub or_bad : (number : ℕ) → Option ParamsSoFar → Result ParamsSoFar ParamFault
or_bad number (Some said) = Ok said
or_bad number None = Err (BadValue number)

-- a line of a known parameter, numbered from 1, is bad if it says that parameter twice, and else if its value is
-- bad
abbrev pub named_line : ParamsSoFar → (number : ℕ) → Name → (value : List ℕ) → Result ParamsSoFar ParamFault
named_line said number name value =
    if is_twice said name then Err (Twice name) else or_bad number (with_value said name value)

-- a line that isn't passed over is bad if its key is unknown, and else if the line of its parameter is bad
abbrev pub keyed_line : ParamsSoFar → (number : ℕ) → Option Name → (value : List ℕ) → Result ParamsSoFar ParamFault
keyed_line said number None value = Err (Unknown number)
keyed_line said number (Some name) value = named_line said number name value

-- what has been said after one more line, numbered from 1, or the fault of that line
unfoldable pub line_read : ParamsSoFar → (number : ℕ) → List ℕ → Result ParamsSoFar ParamFault
line_read said number line =
    if is_passed line then Ok said else keyed_line said number (name_of (key_in line)) (value_in line)
