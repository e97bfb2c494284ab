-- By law: the parameters that a text is read as, or its first fault. The laws texts_say_their_parameters,
-- texts_are_too_long_or_lack_a_parameter and texts_say_parameters_line_by_line say which they are.
use Rattle.std.specs.Prelude.{[], ℕ, ℤ, ◌+◌, ◌∷◌, Err, List, None, Ok, Option, Result, Some, if◌then◌else◌, length}
use Rattle.{std.specs.Prelude.{nat_lt}, seal_record.specs.declared.params.ParamFault.TheVariants.{Missing}}
use Rattle.seal_record.specs.Common.{Constant, Hold, Mode, Offset, ParamFault, Params, Secured, Taxi, TooLong}
use Rattle.seal_record.specs.Limits.{longest_text}
use Rattle.seal_record.specs.{Lines.{lines_of}, ParamLineStages.{line_read}, ParamsSoFar.{ParamsSoFar, no_params_yet}}
use Rattle.seal_record.specs.declared.params.Name.TheVariants as name

-- reading goes on if nothing was wrong, and else ends with the fault
abbrev pub and_then : {A B : Type 0} → Result A ParamFault → (A → Result B ParamFault) → Result B ParamFault
and_then (Ok x) f = f x
and_then (Err fault) f = Err fault

-- what has been said after these lines, of which the first has this number, or the fault of the first bad one
unfoldable pub lines_read : ParamsSoFar → (number : ℕ) → List (List ℕ) → Result ParamsSoFar ParamFault
lines_read said number [] = Ok said
lines_read said number (line ∷ lines) =
    and_then (line_read said number line) (λ more. lines_read more (number + 1) lines)

-- parameters of which some may be missing are all of them, or the fault of the first that is missing
abbrev pub whole_of : Option (List ℕ) → Option ℕ → Option Mode → Option ℕ → List (ℕ × ℤ) → Option ℤ
    → Result Params ParamFault
whole_of None constant mode hold_time offsets secured = Err (Missing Taxi)
whole_of (Some taxi) None mode hold_time offsets secured = Err (Missing Constant)
whole_of (Some taxi) (Some constant) None hold_time offsets secured = Err (Missing name.Mode)
whole_of (Some taxi) (Some constant) (Some mode) None offsets secured = Err (Missing Hold)
whole_of (Some taxi) (Some constant) (Some mode) (Some hold_time) [] secured = Err (Missing Offset)
whole_of (Some taxi) (Some constant) (Some mode) (Some hold_time) (pair ∷ pairs) None = Err (Missing Secured)
whole_of (Some taxi) (Some constant) (Some mode) (Some hold_time) (pair ∷ pairs) (Some secured) =
    Ok (record {
      taxi = record { items = taxi };
      constant = constant;
      mode = mode;
      hold_time = hold_time;
      offsets = pair ∷ pairs;
      secured = secured;
    })

-- what the lines have said is all parameters, or the fault of the first that is missing
abbrev pub whole : ParamsSoFar → Result Params ParamFault
whole said = whole_of said.taxi said.constant said.mode said.hold_time said.offsets said.secured

-- a text is read as the parameters that its lines say, or as its first fault; one of more than 65,536 bytes is too long
unfoldable pub params_read : List ℕ → Result Params ParamFault
params_read text =
    if nat_lt longest_text (length text) then Err TooLong
    else and_then (lines_read no_params_yet 1 (lines_of text)) whole
