-- Rules: the commands of the program. What each of them is stands in a file of its own.
use Rattle.{std.specs.Prelude.{ℕ, List, None, Option, Some}, call_ends.specs.Course.{IsReadOnlyCommand}}
use Rattle.tariff_commands.specs.{Check.{check_command}, Form.{form_command}, Lines.{lines_command}}
use Rattle.tariff_commands.specs.{Compare.{compare_command}, Faults.{faults_command}, Tables.{tables_command}}
use Rattle.store_commands.specs.{Mark.{mark_command}, Port.{port_command}, Seal.{seal_command}, Totals.{totals_command}}
use Rattle.store_commands.specs.{Offsets.{offsets_command}, Sealed.{sealed_command}, Shifts.{shifts_command}}
use Rattle.{rate_commands.specs.Rates.{rates_command}, near_commands.specs.Near.{near_command}}
use Rattle.bench_commands.specs.{Bench.{bench_command}, Explain.{explain_command}, Story.{story_command}}
use Rattle.drive_commands.specs.{Fare.{fare_command}, Generate.{gen_command}, Run.{run_command}}
use Rattle.commands.specs.{Common.{Command}, declared.words.Row.{Row, TheVariants.{Shifts, Story, Tables, Totals}}}
use Rattle.commands.specs.{NoCommand.{no_command}, Words.{row_of}}
use Rattle.commands.specs.declared.words.Row.TheVariants.{Bench, Check, Compare, Explain, Fare, Faults, Form, Gen}
use Rattle.commands.specs.declared.words.Row.TheVariants.{Lines, Mark, Near, Offsets, Port, Rates, Run, Seal, Sealed}

-- each row of words is a command, and words that are no row are refused
abbrev pub command_of : Option Row → Command
command_of None = no_command
command_of (Some Check) = check_command
command_of (Some (Tables k)) = tables_command k
command_of (Some (Fare k)) = fare_command k
command_of (Some Totals) = totals_command
command_of (Some Seal) = seal_command
command_of (Some Run) = run_command
command_of (Some Bench) = bench_command
command_of (Some (Gen seed trips)) = gen_command seed trips
command_of (Some Port) = port_command
command_of (Some (Offsets years)) = offsets_command years
command_of (Some (Mark driver)) = mark_command driver
command_of (Some Shifts) = shifts_command
command_of (Some Sealed) = sealed_command
command_of (Some Form) = form_command
command_of (Some (Lines k)) = lines_command k
command_of (Some (Rates k)) = rates_command k
command_of (Some Explain) = explain_command
command_of (Some Story) = story_command
command_of (Some (Compare k)) = compare_command k
command_of (Some Faults) = faults_command
command_of (Some Near) = near_command

-- words only look at the store if their command opens the store and writes nothing; these commands are the six of
-- `IsStoreQuery`, as the law six_commands_only_look says
abbrev pub IsReadOnlyRow : Option Row → Type 0
IsReadOnlyRow row = IsReadOnlyCommand (command_of row)

-- a row is a look at the store if it is one of `totals`, `bench`, `port`, `mark`, `shifts` and `sealed`
abbrev pub IsStoreQuery : Option Row → Type 0
IsStoreQuery (Some Totals) = Unit {0}
IsStoreQuery (Some Bench) = Unit {0}
IsStoreQuery (Some Port) = Unit {0}
IsStoreQuery (Some (Mark driver)) = Unit {0}
IsStoreQuery (Some Shifts) = Unit {0}
IsStoreQuery (Some Sealed) = Unit {0}
IsStoreQuery row = ⊥

-- words call the command of the row that they are
abbrev pub called : List (List ℕ) → Command
called words = command_of (row_of words)
