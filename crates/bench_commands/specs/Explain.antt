-- Rules: the command `explain TARIFF DRIVE PARAMS`.
use Rattle.{std.specs.Prelude.{ℕ, List}, verify_bench.specs.TripExplanations.{explanations_of}}
use Rattle.bench_commands.specs.{Common.{Command, Event, Setting}, ExplainedText.{explanations_text}}
use Rattle.bench_commands.specs.DriveTexts.{drive_text_command}

-- what is printed of events under a setting explains each hiring that they close on a new store
abbrev pub explanation_text : Setting → List Event → List ℕ
explanation_text s events = explanations_text s (explanations_of s events)

-- the command `explain` prints the text that explains the hirings of its drive
abbrev pub explain_command : Command
explain_command = drive_text_command explanation_text
