-- Rules: the command `story TARIFF DRIVE PARAMS`.
use Rattle.{std.specs.Prelude.{ℕ, List}, verify_bench.specs.Story.{stories_of}}
use Rattle.bench_commands.specs.{Common.{Command, Event, Setting}, DriveTexts.{drive_text_command}}
use Rattle.bench_commands.specs.StoryText.{stories_text}

-- what is printed of events under a setting tells the story of each hiring that they close on a new store
abbrev pub telling_text : Setting → List Event → List ℕ
telling_text s events = stories_text s.tariff.decimals (stories_of s events)

-- the command `story` prints the text that tells the stories of the hirings of its drive
abbrev pub story_command : Command
story_command = drive_text_command telling_text
