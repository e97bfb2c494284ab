-- Rules: the text by which the stories of hirings are told.
use Rattle.std.specs.Prelude.{[], ℕ, ◌++◌, List, None, Option, Some, codes, decimal, flat_map}
use Rattle.{taxi_units.specs.declared.receipt.Kind.{Kind}, receipt_text.specs.Receipts.{kind_text, stamp_text}}
use Rattle.{receipt_text.specs.Texts.{refusal_text}, verify_bench.specs.Story.{HiringStory}}
use Rattle.verify_bench.specs.declared.moment.{Happening.{Happening, TheVariants.{Stopped, Zone}}, Moment.{Moment}}
use Rattle.verify_bench.specs.declared.moment.Happening.TheVariants.{Back, ClockAhead, ClockBehind, Ended, Extra, Hired}
use Rattle.verify_bench.specs.declared.moment.Happening.TheVariants.{HiredAgain, Lost, Position, Rate, Refused, Shown}
use Rattle.bench_commands.specs.{Common.{money_text}, ExplainedText.{numbered_texts, title_text}}

-- ---- what happened

-- a word has a number behind it, and ends its line
abbrev pub numbered_line : (word : List ℕ) → (number : ℕ) → List ℕ
numbered_line word number = word ++ (decimal number ++ codes "\n")

-- a word has a fare behind it and, behind a `+`, the supplements, which are no part of the fare, and ends its line
abbrev pub sums_line : (decimals : ℕ) → (word : List ℕ) → (fare supplements : ℕ) → List ℕ
sums_line decimals word fare supplements =
    word ++ (money_text decimals fare ++ (codes " +" ++ (money_text decimals supplements ++ codes "\n")))

-- the minimum fare of a line is told by that line, also one of 0, and as nothing without a line
abbrev pub minimum_words : Option ℕ → List ℕ
minimum_words None = []
minimum_words (Some line) = codes " MINIMUM " ++ decimal line

-- a hiring is told by its tariff position, its zone, and the lines of its fees
unfoldable pub hired_line : (position zone fee : ℕ) → (minimum : Option ℕ) → List ℕ
hired_line position zone fee minimum =
    codes "HIRED T" ++ (decimal position ++ (codes " Z" ++ (decimal zone ++ (codes " FEE " ++ (decimal fee
    ++ (minimum_words minimum ++ codes "\n"))))))

-- an end is told by its word, the fare and the supplements
unfoldable pub end_line : (decimals : ℕ) → Kind → (fare supplements : ℕ) → List ℕ
end_line decimals kind fare supplements = kind_text kind ++ sums_line decimals (codes " ") fare supplements

-- what happened is told in these words, up to the end of the line
abbrev pub happening_line : (decimals : ℕ) → Happening → List ℕ
happening_line decimals (Hired position zone fee minimum) = hired_line position zone fee minimum
happening_line decimals (Rate line) = numbered_line (codes "RATE ") line
happening_line decimals Stopped = codes "STOPPED\n"
happening_line decimals HiredAgain = codes "HIRED AGAIN\n"
happening_line decimals (Position n) = numbered_line (codes "POSITION ") n
happening_line decimals (Zone n) = numbered_line (codes "ZONE ") n
happening_line decimals (Extra n) = numbered_line (codes "EXTRA ") n
happening_line decimals (Refused why) = refusal_text why
happening_line decimals (Shown fare supplements) = sums_line decimals (codes "SHOWN ") fare supplements
happening_line decimals Lost = codes "LOST\n"
happening_line decimals Back = codes "BACK\n"
happening_line decimals (ClockAhead seconds) = numbered_line (codes "CLOCK +") seconds
happening_line decimals (ClockBehind seconds) = numbered_line (codes "CLOCK -") seconds
happening_line decimals (Ended kind fare supplements) = end_line decimals kind fare supplements

-- ---- moments and stories

-- a moment is told by the ticks and the pulses of the trip, the local date and time, and what happened
unfoldable pub moment_text : (decimals : ℕ) → Moment → List ℕ
moment_text decimals moment =
    decimal moment.ticks ++ (codes " " ++ (decimal moment.pulses ++ (codes " " ++ (stamp_text moment.at
    ++ (codes " " ++ happening_line decimals moment.happening)))))

-- a story is told by its title, a line for each moment, and a last line
unfoldable pub story_text : (decimals number : ℕ) → HiringStory → List ℕ
story_text decimals number story =
    title_text number story.kind ++ (flat_map (moment_text decimals) story.moments ++ codes "END\n")

-- the stories of the hirings of a drive are told one after the other, and numbered from 1
abbrev pub stories_text : (decimals : ℕ) → List HiringStory → List ℕ
stories_text decimals stories = numbered_texts (story_text decimals) 1 stories
