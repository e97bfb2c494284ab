-- Rules: the command `gen SEED N`.
use Rattle.std.specs.Prelude.{[], ℕ, ◌*◌, ◌++◌, ◌+◌, ◌≡◌, ◌≤◌, Err, List, None, Ok, Result, codes, decimal, length, pos}
use Rattle.{totals_record.specs.States.{first_state}, meter_model.specs.Setting.{under_offset}}
use Rattle.{meter_run.specs.Runs.{run_deeds}, call_ends.specs.{Answer.{shows}, NumberLine.{number_line}}}
use Rattle.store_commands.specs.TotalsText.{summary_text}
use Rattle.drive_commands.specs.Common.{Answer, Command, Durable, Refusal, Setting, Single, Tree, after_deeds}
use Rattle.drive_commands.specs.Common.{bad_tariff, events_in, generated, tariff_in}

-- the city tariff, under which generated drives are run
unfoldable pub city_text : List ℕ
city_text =
    codes "decimals 2\nstep 0.20 ahead\npositions 2\nzones 2\nholiday 2026-01-01\n"
    ++ (codes "holiday 2026-12-25\nsupplement 1 2.00 max 4\nsupplement 2 0.50 max 9\n"
    ++ (codes "supplement 3 5.00 max 1\n"
    ++ (codes "initial 5.00 covers 0.40 when time 22:00..06:00 or day sun or holiday\n"
    ++ (codes "initial 4.20 covers 0.40\n"
    ++ (codes "rate 0.20 per 80.0 m, 0.20 per 20.0 s when position 2 or zone 2\n"
    ++ (codes "rate 0.20 per 90.0 m, 0.20 per 20.0 s when time 22:00..06:00 or day sun or holiday\n"
    ++ (codes "rate 0.20 per 100.0 m, 0.20 per 20.0 s when after 5000.0 m\n"
    ++ codes "rate 0.20 per 125.0 m, 0.20 per 25.0 s\n")))))))

-- a generated drive is run with a constant of 10,000, in mode S, with a hold of a minute and local time an hour ahead
-- of UTC
abbrev pub generated_setting : Tree → Setting
generated_setting t = under_offset t 10000 Single 60 (pos 3600)

-- the state after a drive is that of a new store after all deeds of the drive
abbrev pub state_after : Setting → (drive : List ℕ) → Durable
state_after s drive = after_deeds first_state (run_deeds s first_state drive)

-- the number of events of a generated drive is how many events its lines give
abbrev pub event_count : (seed trips : ℕ) → ℕ
event_count seed trips = length (events_in (generated seed trips))

-- the text of a generated drive is a line of its seed and its trips, one of its number of events, and its totals
abbrev pub generated_text : (seed trips decimals : ℕ) → Durable → List ℕ
generated_text seed trips decimals durable =
    codes "GEN " ++ (decimal seed ++ (codes " " ++ (decimal trips ++ (codes "\n"
    ++ (number_line (codes "EVENTS ") (event_count seed trips) ++ summary_text decimals durable)))))

-- the answer to a seed and a number of trips is the text of the drive under a sound tariff, or why there is none
abbrev pub gen_answer : (seed trips : ℕ) → Result Tree Refusal → Answer
gen_answer seed trips (Err why) = bad_tariff why
gen_answer seed trips (Ok t) =
    shows (generated_text seed trips t.decimals (state_after (generated_setting t) (generated seed trips)))

-- the command `gen` reads no file and opens no store, so its answer is known whatever is told. It takes at most 64
-- steps for each event, 64 for the supply drop at the end of the drive, and 64 for all else.
abbrev pub gen_command : (seed trips : ℕ) → Command
gen_command seed trips = record {
  answer = λ contents image. gen_answer seed trips (tariff_in city_text);
  drive = None;
  shown = λ contents image taken. [];
  reads = λ word. ⊥;
  turn = λ word. word;
  reads_all = λ status. status ≡ 0;
  comes_to = λ contents image word taken. ⊥;
  may_lack = λ contents image taken. Unit {0};
  told = λ files_tell image_told. Unit {0};
  opens = ⊥;
  writes = λ ended. ⊥;
  steps = λ files_tell image_told contents left image before now.
      now ≤ before + (64 + 64) + 64 * event_count seed trips;
}
