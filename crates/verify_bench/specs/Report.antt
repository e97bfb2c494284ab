-- Rules: the report, which is a header and a row for each place of what is expected and of what was read.
use Rattle.std.specs.Prelude.{[], ℕ, ◌++◌, ◌+◌, ◌∷◌, List, None, Option, Some, codes, decimal, flat_map, length, max}
use Rattle.{std.specs.Prelude.{option_map, slice_get, suc, zero}, csv.specs.Writing.{default_writer, row_text}}
use Rattle.taxi_units.specs.{Number.{money_text}, declared.receipt.Kind.TheVariants.{Aborted, Closed, Expired, Roam}}
use Rattle.verify_bench.specs.{Common.{Expected, Kind, Reading, Verdict}, Verdicts.{verdict_of}}
use Rattle.verify_bench.specs.declared.judging.Verdict.TheVariants as verdicts

-- the header of a report names its nine columns
abbrev pub report_header : List (List ℕ)
report_header = codes "hiring" ∷ codes "kind" ∷ codes "fare" ∷ codes "read_fare" ∷ codes "distance"
    ∷ codes "read_distance" ∷ codes "time" ∷ codes "read_time" ∷ codes "verdict" ∷ []

-- a hiring ended with one of three words; an entry of roaming is no hiring, and has no word
abbrev pub kind_word : Kind → List ℕ
kind_word Closed = codes "CLOSED"
kind_word Aborted = codes "ABORTED"
kind_word Expired = codes "EXPIRED"
kind_word Roam = []

-- a verdict has a word of its own
abbrev pub verdict_word : Verdict → List ℕ
verdict_word verdicts.Pass = codes "PASS"
verdict_word verdicts.Fare = codes "FARE"
verdict_word verdicts.Distance = codes "DISTANCE"
verdict_word verdicts.Time = codes "TIME"

-- the kind is left empty if nothing is expected
abbrev pub kind_or_none : Option Expected → List ℕ
kind_or_none None = []
kind_or_none (Some expected) = kind_word expected.kind

-- an amount is written with its decimals, and left empty if there is none
abbrev pub amount_or_none : (decimals : ℕ) → Option ℕ → List ℕ
amount_or_none decimals None = []
amount_or_none decimals (Some units) = money_text decimals units

-- the last field of a row is the verdict if there is a hiring and a reading, and else says which of them is missing
abbrev pub finding : (step : ℕ) → Option Expected → Option Reading → List ℕ
finding step None None = []
finding step None (Some reading) = codes "EXTRA"
finding step (Some expected) None = codes "MISSING"
finding step (Some expected) (Some reading) = verdict_word (verdict_of expected reading step)

-- the row of a place, counted from 1, has fares with the tariff's decimals, distances with three and times with one;
-- what isn't there is left empty
abbrev pub row_at : (step decimals place : ℕ) → Option Expected → Option Reading → List (List ℕ)
row_at step decimals place expected reading =
    decimal place
    ∷ kind_or_none expected
    ∷ amount_or_none decimals (option_map (λ e. e.fare) expected)
    ∷ amount_or_none decimals (option_map (λ r. r.fare) reading)
    ∷ amount_or_none 3 (option_map (λ e. e.hired_mm) expected)
    ∷ amount_or_none 3 (option_map (λ r. r.distance_mm) reading)
    ∷ amount_or_none 1 (option_map (λ e. e.ticks) expected)
    ∷ amount_or_none 1 (option_map (λ r. r.tenths) reading)
    ∷ finding step expected reading
    ∷ []

-- the rows of a report to a place are the header and the row of each place before it
unfoldable pub rows_to : (step decimals : ℕ) → List Expected → List Reading → (places : ℕ) → List (List (List ℕ))
rows_to step decimals expected readings zero = report_header ∷ []
rows_to step decimals expected readings (suc places) =
    rows_to step decimals expected readings places
    ++ row_at step decimals (places + 1) (slice_get expected places) (slice_get readings places) ∷ []

-- rows are written as csv writes them with its default settings
abbrev pub rows_text : List (List (List ℕ)) → List ℕ
rows_text rows = flat_map (row_text default_writer) rows

-- the report has the header and a row for each place of the longer of its two lists
abbrev pub report_text : (step decimals : ℕ) → List Expected → List Reading → List ℕ
report_text step decimals expected readings =
    rows_text (rows_to step decimals expected readings (max (length expected) (length readings)))
