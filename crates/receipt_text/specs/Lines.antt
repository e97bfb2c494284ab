-- For proofs: the lines of a receipt at the front of a text, read in the stages of the code. Grammar says by
-- IsReceiptText which texts are receipts.
use Rattle.{std.specs.List.{prefix_len}, taxi_units.specs.{Identifier.{is_identifier_character}, Reading.{word_at}}}
use Rattle.std.specs.Prelude.{ℕ, ◌&&◌, ◌^◌, List, None, Option, Some, codes, drop, if◌then◌else◌, nat_le, take}
use Rattle.receipt_text.specs.{Common.{◌>>=◌, Aborted, Closed, Expired, Kind, Receipt}, Dates.{day_at, stamp_behind}}
use Rattle.receipt_text.specs.{Digests.{digest_at}, Figures.{amount_behind, amount_below, number_behind}, Part.{Part}}
use Rattle.receipt_text.specs.declared.{calculations.Calculation.{Calculation}, sums.OptionalAmounts.{OptionalAmounts}}
use Rattle.receipt_text.specs.declared.{headings.Heading.{Heading}, sums.Sums.{Sums}, trips.TripLines.{TripLines}}

-- a kind of hiring is read if its word was found, and what `others` gives if it wasn't
abbrev pub kind_or : Kind → Option (List ℕ) → Option (Kind × List ℕ) → Option (Kind × List ℕ)
kind_or kind (Some rest) others = Some (kind, rest)
kind_or kind None others = others

-- the word of a kind of hiring stands at the front, and this text behind it
abbrev pub kind_at : List ℕ → Option (Kind × List ℕ)
kind_at text =
    kind_or Closed (word_at (codes "CLOSED") text)
    (kind_or Aborted (word_at (codes "ABORTED") text)
    (kind_or Expired (word_at (codes "EXPIRED") text) None))

-- the lines of a number and of a kind stand at the front, and this text behind them
unfoldable pub heading_at : List ℕ → Option (Heading × List ℕ)
heading_at text = do
  number ← number_behind (codes "RECEIPT ") (10 ^ 18) text
  a ← word_at (codes "\nKIND ") number.1
  kind ← kind_at a
  rest ← word_at (codes "\n") kind.1
  Some (record { number = number.0; kind = kind.0 }, rest)

-- the first `count` bytes are a taxi identifier if they are 1 to 16, and this text stands behind them
abbrev pub taxi_of : (count : ℕ) → List ℕ → Option (List ℕ × List ℕ)
taxi_of count text = if nat_le 1 count && nat_le count 16 then Some (take count text, drop count text) else None

-- the characters of taxi identifiers at the front make this one, and this text stands behind them
unfoldable pub taxi_at : List ℕ → Option (List ℕ × List ℕ)
taxi_at text = taxi_of (prefix_len is_identifier_character text) text

-- the four lines of a part of a seal stand at the front, and this text behind them
unfoldable pub part_at : List ℕ → Option (Part × List ℕ)
part_at text = do
  a ← word_at (codes "TAXI ") text
  taxi ← taxi_at a
  constant ← number_behind (codes "\nCONSTANT ") (10 ^ 9) taxi.1
  b ← word_at (codes "\nSECURED ") constant.1
  secured ← day_at b
  c ← word_at (codes "\nTARIFF ") secured.1
  digest ← digest_at c
  rest ← word_at (codes "\n") digest.1
  Some (record { taxi = taxi.0; constant = constant.0; secured = secured.0; digest = digest.0 }, rest)

-- the lines of a trip, from its start to its distance, stand at the front, and this text behind them
unfoldable pub trip_at : List ℕ → Option (TripLines × List ℕ)
trip_at text = do
  start ← stamp_behind (codes "START ") text
  finish ← stamp_behind (codes "\nFINISH ") start.1
  position ← number_behind (codes "\nPOSITION ") 100 finish.1
  hired ← amount_behind (codes "\nDISTANCE ") (10 ^ 23) position.1
  rest ← word_at (codes " m\n") hired.1
  Some (record { start = start.0; finish = finish.0; position = position.0; hired_mm = hired.0.units }, rest)

-- the line of a calculation stands at the front, and this text behind it
unfoldable pub calculation_at : List ℕ → Option (Calculation × List ℕ)
calculation_at text = do
  initial ← amount_behind (codes "CALC ") (10 ^ 18) text
  steps ← number_behind (codes " + ") (10 ^ 18) initial.1
  step ← amount_behind (codes " x ") (10 ^ 18) steps.1
  rest ← word_at (codes "\n") step.1
  Some (record { decimals = initial.0.decimals; initial = initial.0.units; steps = steps.0; step = step.0.units }, rest)

-- the amount of an optional line is read from what stands behind its word, and is 0 if the word wasn't found
abbrev pub optional_from : (text : List ℕ) → Option (List ℕ) → Option (ℕ × List ℕ)
optional_from text None = Some (0, text)
optional_from text (Some after) = do
  amount ← amount_below (10 ^ 18) after
  rest ← word_at (codes "\n") amount.1
  Some (amount.0.units, rest)

-- an optional line of a word stands at the front, and this text behind it; without such a line the amount is 0
unfoldable pub optional_at : (word : List ℕ) → List ℕ → Option (ℕ × List ℕ)
optional_at word text = optional_from text (word_at word text)

-- the optional lines that are there stand at the front, and this text behind them
unfoldable pub optional_lines_at : List ℕ → Option (OptionalAmounts × List ℕ)
optional_lines_at text = do
  minimum ← optional_at (codes "MINIMUM ") text
  Some (record { minimum = minimum.0 }, minimum.1)

-- the lines of a fare and of supplements stand at the front, and this text behind them
unfoldable pub sums_at : List ℕ → Option (Sums × List ℕ)
sums_at text = do
  fare ← amount_behind (codes "FARE ") (10 ^ 18) text
  supplements ← amount_behind (codes "\nSUPPLEMENTS ") (10 ^ 18) fare.1
  rest ← word_at (codes "\n") supplements.1
  Some (record { fare = fare.0.units; supplements = supplements.0.units }, rest)

-- a receipt has the number, the times and the amounts that its lines say
abbrev pub receipt_of : Heading → TripLines → Calculation → OptionalAmounts → Sums → Receipt
receipt_of heading trip calculation optional sums =
    record {
      number = heading.number;
      kind = heading.kind;
      start = trip.start;
      finish = trip.finish;
      position = trip.position;
      hired_mm = trip.hired_mm;
      initial = calculation.initial;
      minimum = optional.minimum;
      steps = calculation.steps;
      step = calculation.step;
      fare = sums.fare;
      supplements = sums.supplements;
      decimals = calculation.decimals;
    }

-- the lines at the front, down to the supplements, say this receipt and this part of a seal
unfoldable pub receipt_at : List ℕ → Option (Receipt × Part)
receipt_at text = do
  heading ← heading_at text
  part ← part_at heading.1
  trip ← trip_at part.1
  calculation ← calculation_at trip.1
  optional ← optional_lines_at calculation.1
  sums ← sums_at optional.1
  Some (receipt_of heading.0 trip.0 calculation.0 optional.0 sums.0, part.0)
