-- Rules: the texts of receipts, as they are written.
use Rattle.std.specs.Prelude.{[], ℕ, ℤ, ◌%◌, ◌++◌, ◌+◌, ◌/◌, ◌==◌, ◌∷◌, List, codes, decimal, if◌then◌else◌, nat_lt}
use Rattle.{std.specs.Prelude.{unsigned_abs}, interval_clock.specs.Calendar.{date_after}}
use Rattle.receipt_text.specs.{AmountLines.{optional_lines, total_of}, Part.{Part}}
use Rattle.receipt_text.specs.Common.{Aborted, Closed, Expired, Kind, Receipt, Roam, Stamp, money_text, padded_text}

-- the word for how a hiring ended is `CLOSED`, `ABORTED` or `EXPIRED`; roaming has no receipt and no word
abbrev pub kind_text : Kind → List ℕ
kind_text Closed = codes "CLOSED"
kind_text Aborted = codes "ABORTED"
kind_text Expired = codes "EXPIRED"
kind_text Roam = []

-- a date is written with four digits of the year, and two each of the month and of the date in it
abbrev pub date_text : (year month date : ℕ) → List ℕ
date_text year month date =
    padded_text 4 year ++ (codes "-" ++ (padded_text 2 month ++ (codes "-" ++ padded_text 2 date)))

-- a second of the day is written as hours, minutes and seconds of two digits each
abbrev pub time_text : ℕ → List ℕ
time_text second =
    padded_text 2 (second / 3600)
    ++ (codes ":" ++ (padded_text 2 (second / 60 % 60) ++ (codes ":" ++ padded_text 2 (second % 60))))

-- a local date and time are written with a blank between them
unfoldable pub stamp_text : Stamp → List ℕ
stamp_text stamp = date_text stamp.year stamp.month stamp.date ++ (codes " " ++ time_text stamp.second)

-- a day number is written as its date
unfoldable pub day_text : ℤ → List ℕ
day_text day =
    let date = date_after (unsigned_abs day) in
    date_text date.year date.month date.date

-- the hexadecimal digit of a number below 16 is one of 0 to 9, or one of a to f from 10 on
abbrev pub hex_digit : ℕ → ℕ
hex_digit n = if nat_lt n 10 then 48 + n else 87 + n

-- bytes are written with two lower-case hexadecimal digits each, the one that counts sixteens first
unfoldable pub hex_text : List ℕ → List ℕ
hex_text [] = []
hex_text (byte ∷ bytes) = hex_digit (byte / 16) ∷ hex_digit (byte % 16) ∷ hex_text bytes

-- a receipt's number and its kind are written as a line each
unfoldable pub heading_text : (number : ℕ) → Kind → List ℕ
heading_text number kind =
    codes "RECEIPT " ++ (decimal number ++ (codes "\nKIND " ++ (kind_text kind ++ codes "\n")))

-- what a receipt says of a seal is written as four lines: taxi, constant, date of securing and digest
unfoldable pub part_text : Part → List ℕ
part_text part =
    codes "TAXI " ++ (part.taxi ++ (codes "\nCONSTANT " ++ (decimal part.constant
    ++ (codes "\nSECURED " ++ (day_text part.secured ++ (codes "\nTARIFF " ++ (hex_text part.digest ++ codes "\n")))))))

-- the course of a trip is written as its start, its finish, its tariff position and its distance in metres, each on a
-- line, but without the end of the last line
unfoldable pub course_text : Receipt → List ℕ
course_text receipt =
    codes "START " ++ (stamp_text receipt.start ++ (codes "\nFINISH " ++ (stamp_text receipt.finish
    ++ (codes "\nPOSITION " ++ (decimal receipt.position
    ++ (codes "\nDISTANCE " ++ (money_text 3 receipt.hired_mm ++ codes " m")))))))

-- a trip is written as the four lines of its course
unfoldable pub trip_text : Receipt → List ℕ
trip_text receipt = course_text receipt ++ codes "\n"

-- a calculation is written as one line of the hire fee, the number of the display steps and the size of one
unfoldable pub calculation_text : Receipt → List ℕ
calculation_text receipt =
    codes "CALC " ++ (money_text receipt.decimals receipt.initial ++ (codes " + " ++ (decimal receipt.steps
    ++ (codes " x " ++ (money_text receipt.decimals receipt.step ++ codes "\n")))))

-- an optional line is written as its word and its amount, and as nothing if the amount is 0
unfoldable pub optional_text : (decimals : ℕ) → (word : List ℕ) → (amount : ℕ) → List ℕ
optional_text decimals word amount =
    if amount == 0 then [] else word ++ (money_text decimals amount ++ codes "\n")

-- optional lines are written in their order, in front of a text
abbrev pub in_front : (decimals : ℕ) → List (List ℕ × ℕ) → (text : List ℕ) → List ℕ
in_front decimals [] text = text
in_front decimals ((word, amount) ∷ more) text = optional_text decimals word amount ++ in_front decimals more text

-- a fare is written as a line
unfoldable pub fare_text : Receipt → List ℕ
fare_text receipt = codes "FARE " ++ (money_text receipt.decimals receipt.fare ++ codes "\n")

-- supplements are written as a line
unfoldable pub supplements_text : Receipt → List ℕ
supplements_text receipt =
    codes "SUPPLEMENTS " ++ (money_text receipt.decimals receipt.supplements ++ codes "\n")

-- a receipt's last two lines are the total and the end
unfoldable pub total_text : Receipt → List ℕ
total_text receipt = codes "TOTAL " ++ (money_text receipt.decimals (total_of receipt) ++ codes "\nEND\n")

-- behind the calculation the optional lines are written, and then the fare, the supplements and the last two lines
unfoldable pub last_text : Receipt → List ℕ
last_text receipt =
    in_front receipt.decimals (optional_lines receipt)
    (fare_text receipt ++ (supplements_text receipt ++ total_text receipt))

-- a trip and its fare are written as their lines, from the start to the end
unfoldable pub body_text : Receipt → List ℕ
body_text receipt = trip_text receipt ++ (calculation_text receipt ++ last_text receipt)

-- a receipt is written as the lines of its number and kind, those of the seal, and those of the trip and its fare
unfoldable pub receipt_text : Receipt → Part → List ℕ
receipt_text receipt part = heading_text receipt.number receipt.kind ++ (part_text part ++ body_text receipt)
