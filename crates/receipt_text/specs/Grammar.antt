-- Rules: the grammar of receipts: which texts are receipts, line by line.
use Rattle.std.specs.Prelude.{[], ℕ, ℤ, ◌*◌, ◌++◌, ◌+◌, ◌-◌, ◌<◌, ◌∷◌, ◌≡◌, ◌≤◌, ◌⊎◌, List, codes}
use Rattle.{taxi_units.specs.Written.{IsAmountText, IsNumberText, IsPaddedText}, receipt_text.specs.Part.{IsPart, Part}}
use Rattle.{interval_clock.specs.Calendar.{IsDateOf}, receipt_text.specs.AmountLines.{optional_lines, total_of}}
use Rattle.receipt_text.specs.Common.{Aborted, Closed, Expired, IsReceipt, Kind, Receipt, Roam, Stamp}

-- a text is exactly the wanted one if it has the same bytes
abbrev pub IsExactly : List ℕ → List ℕ → Type 0
IsExactly wanted text = text ≡ wanted

-- a text is the word of a kind of hiring; roaming has none, since no receipt is printed for it
abbrev pub IsKind : Kind → List ℕ → Type 0
IsKind Closed text = text ≡ codes "CLOSED"
IsKind Aborted text = text ≡ codes "ABORTED"
IsKind Expired text = text ≡ codes "EXPIRED"
IsKind Roam text = ⊥

-- a text is that of a date if it has the form YYYY-MM-DD, with leading zeros
pub record IsDateText (year month date : ℕ) (text : List ℕ) : Type 0 where
  pub years : List ℕ
  pub months : List ℕ
  pub dates : List ℕ
  pub text_is : text ≡ years ++ (codes "-" ++ (months ++ (codes "-" ++ dates)))
  pub years_are : IsPaddedText 4 year years
  pub months_are : IsPaddedText 2 month months
  pub dates_are : IsPaddedText 2 date dates

-- a text is that of a second of the day if it has the form HH:MM:SS, with leading zeros
pub record IsTimeText (second : ℕ) (text : List ℕ) : Type 0 where
  pub hour : ℕ
  pub minute : ℕ
  pub rest : ℕ
  pub hours : List ℕ
  pub minutes : List ℕ
  pub seconds : List ℕ
  pub second_is : second ≡ hour * 3600 + minute * 60 + rest
  pub within : (minute < 60) × (rest < 60)
  pub text_is : text ≡ hours ++ (codes ":" ++ (minutes ++ (codes ":" ++ seconds)))
  pub hours_are : IsPaddedText 2 hour hours
  pub minutes_are : IsPaddedText 2 minute minutes
  pub seconds_are : IsPaddedText 2 rest seconds

-- a text is that of a stamp if it is the local date and time, with a blank between them
pub record IsStampText (stamp : Stamp) (text : List ℕ) : Type 0 where
  pub date : List ℕ
  pub time : List ℕ
  pub text_is : text ≡ date ++ (codes " " ++ time)
  pub date_is : IsDateText stamp.year stamp.month stamp.date date
  pub time_is : IsTimeText stamp.second time

-- a text is that of a day number if it is the number's date in the calendar
pub record IsDayText (day : ℤ) (text : List ℕ) : Type 0 where
  pub year : ℕ
  pub month : ℕ
  pub date : ℕ
  pub date_is : IsDateOf day year month date
  pub text_is : IsDateText year month date text

-- a byte is the hexadecimal digit of a value below 16: one of 0 to 9 for a value below 10, and one of a to f from 10 on
abbrev pub IsHexDigit : ℕ → ℕ → Type 0
IsHexDigit value c = ((value < 10) × (c ≡ 48 + value)) ⊎ ((10 ≤ value) × (value < 16) × (c ≡ 97 + (value - 10)))

-- a text has two hexadecimal digits for each byte, the one that counts sixteens first
abbrev pub IsHexText : List ℕ → List ℕ → Type 0
IsHexText [] text = text ≡ []
IsHexText (byte ∷ bytes) text =
    (high : ℕ) × (low : ℕ) × (c : ℕ) × (d : ℕ) × (rest : List ℕ)
    × (text ≡ c ∷ d ∷ rest) × (byte ≡ high * 16 + low) × IsHexDigit high c × IsHexDigit low d × IsHexText bytes rest

-- a text is a distance if it has metres, three decimals for the millimetres, a blank and `m`
pub record IsDistance (millimetres : ℕ) (text : List ℕ) : Type 0 where
  pub metres : List ℕ
  pub text_is : text ≡ metres ++ codes " m"
  pub metres_are : IsAmountText 3 millimetres metres

-- a text has the initial hire fee, and the number and the size of the display steps above it
pub record IsCalculation (receipt : Receipt) (text : List ℕ) : Type 0 where
  pub initial : List ℕ
  pub steps : List ℕ
  pub step : List ℕ
  pub text_is : text ≡ initial ++ (codes " + " ++ (steps ++ (codes " x " ++ step)))
  pub initial_is : IsAmountText receipt.decimals receipt.initial initial
  pub steps_are : IsNumberText receipt.steps steps
  pub step_is : IsAmountText receipt.decimals receipt.step step

-- a text begins with a line of a word, a value of one form and an LF, and what follows the line has another form
pub record Line (word : List ℕ) (Value : List ℕ → Type 0) (Rest : List ℕ → Type 0) (text : List ℕ) : Type 0 where
  pub value : List ℕ
  pub rest : List ℕ
  pub text_is : text ≡ word ++ (value ++ 10 ∷ rest)
  pub value_is : Value value
  pub rest_is : Rest rest

-- a text is an amount of money with the decimals of the receipt
abbrev pub IsMoney : Receipt → (units : ℕ) → List ℕ → Type 0
IsMoney receipt units text = IsAmountText receipt.decimals units text

-- a text is the lines of the fare, of the supplements, of the total, and of the end
abbrev pub AreAmounts : Receipt → List ℕ → Type 0
AreAmounts receipt =
    Line (codes "FARE ") (IsMoney receipt receipt.fare)
    (Line (codes "SUPPLEMENTS ") (IsMoney receipt receipt.supplements)
    (Line (codes "TOTAL ") (IsMoney receipt (total_of receipt)) (IsExactly (codes "END\n"))))

-- a text begins with optional lines, each there exactly if its amount is above 0, and the text behind them has another
-- form
abbrev pub HasOptional : Receipt → List (List ℕ × ℕ) → (Rest : List ℕ → Type 0) → List ℕ → Type 0
HasOptional receipt [] Rest = Rest
HasOptional receipt ((word, amount) ∷ more) Rest = λ text.
    ((0 < amount) × Line word (IsMoney receipt amount) (HasOptional receipt more Rest) text)
    ⊎ ((amount ≡ 0) × HasOptional receipt more Rest text)

-- a text is the lines of a receipt behind its calculation: the optional ones, and those of the amounts
abbrev pub AreLastLines : Receipt → List ℕ → Type 0
AreLastLines receipt = HasOptional receipt (optional_lines receipt) (AreAmounts receipt)

-- a text is the lines of the trip, from its start to the calculation of its fare, and behind them the last lines
abbrev pub AreTripLines : Receipt → List ℕ → Type 0
AreTripLines receipt =
    Line (codes "START ") (IsStampText receipt.start)
    (Line (codes "FINISH ") (IsStampText receipt.finish)
    (Line (codes "POSITION ") (IsNumberText receipt.position)
    (Line (codes "DISTANCE ") (IsDistance receipt.hired_mm)
    (Line (codes "CALC ") (IsCalculation receipt) (AreLastLines receipt)))))

-- a text is all lines of a receipt, from its number to its end
abbrev pub AreReceiptLines : Receipt → Part → List ℕ → Type 0
AreReceiptLines receipt part =
    Line (codes "RECEIPT ") (IsNumberText receipt.number)
    (Line (codes "KIND ") (IsKind receipt.kind)
    (Line (codes "TAXI ") (IsExactly part.taxi)
    (Line (codes "CONSTANT ") (IsNumberText part.constant)
    (Line (codes "SECURED ") (IsDayText part.secured)
    (Line (codes "TARIFF ") (IsHexText part.digest) (AreTripLines receipt))))))

-- a text is the receipt of a hiring and of a part of a seal if it has their lines and both are in their ranges
pub record IsReceiptText (text : List ℕ) (receipt : Receipt) (part : Part) : Type 0 where
  pub receipt_is : IsReceipt receipt
  pub part_is : IsPart part
  pub lines : AreReceiptLines receipt part text
