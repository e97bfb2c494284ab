-- Rules: receipts as rows of CSV.
use Rattle.std.specs.List.{AllByRecursion, join_with_byte}
use Rattle.std.specs.Prelude.{[], ℕ, ◌++◌, ◌==◌, ◌∷◌, ◌≢◌, List, codes, decimal, flat_map, if◌then◌else◌}
use Rattle.receipt_text.specs.{AmountLines.{total_of}, Receipts.{day_text, hex_text, stamp_text}}
use Rattle.receipt_reading.specs.{Common.{Part, Receipt, kind_text, money_text}, Printed.{Printed}}

-- the heading names the columns
abbrev pub heading : List ℕ
heading =
    codes "receipt,kind,taxi,constant,secured,tariff,start,finish,position,distance,"
    ++ codes "initial,steps,step,minimum,fare,supplements,total\n"

-- the fields of a seal are its taxi, its constant, its date of securing and the digits of its digest, as on the receipt
abbrev pub part_fields : Part → List (List ℕ)
part_fields part =
    part.taxi ∷ decimal part.constant ∷ day_text part.secured ∷ hex_text part.digest ∷ []

-- the fields of a trip are its start, its finish, its tariff position and its distance in metres, as on the receipt
abbrev pub trip_fields : Receipt → List (List ℕ)
trip_fields receipt =
    stamp_text receipt.start ∷ stamp_text receipt.finish ∷ decimal receipt.position
    ∷ money_text 3 receipt.hired_mm ∷ []

-- an amount that is on the receipt only if it is above 0 has an empty field if it is 0
abbrev pub optional_field : (decimals amount : ℕ) → List ℕ
optional_field decimals amount = if amount == 0 then [] else money_text decimals amount

-- the fields of a fare are its parts, the fare itself, the supplements and the total, as on the receipt
abbrev pub amount_fields : Receipt → List (List ℕ)
amount_fields receipt =
    money_text receipt.decimals receipt.initial ∷ decimal receipt.steps ∷ money_text receipt.decimals receipt.step
    ∷ optional_field receipt.decimals receipt.minimum
    ∷ money_text receipt.decimals receipt.fare ∷ money_text receipt.decimals receipt.supplements
    ∷ money_text receipt.decimals (total_of receipt) ∷ []

-- the fields of a receipt are its number, its kind, and those of its seal, its trip and its fare
abbrev pub fields_of : Printed → List (List ℕ)
fields_of it =
    decimal it.receipt.number ∷ kind_text it.receipt.kind
    ∷ (part_fields it.part ++ (trip_fields it.receipt ++ amount_fields it.receipt))

-- the row of a receipt is its fields with commas between them
abbrev pub row_of : Printed → List ℕ
row_of it = join_with_byte 44 (fields_of it)

-- rows are written as a line each
abbrev pub rows_of : List Printed → List ℕ
rows_of receipts = flat_map (λ it. row_of it ++ codes "\n") receipts

-- the word of an optional line stands before its field, unless that is empty
abbrev pub optional_word : (field : List ℕ) → List ℕ
optional_word [] = []
optional_word (byte ∷ bytes) = codes "\nMINIMUM "

-- before each field of a row, of which one is optional, there are words on its receipt
abbrev pub words_before : (optional : List ℕ) → List (List ℕ)
words_before optional =
    codes "RECEIPT " ∷ codes "\nKIND " ∷ codes "\nTAXI " ∷ codes "\nCONSTANT " ∷ codes "\nSECURED "
    ∷ codes "\nTARIFF " ∷ codes "\nSTART " ∷ codes "\nFINISH " ∷ codes "\nPOSITION " ∷ codes "\nDISTANCE "
    ∷ codes " m\nCALC " ∷ codes " + " ∷ codes " x " ∷ optional_word optional
    ∷ codes "\nFARE " ∷ codes "\nSUPPLEMENTS " ∷ codes "\nTOTAL " ∷ []

-- the words of a receipt are those before its fields
abbrev pub words_of : Printed → List (List ℕ)
words_of it = words_before (optional_field it.receipt.decimals it.receipt.minimum)

-- words and fields in turn make a text, behind which an end stands
abbrev pub in_turn : (words fields : List (List ℕ)) → (end : List ℕ) → List ℕ
in_turn [] fields end = end
in_turn (word ∷ words) [] end = end
in_turn (word ∷ words) (field ∷ fields) end = word ++ (field ++ in_turn words fields end)

-- a byte is plain in a row if it is no comma, no quotation mark and no end of a line
pub record IsPlainByte (byte : ℕ) : Type 0 where
  pub comma : byte ≢ 44
  pub quote : byte ≢ 34
  pub feed : byte ≢ 10
  pub carriage : byte ≢ 13

-- a field is plain if each of its bytes is, so that it stands in a row as it is
abbrev pub IsPlain : List ℕ → Type 0
IsPlain field = AllByRecursion IsPlainByte field
