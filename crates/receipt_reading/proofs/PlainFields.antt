-- The fields of a row are plain, so a row that is cut at its commas gives them.
use Rattle.std.specs.{Fmt.{digit_glyph, digits, digits_onto}, List.{AllByRecursion, join_with_byte, slice_split}}
use Rattle.std.specs.Prelude.{ℤ, ◌%◌, ◌-◌, ◌/◌, ◌==◌, codes, decimal, if◌then◌else◌, nat_lt, replicate, unsigned_abs}
use Rattle.std.proofs.Common.{[], ℕ, ◌++◌, ◌+◌, ◌^◌, ◌∙◌, ◌∷◌, ◌≡◌, ◌≢◌, ◌≤◌, All, Bool, List, ap, append_assoc, arith}
use Rattle.{std.proofs.Common.{false, length, refl, subst, suc, sym, true, zero}, taxi_units.specs.Number.{padded_text}}
use Rattle.std.proofs.lemmas.{Bool.Decides.{nat_tests}, List.Elements.{All-from_recursion, recursion_from_All}}
use Rattle.{std.proofs.lemmas.List.Splits.{slice_split_at, slice_split_none}, receipt_text.specs.AmountLines.{total_of}}
use Rattle.taxi_units.specs.declared.receipt.{Kind.TheVariants.{Aborted, Closed, Expired}, Stamp.{Stamp}}
use Rattle.{interval_clock.specs.Calendar.{date_after}, receipt_reading.specs.Printed.{IsPrinted, Printed}}
use Rattle.receipt_text.specs.Receipts.{date_text, day_text, hex_digit, hex_text, stamp_text, time_text}
use Rattle.receipt_reading.specs.Common.{IsIdentifierCharacter, IsTaxi, Kind, Part, Receipt, Roam, kind_text}
use Rattle.receipt_reading.specs.{Common.{money_text}, ReceiptRows.{part_fields, row_of, trip_fields}}
use Rattle.receipt_reading.specs.ReceiptRows.{IsPlain, IsPlainByte, amount_fields, fields_of, optional_field}

-- ---- bytes

-- a byte from `-` on is plain
from_hyphen : (byte : ℕ) → 45 ≤ byte → IsPlainByte byte
from_hyphen byte low = record {
  comma = λ e. omega (arith, low, e);
  quote = λ e. omega (arith, low, e);
  feed = λ e. omega (arith, low, e);
  carriage = λ e. omega (arith, low, e);
}

blank_plain : IsPlainByte 32
blank_plain = record {
  comma = λ e. omega (arith, e);
  quote = λ e. omega (arith, e);
  feed = λ e. omega (arith, e);
  carriage = λ e. omega (arith, e);
}

plain_append : (a b : List ℕ) → IsPlain a → IsPlain b → IsPlain (a ++ b)
plain_append [] b h k = k
plain_append (c ∷ cs) b h k = (h.0, plain_append cs b h.1 k)

-- ---- numbers

glyph_by : (few : Bool) (d : ℕ) → IsPlainByte (if few then 48 + d else (if false then 55 + d else 87 + d))
glyph_by true d = from_hyphen (48 + d) (omega arith)
glyph_by false d = from_hyphen (87 + d) (omega arith)

digit_plain : (n : ℕ) → IsPlainByte (digit_glyph false (n % 10))
digit_plain n = glyph_by (nat_lt (n % 10) 10) (n % 10)

either_plain : (first : Bool) (one other : List ℕ) → IsPlain one → IsPlain other
    → IsPlain (if first then one else other)
either_plain true one other h k = h
either_plain false one other h k = k

onto_plain : (k n : ℕ) (behind : List ℕ) → IsPlain behind → IsPlain (digits_onto k 10 false n behind)
onto_plain zero n behind h = h
onto_plain (suc k) n behind h =
    let more = digit_glyph false (n % 10) ∷ behind in
    either_plain (n / 10 == 0) more (digits_onto k 10 false (n / 10) more) (digit_plain n, h)
    (onto_plain k (n / 10) more (digit_plain n, h))

number_plain : (value : ℕ) → IsPlain (decimal value)
unfolding digits
number_plain value = onto_plain 64 value [] tt

zeros_plain : (count : ℕ) → IsPlain (replicate count 48)
zeros_plain zero = tt
zeros_plain (suc count) = (from_hyphen 48 (omega arith), zeros_plain count)

padded_plain : (width value : ℕ) → IsPlain (padded_text width value)
padded_plain width value =
    plain_append (replicate (width - length (decimal value)) 48) (decimal value)
    (zeros_plain (width - length (decimal value))) (number_plain value)

amount_plain : (decimals units : ℕ) → IsPlain (money_text decimals units)
amount_plain zero units = number_plain units
amount_plain (suc more) units =
    plain_append (decimal (units / 10 ^ suc more)) (46 ∷ padded_text (suc more) (units % 10 ^ suc more))
    (number_plain (units / 10 ^ suc more))
    (from_hyphen 46 (omega arith), padded_plain (suc more) (units % 10 ^ suc more))

optional_plain : (decimals amount : ℕ) → IsPlain (optional_field decimals amount)
optional_plain decimals amount =
    either_plain (amount == 0) [] (money_text decimals amount) tt (amount_plain decimals amount)

-- ---- dates

date_plain : (year month date : ℕ) → IsPlain (date_text year month date)
date_plain year month date =
    plain_append (padded_text 4 year) _ (padded_plain 4 year) (
      from_hyphen 45 (omega arith),
      plain_append (padded_text 2 month) _ (padded_plain 2 month)
          (from_hyphen 45 (omega arith), padded_plain 2 date),
    )

time_plain : (second : ℕ) → IsPlain (time_text second)
time_plain second =
    plain_append (padded_text 2 (second / 3600)) _ (padded_plain 2 (second / 3600)) (
      from_hyphen 58 (omega arith),
      plain_append (padded_text 2 (second / 60 % 60)) _ (padded_plain 2 (second / 60 % 60))
          (from_hyphen 58 (omega arith), padded_plain 2 (second % 60)),
    )

stamp_plain : (stamp : Stamp) → IsPlain (stamp_text stamp)
unfolding stamp_text
stamp_plain stamp =
    plain_append (date_text stamp.year stamp.month stamp.date) _ (date_plain stamp.year stamp.month stamp.date)
    (blank_plain, time_plain stamp.second)

day_plain : (day : ℤ) → IsPlain (day_text day)
unfolding day_text
day_plain day = let date = date_after (unsigned_abs day) in date_plain date.year date.month date.date

-- ---- words

high_letters : (text : List ℕ) → AllByRecursion (λ c. 45 ≤ c) text → IsPlain text
high_letters [] h = tt
high_letters (c ∷ cs) h = (from_hyphen c h.0, high_letters cs h.1)

kind_plain : (kind : Kind) → IsPlain (kind_text kind)
kind_plain Closed = high_letters (codes "CLOSED")
    (omega arith, (omega arith, (omega arith, (omega arith, (omega arith, (omega arith, tt))))))
kind_plain Aborted = high_letters (codes "ABORTED")
    (omega arith, (omega arith, (omega arith, (omega arith, (omega arith, (omega arith, (omega arith, tt)))))))
kind_plain Expired = high_letters (codes "EXPIRED")
    (omega arith, (omega arith, (omega arith, (omega arith, (omega arith, (omega arith, (omega arith, tt)))))))
kind_plain Roam = tt

character_high : (c : ℕ) → IsIdentifierCharacter c → 45 ≤ c
character_high c h = omega (arith, h)

characters_plain : (text : List ℕ) → AllByRecursion IsIdentifierCharacter text → IsPlain text
characters_plain [] h = tt
characters_plain (c ∷ cs) h = (from_hyphen c (character_high c h.0), characters_plain cs h.1)

taxi_plain : (text : List ℕ) → IsTaxi text → IsPlain text
taxi_plain text h = characters_plain text (recursion_from_All IsIdentifierCharacter text h.characters)

hex_by : (few : Bool) (n : ℕ) → IsPlainByte (if few then 48 + n else 87 + n)
hex_by true n = from_hyphen (48 + n) (omega arith)
hex_by false n = from_hyphen (87 + n) (omega arith)

hex_plain : (bytes : List ℕ) → IsPlain (hex_text bytes)
unfolding hex_text
hex_plain [] = tt
hex_plain (byte ∷ bytes) =
    (hex_by (nat_lt (byte / 16) 10) (byte / 16), (hex_by (nat_lt (byte % 16) 10) (byte % 16), hex_plain bytes))

-- ---- the row

amounts_plain : (r : Receipt) → AllByRecursion IsPlain (amount_fields r)
amounts_plain r = (
  amount_plain r.decimals r.initial,
  (
    number_plain r.steps,
    (
      amount_plain r.decimals r.step,
      (
        optional_plain r.decimals r.minimum,
        (
          amount_plain r.decimals r.fare,
          (
            amount_plain r.decimals r.supplements,
            (
              amount_plain r.decimals
                  (total_of r),
              tt,
            ),
          ),
        ),
      ),
    ),
  ),
)

pub fields_plain : (it : Printed) → IsPrinted it → AllByRecursion IsPlain (fields_of it)
fields_plain it h = (
  number_plain it.receipt.number,
  (
    kind_plain it.receipt.kind,
    (
      taxi_plain it.part.taxi h.is.part_is.taxi,
      (
        number_plain it.part.constant,
        (
          day_plain it.part.secured,
          (
            hex_plain it.part.digest,
            (
              stamp_plain it.receipt.start,
              (
                stamp_plain it.receipt.finish,
                (number_plain it.receipt.position, (amount_plain 3 it.receipt.hired_mm, amounts_plain it.receipt)),
              ),
            ),
          ),
        ),
      ),
    ),
  ),
)

-- fields without a comma, joined by commas and cut at them
uncut : (byte : ℕ) → byte ≢ 44 → (byte == 44) ≡ false
uncut byte other = grind (arith, nat_tests)

none_cut : (field : List ℕ) → IsPlain field → AllByRecursion (λ byte. (byte == 44) ≡ false) field
none_cut [] h = tt
none_cut (c ∷ cs) h = (uncut c h.0.comma, none_cut cs h.1)

no_cut : (field : List ℕ) → IsPlain field → All (λ byte. (byte == 44) ≡ false) field
no_cut field h = All-from_recursion (λ byte. (byte == 44) ≡ false) field (none_cut field h)

cut_joined : (field : List ℕ) (fields : List (List ℕ)) → AllByRecursion IsPlain (field ∷ fields)
    → slice_split (λ byte. byte == 44) (join_with_byte 44 (field ∷ fields)) ≡ field ∷ fields
cut_joined field [] h = slice_split_none (λ byte. byte == 44) field (no_cut field h.0)
cut_joined field (next ∷ fields) h =
    slice_split_at (λ byte. byte == 44) field 44 (join_with_byte 44 (next ∷ fields)) (no_cut field h.0) refl
    ∙ ap (λ (rest : List (List ℕ)). field ∷ rest) (cut_joined next fields h.1)

pub row_cut : (it : Printed) → IsPrinted it → slice_split (λ byte. byte == 44) (row_of it) ≡ fields_of it
row_cut it h = cut_joined (decimal it.receipt.number) (kind_text it.receipt.kind
    ∷ (part_fields it.part ++ (trip_fields it.receipt ++ amount_fields it.receipt))) (fields_plain it h)
