-- What is written of the lines of a receipt is read again.
use Rattle.{std.specs.{Char.{digit_value}, Fmt.{decimal}, Prelude.{codes}}, seal_record.specs.Ranges.{IsTaxi}}
use Rattle.std.{specs.List.{AllByRecursion, prefix_len}, proofs.Math.Seq.{drop-append_seam, take-append_seam}}
use Rattle.std.proofs.Common.{[], ℕ, ◌%◌, ◌*◌, ◌++◌, ◌+◌, ◌-◌, ◌/◌, ◌<◌, ◌^◌, ◌∙◌, ◌∷◌, ◌≡◌, ◌≢◌, ◌≤◌, List, Some, ap}
use Rattle.std.proofs.{Common.{append_assoc, arith, inl, inr, length, refl, sym, true}, lemmas.Bool.Decides.{nat_tests}}
use Rattle.std.proofs.lemmas.{Bool.{cases_lt, le-leb, le-ltb, lt-leb, lt-ltb}, List.Elements.{recursion_from_All}}
use Rattle.taxi_units.specs.{Identifier.{IsIdentifierCharacter, is_identifier_character}, Reading.{word_at}}
use Rattle.receipt_text.specs.Common.{Aborted, Closed, Expired, IsReceipt, Kind, Receipt, Roam, money_text}
use Rattle.receipt_text.{specs.Digests.{byte_at, bytes_at, digest_at, hex_value}, proofs.Dates.{day_again, stamp_again}}
use Rattle.receipt_text.specs.Figures.{amount_below}
use Rattle.receipt_text.specs.Lines.{calculation_at, heading_at, kind_at, part_at, sums_at, taxi_at, trip_at}
use Rattle.receipt_text.{specs.Part.{IsDigest, IsPart, Part}, proofs.Again.{amount_again, number_again}}
use Rattle.receipt_text.specs.Receipts.{calculation_text, course_text, fare_text, heading_text, hex_digit, hex_text}
use Rattle.receipt_text.specs.Receipts.{kind_text, part_text, stamp_text, supplements_text, trip_text}

kind_again : (kind : Kind) (rest : List ℕ) → kind ≢ Roam → kind_at (kind_text kind ++ rest) ≡ Some (kind, rest)
unfolding word_at
kind_again Closed rest h = refl
kind_again Aborted rest h = refl
kind_again Expired rest h = refl
kind_again Roam rest h = absurd (h refl)

-- the lines of the number and the kind
pub heading_again : (number : ℕ) (kind : Kind) (rest : List ℕ) → number < 10 ^ 18 → kind ≢ Roam
    → heading_at (heading_text number kind ++ rest) ≡ Some (record { number = number; kind = kind }, rest)
unfolding heading_at heading_text word_at
heading_again number kind rest small hiring = simp append_assoc (rw (
  number_again (10 ^ 18) number _ 10 small (omega arith) (omega arith),
  kind_again kind (10 ∷ rest) hiring,
) refl)

character_true : (c : ℕ) → IsIdentifierCharacter c → is_identifier_character c ≡ true
character_true c h = grind (arith, nat_tests, h)

count_again : (taxi rest : List ℕ) → AllByRecursion IsIdentifierCharacter taxi
    → prefix_len is_identifier_character (taxi ++ 10 ∷ rest) ≡ length taxi
count_again [] rest all = refl
count_again (c ∷ cs) rest all = rw (character_true c all.0) (omega (arith, count_again cs rest all.1))

taxi_again : (taxi rest : List ℕ) → IsTaxi taxi → taxi_at (taxi ++ 10 ∷ rest) ≡ Some (taxi, 10 ∷ rest)
unfolding taxi_at
taxi_again taxi rest is =
    rw (
      count_again taxi rest (recursion_from_All IsIdentifierCharacter taxi is.characters),
      le-leb 1 (length taxi) is.some,
      le-leb (length taxi) 16 is.few,
      take-append_seam taxi (10 ∷ rest),
      drop-append_seam taxi (10 ∷ rest),
    ) refl

-- a hexadecimal digit
digit_again : (n : ℕ) → n < 16 → hex_value (hex_digit n) ≡ Some n
digit_again n small =
    elim (cases_lt n 10) [
      | inl few ↦
          let back : 48 + n - 48 ≡ n = omega arith in
          rw (lt-ltb n 10 few, le-leb 48 (48 + n) (omega arith), le-leb (48 + n) 57 (omega arith), back) refl
      | inr more ↦
          let back : 87 + n - 97 + 10 ≡ n = omega arith in
          rw (
            le-ltb n 10 more,
            le-leb 48 (87 + n) (omega arith),
            lt-leb (87 + n) 57 (omega arith),
            le-leb 97 (87 + n) (omega arith),
            le-leb (87 + n) 102 (omega arith),
            back,
          ) refl
    ]

byte_again : (byte : ℕ) (rest : List ℕ) → byte < 256
    → byte_at (hex_digit (byte / 16) ∷ hex_digit (byte % 16) ∷ rest) ≡ Some (byte, rest)
byte_again byte rest small =
    let whole : byte / 16 * 16 + byte % 16 ≡ byte = omega arith in
    rw (digit_again (byte / 16) (omega arith), digit_again (byte % 16) (omega arith), whole) refl

bytes_again : (bytes rest : List ℕ) → AllByRecursion (λ byte. byte < 256) bytes
    → bytes_at (length bytes) (hex_text bytes ++ rest) ≡ Some (bytes, rest)
unfolding bytes_at hex_text
bytes_again [] rest all = refl
bytes_again (byte ∷ bytes) rest all =
    rw (byte_again byte (hex_text bytes ++ rest) all.0, bytes_again bytes rest all.1) refl

digest_again : (digest rest : List ℕ) → IsDigest digest → digest_at (hex_text digest ++ rest) ≡ Some (digest, rest)
unfolding digest_at
digest_again digest rest is =
    ap (λ (n : ℕ). bytes_at n (hex_text digest ++ rest)) (sym is.size) ∙ bytes_again digest rest is.bytes

-- the lines of the seal
pub part_again : (part : Part) (rest : List ℕ) → IsPart part → part_at (part_text part ++ rest) ≡ Some (part, rest)
unfolding part_at part_text word_at
part_again part rest is = simp append_assoc (rw (
  taxi_again part.taxi _ is.taxi,
  number_again (10 ^ 9) part.constant _ 10 (omega (arith, is.constant)) (omega arith) (omega arith),
  day_again part.secured 10 _ is.secured.0 is.secured.1 (omega arith),
  digest_again part.digest (10 ∷ rest) is.digest,
) refl)

-- the lines of the trip
pub trip_again : (r : Receipt) (rest : List ℕ) → IsReceipt r → trip_at (trip_text r ++ rest)
    ≡ Some (record { start = r.start; finish = r.finish; position = r.position; hired_mm = r.hired_mm }, rest)
unfolding trip_at trip_text course_text word_at
trip_again r rest is =
    let t₄ = codes "DISTANCE " ++ (money_text 3 r.hired_mm ++ 32 ∷ 109 ∷ 10 ∷ rest) in
    let t₃ = codes "POSITION " ++ (decimal r.position ++ 10 ∷ t₄) in
    let t₂ = codes "FINISH " ++ (stamp_text r.finish ++ 10 ∷ t₃) in
    let text : ((codes "START "
    ++ (stamp_text r.start ++ (codes "\nFINISH " ++ (stamp_text r.finish ++ (codes "\nPOSITION "
    ++ (decimal r.position ++ (codes "\nDISTANCE " ++ (money_text 3 r.hired_mm ++ codes " m")))))))) ++ codes "\n")
    ++ rest ≡ codes "START " ++ (stamp_text r.start ++ 10 ∷ t₂) = simp append_assoc in
    let position = number_again 100 r.position t₄ 10 (omega (arith, is.position)) (omega arith) (omega arith) in
    let hired = amount_again (10 ^ 23) 3 r.hired_mm (109 ∷ 10 ∷ rest) 32 (omega arith) is.distance (omega arith)
    (omega arith) (λ e. omega arith) in
    ap trip_at text ∙ rw (
      stamp_again r.start 10 t₂ is.start (omega arith),
      stamp_again r.finish 10 t₃ is.finish (omega arith),
      position,
      hired,
    ) refl

money_again : (r : Receipt) (units : ℕ) (rest : List ℕ) (c : ℕ) → IsReceipt r → units < 10 ^ 18 → 10 ≤ digit_value c
    → c ≢ 46 → amount_below (10 ^ 18) (money_text r.decimals units ++ c ∷ rest)
    ≡ Some (record { units = units; decimals = r.decimals }, c ∷ rest)
money_again r units rest c is small = amount_again (10 ^ 18) r.decimals units rest c is.decimals small (omega arith)

-- the line of the calculation
pub calculation_again : (r : Receipt) (rest : List ℕ) → IsReceipt r → calculation_at (calculation_text r ++ rest)
    ≡ Some (record { decimals = r.decimals; initial = r.initial; steps = r.steps; step = r.step }, rest)
unfolding calculation_at calculation_text word_at
calculation_again r rest is = simp append_assoc (rw (
  money_again r r.initial _ 32 is (omega (arith, is.initial)) (omega arith) (λ e. omega arith),
  number_again (10 ^ 18) r.steps _ 32 is.steps (omega arith) (omega arith),
  money_again r r.step _ 10 is (omega (arith, is.step)) (omega arith) (λ e. omega arith),
) refl)

-- the lines of the fare and of the supplements
pub sums_again : (r : Receipt) (rest : List ℕ) → IsReceipt r → sums_at (fare_text r ++ (supplements_text r ++ rest))
    ≡ Some (record { fare = r.fare; supplements = r.supplements }, rest)
unfolding sums_at fare_text supplements_text word_at
sums_again r rest is = simp append_assoc (rw (
  money_again r r.fare _ 10 is (omega (arith, is.fare)) (omega arith) (λ e. omega arith),
  money_again r r.supplements _ 10 is (omega (arith, is.supplements)) (omega arith) (λ e. omega arith),
) refl)
