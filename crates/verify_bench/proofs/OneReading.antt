-- A text of readings has one answer.
use Rattle.std.specs.{Bool.{Decides}, Cmp.Lexicographic.{pointwise}}
use Rattle.std.{specs.Prelude.{if◌then◌else◌, nat_eq}, proofs.lemmas.{List.{append-nil}, Slice.Eq.{slice_eq-Decides}}}
use Rattle.std.proofs.Common.{[], ℕ, ◌++◌, ◌+◌, ◌<◌, ◌↔◌, ◌∙◌, ◌∷◌, ◌≡◌, ◌≢◌, ◌≤◌, Bool, Err, List, None, Ok, Option}
use Rattle.std.proofs.Common.{Result, Some, ap, append_assoc, arith, false, inl, inr, length, length-append, refl}
use Rattle.std.proofs.{Common.{subst, sym, true}, lemmas.Bool.{le-ltb, lt-ltb, Decides.{Decides-eqb, leb_tells}}}
use Rattle.csv.specs.Reading.{default_config, records, strip_bom}
use Rattle.verify_bench.specs.Common.{BadRow, NoMemory, Reading, ReadingsFault, TooLong}
use Rattle.verify_bench.specs.ReadingStages.{reading_before, reading_of_row, readings_from, readings_of_rows}
use Rattle.verify_bench.specs.Readings.{AreFirstRows, AreGood, AreRows, AreRowsOfReadings, IsBadBehind, IsFirstBad}
use Rattle.verify_bench.specs.Readings.{IsReadAs, IsRowOfReading, Row, bad, empty, header, readings_in, readings_limit}
use Rattle.verify_bench.proofs.CsvRows.{reached_first, records_are_rows, records_begin, rows_are_records}
use Rattle.verify_bench.proofs.Rows.{bad_behind, good_more, said_says, says_said}
use Rattle.csv.specs.declared.parser.State.TheVariants as states

-- ---- the answer of the function

Decides-row : (row other : Row) → Decides (pointwise (pointwise nat_eq) row other) (row ≡ other)
Decides-row row other = slice_eq-Decides (λ xs ys. slice_eq-Decides unsigned xs ys (pointwise nat_eq xs ys) refl) row
    other (pointwise (pointwise nat_eq) row other) refl
  where
    unsigned : (a b : ℕ) → Decides (nat_eq a b) (a ≡ b)
    unsigned = Decides-eqb

-- a row that says none has none
none_said : (decimals : ℕ) (row : Row) → ((reading : Reading) → ¬ (IsRowOfReading decimals row reading))
    → reading_of_row decimals row ≡ None
none_said decimals row says = by (reading_of_row decimals row) refl
  where
    by : (o : Option Reading) → reading_of_row decimals row ≡ o → o ≡ None
    by None e = refl
    by (Some reading) e = absurd (says reading (said_says decimals row reading e))

-- rows that say readings
all_said : (decimals number : ℕ) (rows : List Row) (readings : List Reading) → AreRowsOfReadings decimals rows readings
    → readings_from decimals number rows ≡ Ok readings
unfolding readings_from
all_said decimals number [] [] all = refl
all_said decimals number [] (reading ∷ readings) all = absurd all
all_said decimals number (row ∷ rows) [] all = absurd all
all_said decimals number (row ∷ rows) (reading ∷ readings) all =
    rw (says_said decimals row reading all.0, all_said decimals (number + 1) rows readings all.1) refl

-- and then one that says none
bad_said : (decimals number : ℕ) (rows : List Row) (readings : List Reading) (row : Row) (more : List Row)
    → AreRowsOfReadings decimals rows readings → reading_of_row decimals row ≡ None
    → readings_from decimals number (rows ++ row ∷ more) ≡ Err (BadRow (number + length rows))
unfolding readings_from
bad_said decimals number [] [] row more all none = rw none (ap (λ (n : ℕ). Err (BadRow n)) (omega arith))
bad_said decimals number [] (reading ∷ readings) row more all none = absurd all
bad_said decimals number (first ∷ rows) [] row more all none = absurd all
bad_said decimals number (first ∷ rows) (reading ∷ readings) row more all none =
    rw (says_said decimals first reading all.0, bad_said decimals (number + 1) rows readings row more all.1 none)
    (ap (λ (n : ℕ). Err (BadRow n)) (omega arith))

with_header : (decimals : ℕ) (rows : List Row)
    → readings_of_rows decimals (header ∷ rows) ≡ readings_from decimals 2 rows
with_header decimals rows = refl

without_header : (decimals : ℕ) (first : Row) (rows : List Row) → first ≢ header
    → readings_of_rows decimals (first ∷ rows) ≡ Err (BadRow 1)
without_header decimals first rows differs = by (pointwise (pointwise nat_eq) first header) refl
  where
    by : (b : Bool) → pointwise (pointwise nat_eq) first header ≡ b
        → (if b then readings_from decimals 2 rows else Err (BadRow 1)) ≡ Err (BadRow 1)
    by true e = absurd (differs ((Decides-row first header).0 e))
    by false e = refl

-- ---- the relation gives the function's answer

bad_rows : (decimals : ℕ) (before : List Row) (row : Row) (more : List Row) → IsBadBehind decimals before row
    → readings_of_rows decimals ((before ++ row ∷ []) ++ more) ≡ Err (BadRow (length before + 1))
bad_rows decimals [] row more isnt = without_header decimals row more isnt
bad_rows decimals (first ∷ rows) row more (readings, good, says) =
    let all : (first ∷ rows) ++ row ∷ more ≡ header ∷ (good.others ++ row ∷ more) =
    ap (λ (xs : List Row). xs ++ row ∷ more) good.begins in
    let same : length (first ∷ rows) ≡ length (header ∷ good.others) = ap length good.begins in
    ap (readings_of_rows decimals) (append_assoc (first ∷ rows) (row ∷ []) more ∙ all)
    ∙ with_header decimals (good.others ++ row ∷ more)
    ∙ bad_said decimals 2 good.others readings row more good.say (none_said decimals row says)
    ∙ ap (λ (n : ℕ). Err (BadRow n)) (omega (arith, same))

short_text : (decimals : ℕ) (text : List ℕ) → length text ≤ readings_limit
    → readings_in decimals text ≡ readings_of_rows decimals (records default_config (strip_bom text))
short_text decimals text short = rw (le-ltb readings_limit (length text) short) refl

first_bad : (decimals : ℕ) (text : List ℕ) (number : ℕ) → IsFirstBad decimals text number
    → readings_of_rows decimals (records default_config (strip_bom text)) ≡ Err (BadRow number)
first_bad decimals text number (bad before row (state, rest, reached) isnt) =
    let begin = records_begin default_config state (strip_bom text) rest (before ++ row ∷ []) reached in
    ap (readings_of_rows decimals) begin.1 ∙ bad_rows decimals before row begin.0 isnt
first_bad decimals text number (empty none) =
    ap (readings_of_rows decimals) (rows_are_records default_config (strip_bom text) [] none)

pub relation_gives : (decimals : ℕ) (text : List ℕ) (answer : Result (List Reading) ReadingsFault)
    → answer ≢ Err NoMemory → IsReadAs decimals text answer → readings_in decimals text ≡ answer
relation_gives decimals text (Ok readings) some (short, rows, are, good) =
    short_text decimals text short
    ∙ ap (readings_of_rows decimals) (rows_are_records default_config (strip_bom text) rows are ∙ good.begins)
    ∙ with_header decimals good.others ∙ all_said decimals 2 good.others readings good.say
relation_gives decimals text (Err TooLong) some long = rw (lt-ltb readings_limit (length text) long) refl
relation_gives decimals text (Err (BadRow number)) some (short, first) =
    short_text decimals text short ∙ first_bad decimals text number first
relation_gives decimals text (Err NoMemory) some free = absurd (some refl)

-- ---- the function's answer has the relation

-- readings before those that further rows say
abbrev behind : List Reading → Result (List Reading) ReadingsFault → Result (List Reading) ReadingsFault
behind readings (Ok more) = Ok (readings ++ more)
behind readings (Err fault) = Err fault

behind_none : (r : Result (List Reading) ReadingsFault) → behind [] r ≡ r
behind_none (Ok more) = refl
behind_none (Err fault) = refl

behind_one : (readings : List Reading) (number : ℕ) (reading : Reading) (r : Result (List Reading) ReadingsFault)
    → behind (readings ++ reading ∷ []) r ≡ behind readings (reading_before number (Some reading) r)
behind_one readings number reading (Ok more) =
    ap (λ (xs : List Reading). Ok xs) (append_assoc readings (reading ∷ []) more)
behind_one readings number reading (Err fault) = refl

module _ (decimals : ℕ) (text : List ℕ) (short : length text ≤ readings_limit) where
  -- the first of the text's rows
  first_rows : (rows row_and_more : List Row) → AreRows text (rows ++ row_and_more) → AreFirstRows text rows
  first_rows rows more (state, rest, reached, none) =
      reached_first default_config states.StartRecord state (strip_bom text) rest rows more reached

  go : (done left : List Row) (readings : List Reading) (number : ℕ) → number ≡ length done + 1
      → AreRows text (done ++ left) → AreGood decimals done readings
      → IsReadAs decimals text (behind readings (readings_from decimals number left))
  unfolding readings_from
  go done [] readings number is are good = (
    short,
    done,
    subst (λ (rows : List Row). AreRows text rows) (append-nil done) are,
    subst (λ (xs : List Reading). AreGood decimals done xs) (sym (append-nil readings)) good,
  )
  go done (row ∷ left) readings number is are good =
      by (reading_of_row decimals row) refl (λ reading said. go (done ++ row ∷ []) left (readings ++ reading ∷ [])
      (number + 1) (omega (arith, is, length-append done (row ∷ [])))
      (subst (λ (rows : List Row). AreRows text rows) (sym (append_assoc done (row ∷ []) left)) are)
      (good_more decimals done readings row reading good said))
    where
      by : (o : Option Reading) → reading_of_row decimals row ≡ o
          → ((reading : Reading) → reading_of_row decimals row ≡ Some reading
          → IsReadAs decimals text (behind (readings ++ reading ∷ []) (readings_from decimals (number + 1) left)))
          → IsReadAs decimals text
          (behind readings (reading_before number o (readings_from decimals (number + 1) left)))
      by None said more =
          let first = first_rows (done ++ row ∷ []) left
          (subst (λ (rows : List Row). AreRows text rows) (sym (append_assoc done (row ∷ []) left)) are) in (
            short,
            subst (λ (n : ℕ). IsFirstBad decimals text n) (sym is)
                (bad done row first (bad_behind decimals done readings row good said)),
          )
      by (Some reading) said more =
          subst (λ (r : Result (List Reading) ReadingsFault). IsReadAs decimals text r)
          (behind_one readings number reading (readings_from decimals (number + 1) left)) (more reading said)

  rows_are : (rows : List Row) → AreRows text rows → IsReadAs decimals text (readings_of_rows decimals rows)
  rows_are [] are = (short, empty are)
  rows_are (first ∷ rows) are = by (pointwise (pointwise nat_eq) first header) refl
    where
      by : (b : Bool) → pointwise (pointwise nat_eq) first header ≡ b
          → IsReadAs decimals text (if b then readings_from decimals 2 rows else Err (BadRow 1))
      by true e =
          let is : first ≡ header = (Decides-row first header).0 e in
          subst (λ (r : Result (List Reading) ReadingsFault). IsReadAs decimals text r)
          (behind_none (readings_from decimals 2 rows))
          (go (first ∷ []) rows [] 2 refl are
          (record { others = []; begins = ap (λ (row : Row). row ∷ []) is; say = tt }))
      by false e = (
        short,
        bad [] first (first_rows (first ∷ []) rows are) (λ is. let same = (Decides-row first header).1 is in absurd cc),
      )

pub function_is_related : (decimals : ℕ) (text : List ℕ) → IsReadAs decimals text (readings_in decimals text)
function_is_related decimals text = elim (leb_tells (length text) readings_limit) [
  | inl short ↦
      subst (λ (r : Result (List Reading) ReadingsFault). IsReadAs decimals text r)
      (sym (short_text decimals text short.1))
      (rows_are decimals text short.1 (records default_config (strip_bom text))
      (records_are_rows default_config (strip_bom text)))
  | inr long ↦
      subst (λ (r : Result (List Reading) ReadingsFault). IsReadAs decimals text r) (sym (long_text long.1)) long.1
]
  where
    long_text : readings_limit < length text → readings_in decimals text ≡ Err TooLong
    long_text long = rw (lt-ltb readings_limit (length text) long) refl

pub one_reading : (decimals : ℕ) (text : List ℕ) (answer : Result (List Reading) ReadingsFault) → answer ≢ Err NoMemory
    → (readings_in decimals text ≡ answer) ↔ IsReadAs decimals text answer
one_reading decimals text answer some = (
  λ is. subst (λ (r : Result (List Reading) ReadingsFault). IsReadAs decimals text r) is
      (function_is_related decimals text),
  relation_gives decimals text answer some,
)
