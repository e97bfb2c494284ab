-- A text is a receipt exactly if it is the one that is written.
use Rattle.{std.specs.{Fmt.{decimal}, Prelude.{codes}}, interval_clock.proofs.Laws.{IsDateOf-date_after, IsDateOf-only}}
use Rattle.std.{specs.List.{AllByRecursion}, proofs.lemmas.{Bool.{cases_lt, le-ltb, lt-ltb, ne_eqb}, Int.{ints}}}
use Rattle.std.proofs.Common.{[], ℕ, ℤ, ◌%◌, ◌++◌, ◌+◌, ◌/◌, ◌<◌, ◌^◌, ◌↔◌, ◌∙◌, ◌∷◌, ◌≡◌, ◌≢◌, ◌≤ℤ◌, ◌≤◌, List, ap}
use Rattle.std.proofs.Common.{append_assoc, arith, eqb, false, inl, inr, pos, refl, subst, sym, unsigned_abs}
use Rattle.taxi_units.specs.Written.{IsAmountText, IsNumberText, IsPaddedText}
use Rattle.taxi_units.proofs.Laws.{amounts_are_written_by_their_digits, numbers_are_written_by_their_digits}
use Rattle.{taxi_units.proofs.Laws.{padded_numbers_are_written_by_their_digits}, receipt_text.specs.Part.{IsPart, Part}}
use Rattle.{interval_clock.specs.Calendar.{date_after}, receipt_text.specs.Receipts.{total_text, trip_text}}
use Rattle.receipt_text.specs.{AmountLines.{optional_lines, total_of}, Common.{Stamp, money_text, padded_text}}
use Rattle.receipt_text.specs.Common.{Aborted, CalendarDate, Closed, Expired, IsReceipt, IsStamp, Kind, Receipt, Roam}
use Rattle.receipt_text.specs.Grammar.{AreAmounts, AreReceiptLines, AreTripLines, HasOptional, IsCalculation}
use Rattle.receipt_text.specs.Grammar.{IsDateText, IsDayText, IsDistance, IsExactly, IsHexDigit, IsHexText, IsKind}
use Rattle.receipt_text.specs.{Grammar.{IsReceiptText, IsStampText, IsTimeText, Line}, Spelling.{IsSpelled}}
use Rattle.receipt_text.specs.Receipts.{body_text, calculation_text, course_text, date_text, day_text, fare_text}
use Rattle.receipt_text.specs.Receipts.{heading_text, hex_digit, hex_text, in_front, kind_text, last_text}
use Rattle.receipt_text.specs.Receipts.{optional_text, part_text, receipt_text, stamp_text, supplements_text, time_text}
use Rattle.receipt_text.proofs.{Dates.{month_small, year_below}, OptionalLines.{IsShort, optional_short, total_small}}

-- a form has one text
record Only (Value : List ℕ → Type 0) (spelled : List ℕ) : Type 0 where
  is : Value spelled
  one : (text : List ℕ) → Value text → text ≡ spelled

-- it has if a law says which text it is, or if it has an equal one
by_law : {Value : List ℕ → Type 0} {spelled : List ℕ} → ((text : List ℕ) → (spelled ≡ text) ↔ Value text)
    → Only Value spelled
by_law {spelled = spelled} law = record { is = (law spelled).0 refl; one = λ text h. sym ((law text).1 h) }

retold : {Value : List ℕ → Type 0} {spelled text : List ℕ} → Only Value spelled → spelled ≡ text → Only Value text
retold {Value} only same = subst (Only Value) same only

exactly_only : (wanted : List ℕ) → Only (IsExactly wanted) wanted
exactly_only wanted = record { is = refl; one = λ text h. h }

number_only : (value : ℕ) → value < 2 ^ 128 → Only (IsNumberText value) (decimal value)
number_only value small = by_law (λ text. numbers_are_written_by_their_digits value text small)

padded_only : (width value : ℕ) → value < 2 ^ 128 → Only (IsPaddedText width value) (padded_text width value)
padded_only width value small = by_law (λ text. padded_numbers_are_written_by_their_digits width value text small)

amount_only : (decimals units : ℕ) → units < 2 ^ 128 → Only (IsAmountText decimals units) (money_text decimals units)
amount_only decimals units small = by_law (λ text. amounts_are_written_by_their_digits decimals units text small)

kind_only : (kind : Kind) → kind ≢ Roam → Only (IsKind kind) (kind_text kind)
kind_only Closed h = record { is = refl; one = λ text h. h }
kind_only Aborted h = record { is = refl; one = λ text h. h }
kind_only Expired h = record { is = refl; one = λ text h. h }
kind_only Roam h = absurd (h refl)

date_only : (year month date : ℕ) → year < 2 ^ 128 → month < 2 ^ 128 → date < 2 ^ 128
    → Only (IsDateText year month date) (date_text year month date)
date_only year month date hy hm hd =
    let y = padded_only 4 year hy in
    let m = padded_only 2 month hm in
    let d = padded_only 2 date hd in
    record {
      is = record {
        years = _;
        months = _;
        dates = _;
        text_is = refl;
        years_are = y.is;
        months_are = m.is;
        dates_are = d.is;
      };
      one = λ text h. h.text_is
          ∙ rw (y.one h.years h.years_are, m.one h.months h.months_are, d.one h.dates h.dates_are) refl;
    }

time_only : (second : ℕ) → second ≤ 86399 → Only (IsTimeText second) (time_text second)
time_only second small = record {
  is = record {
    hour = second / 3600;
    minute = second / 60 % 60;
    rest = second % 60;
    hours = _;
    minutes = _;
    seconds = _;
    second_is = omega arith;
    within = (omega arith, omega arith);
    text_is = refl;
    hours_are = (padded_only 2 (second / 3600) (omega arith)).is;
    minutes_are = (padded_only 2 (second / 60 % 60) (omega arith)).is;
    seconds_are = (padded_only 2 (second % 60) (omega arith)).is;
  };
  one = λ text h.
      let hour : second / 3600 ≡ h.hour = omega (arith, h.second_is, h.within) in
      let minute : second / 60 % 60 ≡ h.minute = omega (arith, h.second_is, h.within) in
      let rest : second % 60 ≡ h.rest = omega (arith, h.second_is, h.within) in
      let a = (padded_only 2 h.hour (omega (arith, h.second_is))).one h.hours h.hours_are in
      let b = (padded_only 2 h.minute (omega (arith, h.within))).one h.minutes h.minutes_are in
      let d = (padded_only 2 h.rest (omega (arith, h.within))).one h.seconds h.seconds_are in
      h.text_is ∙ rw (hour, minute, rest, a, b, d) refl;
}

stamp_only : (stamp : Stamp) → IsStamp stamp → Only (IsStampText stamp) (stamp_text stamp)
unfolding stamp_text
stamp_only stamp is =
    let small = month_small stamp.year stamp.month in
    let date = date_only stamp.year stamp.month stamp.date (omega (arith, is.year)) (omega (arith, is.date))
    (omega (arith, is.date, small)) in
    let time = time_only stamp.second is.second in
    record {
      is = record { date = _; time = _; text_is = refl; date_is = date.is; time_is = time.is };
      one = λ text h. h.text_is ∙ rw (date.one h.date h.date_is, time.one h.time h.time_is) refl;
    }

abbrev calendar_date : (year month date : ℕ) → CalendarDate
calendar_date year month date = record { year = year; month = month; date = date }

days_only : (n : ℕ) → n ≤ 84005 → Only (IsDayText (pos n)) (day_text (pos n))
unfolding day_text
days_only n few =
    let d = date_after n in
    let is = IsDateOf-date_after n in
    let small = month_small d.year d.month in
    let date = date_only d.year d.month d.date (omega (arith, year_below n few)) (omega (arith, is.month_in))
    (omega (arith, is.date_in, small)) in
    record {
      is = record { year = d.year; month = d.month; date = d.date; date_is = is; text_is = date.is };
      one = λ text h.
          let same : calendar_date h.year h.month h.date ≡ d =
          IsDateOf-only (pos n) (calendar_date h.year h.month h.date) d h.date_is is in
          date.one text (subst (λ (x : CalendarDate). IsDateText x.year x.month x.date text) same h.text_is);
    }

day_only : (day : ℤ) → pos 10957 ≤ℤ day → day ≤ℤ pos 84005 → Only (IsDayText day) (day_text day)
day_only day low high =
    let is : pos (unsigned_abs day) ≡ day = grind (arith, ints, low, high) in
    let to : unsigned_abs day ≤ 84005 = grind (arith, ints, low, high) in
    subst (λ (z : ℤ). Only (IsDayText z) (day_text z)) is (days_only (unsigned_abs day) to)

digit_only : (value c : ℕ) → IsHexDigit value c → c ≡ hex_digit value
digit_only value c (inl h) = rw (lt-ltb value 10 h.0) h.1
digit_only value c (inr h) = rw (le-ltb value 10 h.0) (omega (arith, h))

digit_is : (value : ℕ) → value < 16 → IsHexDigit value (hex_digit value)
digit_is value small =
    elim (cases_lt value 10) [
      | inl few ↦ inl (few, rw (lt-ltb value 10 few) refl)
      | inr more ↦ inr (more, small, rw (le-ltb value 10 more) (omega arith))
    ]

hex_only : (bytes : List ℕ) → AllByRecursion (λ byte. byte < 256) bytes → Only (IsHexText bytes) (hex_text bytes)
unfolding hex_text
hex_only [] all = record { is = refl; one = λ text h. h }
hex_only (byte ∷ bytes) all = record {
  is = (
    byte / 16,
    byte % 16,
    hex_digit (byte / 16),
    hex_digit (byte % 16),
    hex_text bytes,
    refl,
    omega arith,
    digit_is (byte / 16) (omega (arith, all.0)),
    digit_is (byte % 16) (omega arith),
    (hex_only bytes all.1).is,
  );
  one = λ text h.
      let high_small : h.0 < 16 = omega (arith, all.0, h.6) in
      let low_small : h.1 < 16 = elim h.8 [ inl few ↦ omega (arith, few) | inr more ↦ omega (arith, more) ] in
      let high : byte / 16 ≡ h.0 = omega (arith, h.6) in
      let low : byte % 16 ≡ h.1 = omega (arith, h.6) in
      let c = digit_only h.0 h.2 h.7 in
      let d = digit_only h.1 h.3 h.8 in
      let rest = (hex_only bytes all.1).one h.4 h.9 in
      h.5 ∙ rw (c, d, rest, high, low) refl;
}

distance_only : (millimetres : ℕ) → millimetres < 2 ^ 128
    → Only (IsDistance millimetres) (money_text 3 millimetres ++ codes " m")
distance_only millimetres small =
    let metres = amount_only 3 millimetres small in
    record {
      is = record { metres = money_text 3 millimetres; text_is = refl; metres_are = metres.is };
      one = λ text h. h.text_is ∙ ap (λ (t : List ℕ). t ++ codes " m") (metres.one h.metres h.metres_are);
    }

abbrev calculated : Receipt → List ℕ
calculated r = money_text r.decimals r.initial
    ++ (codes " + " ++ (decimal r.steps ++ (codes " x " ++ money_text r.decimals r.step)))

calculation_only : (r : Receipt) → IsReceipt r → Only (IsCalculation r) (calculated r)
calculation_only r is =
    let initial = amount_only r.decimals r.initial (omega (arith, is.initial)) in
    let steps = number_only r.steps (omega (arith, is.steps)) in
    let step = amount_only r.decimals r.step (omega (arith, is.step)) in
    record {
      is = record {
        initial = _;
        steps = _;
        step = _;
        text_is = refl;
        initial_is = initial.is;
        steps_are = steps.is;
        step_is = step.is;
      };
      one = λ text h. h.text_is ∙ rw (
        initial.one h.initial h.initial_is,
        steps.one h.steps h.steps_are,
        step.one h.step h.step_is,
      ) refl;
    }

-- a line has one text if its value and the text behind it have one
line_only : {spelled after : List ℕ} {Value Rest : List ℕ → Type 0} (word : List ℕ) → Only Value spelled
    → Only Rest after → Only (Line word Value Rest) (word ++ (spelled ++ 10 ∷ after))
line_only {spelled} {after} word value rest = record {
  is = record { value = spelled; rest = after; text_is = refl; value_is = value.is; rest_is = rest.is };
  one = λ text h. h.text_is ∙ rw (value.one h.value h.value_is, rest.one h.rest h.rest_is) refl;
}

amounts_only : (r : Receipt) → IsReceipt r
    → Only (AreAmounts r) (fare_text r ++ (supplements_text r ++ total_text r))
unfolding fare_text supplements_text total_text
amounts_only r is =
    let total = amount_only r.decimals (total_of r) (omega (arith, total_small r is)) in
    let supplements = amount_only r.decimals r.supplements (omega (arith, is.supplements)) in
    let fare = amount_only r.decimals r.fare (omega (arith, is.fare)) in
    retold (line_only (codes "FARE ") fare (line_only (codes "SUPPLEMENTS ") supplements
    (line_only (codes "TOTAL ") total (exactly_only (codes "END\n"))))) (simp append_assoc)

-- optional lines have one text if the text behind them has one
optional_only : {after : List ℕ} {Rest : List ℕ → Type 0} (r : Receipt) (lines : List (List ℕ × ℕ))
    → AllByRecursion IsShort lines → Only Rest after → Only (HasOptional r lines Rest) (in_front r.decimals lines after)
unfolding optional_text
optional_only r [] short rest = rest
optional_only {after} r ((word, amount) ∷ more) short rest =
    let behind = optional_only r more short.1 rest in
    let tail = in_front r.decimals more after in
    let line = line_only word (amount_only r.decimals amount (omega (arith, short.0.amount))) behind in
    elim (cases_lt 0 amount) [
      | inl some ↦
          let not_none : eqb amount 0 ≡ false = ne_eqb amount 0 (λ e. omega arith) in
          let spelled : (word ++ (money_text r.decimals amount ++ codes "\n")) ++ tail
          ≡ word ++ (money_text r.decimals amount ++ 10 ∷ tail) = simp append_assoc in
          rw (not_none, spelled) (record {
            is = inl (some, line.is);
            one = λ text h. elim h [
              | inl with ↦ line.one text with.1
              | inr without ↦ absurd (omega (arith, without.0, some))
            ];
          })
      | inr none ↦
          let zero_is : amount ≡ 0 = omega arith in
          rw zero_is (record {
            is = inr (refl, behind.is);
            one = λ text h. elim h [
              | inl with ↦ absurd (omega (arith, with.0))
              | inr without ↦ behind.one text without.1
            ];
          })
    ]

trip_only : (r : Receipt) → IsReceipt r → Only (AreTripLines r) (body_text r)
unfolding body_text trip_text course_text calculation_text last_text
trip_only r is =
    let last = optional_only r (optional_lines r) (optional_short r is) (amounts_only r is) in
    retold (line_only (codes "START ") (stamp_only r.start is.start)
    (line_only (codes "FINISH ") (stamp_only r.finish is.finish)
    (line_only (codes "POSITION ") (number_only r.position (omega (arith, is.position)))
    (line_only (codes "DISTANCE ") (distance_only r.hired_mm (omega (arith, is.distance)))
    (line_only (codes "CALC ") (calculation_only r is) last))))) (simp append_assoc)

lines_only : (r : Receipt) (p : Part) → IsReceipt r → IsPart p → Only (AreReceiptLines r p) (receipt_text r p)
unfolding receipt_text heading_text part_text
lines_only r p is part_is =
    retold (line_only (codes "RECEIPT ") (number_only r.number (omega (arith, is.number)))
    (line_only (codes "KIND ") (kind_only r.kind is.kind)
    (line_only (codes "TAXI ") (exactly_only p.taxi)
    (line_only (codes "CONSTANT ") (number_only p.constant (omega (arith, part_is.constant)))
    (line_only (codes "SECURED ") (day_only p.secured part_is.secured.0 part_is.secured.1)
    (line_only (codes "TARIFF ") (hex_only p.digest part_is.digest.bytes) (trip_only r is))))))) (simp append_assoc)

-- the grammar has exactly the texts that are written
pub receipts_are_their_texts : (text : List ℕ) (receipt : Receipt) (part : Part) → IsReceiptText text receipt part
    ↔ IsSpelled text receipt part
receipts_are_their_texts text r p = (
  λ h. record {
    receipt_is = h.receipt_is;
    part_is = h.part_is;
    text_is = (lines_only r p h.receipt_is h.part_is).one text h.lines;
  },
  λ h. record {
    receipt_is = h.receipt_is;
    part_is = h.part_is;
    lines = subst (AreReceiptLines r p) (sym h.text_is) (lines_only r p h.receipt_is h.part_is).is;
  },
)
