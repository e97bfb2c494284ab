-- A plain text of parameters is read as them.
use Rattle.{std.specs.{Fmt.{decimal}, List.{list_all}, Prelude.{codes}}, taxi_units.proofs.Laws.{numbers_are_short}}
use Rattle.std.{specs.Str.{Lines.{strip_carriage_return}, Parse.{AllDigits}}, proofs.lemmas.Bool.{le-ltb, ne_eqb}}
use Rattle.std.proofs.Common.{[], ℕ, ℤ, ◌*◌, ◌++◌, ◌+◌, ◌-◌, ◌<◌, ◌^◌, ◌∙◌, ◌∷◌, ◌≡◌, ◌≢◌, ◌≤ℤ◌, ◌≤◌, All, List, None}
use Rattle.std.proofs.Common.{Ok, Some, ap, append_assoc, arith, false, get_or, inl, inr, leb, length, length-append}
use Rattle.std.proofs.Common.{map, negsuc, pos, refl, replicate, subst, suc, sym, true, unsigned_abs}
use Rattle.std.proofs.lemmas.{Fmt.{decimal_is_IsNumeral_wide}, Grind.{flat_map-append}, Str.Parse.{digit_from_value}}
use Rattle.std.proofs.lemmas.{Int.{ints}, List.{append-nil, get_or_append_left, length-map, Elements.{All-weaker}}}
use Rattle.std.proofs.lemmas.List.Elements.{All-append, All-cons, All-head, All-nil, All-replicate, All-tail}
use Rattle.{interval_clock.specs.Calendar.{date_after}, seal_record.specs.Reading.{lines_read, params_read, whole_of}}
use Rattle.interval_clock.{specs.Offsets.{IsInRangeAt, IsSecond, second_at}, proofs.Laws.{IsDateOf-date_after}}
use Rattle.seal_record.specs.Common.{Constant, Double, Hold, IsIdentifierCharacter, IsOffset, IsOffsetList, Mode, Name}
use Rattle.seal_record.specs.Common.{Offset, Params, Secured, Single, Taxi, at_most, each, padded_text}
use Rattle.seal_record.specs.{Lines.{is_passed, lines_of}, ParamLineStages.{line_read, name_of, named_line}}
use Rattle.seal_record.{specs.{OffsetList.{offsets_test}, TextParts.{HasNone}}, proofs.LineLaws.{name_from}}
use Rattle.seal_record.{specs.ParamsSoFar.{ParamsSoFar, no_params_yet}, proofs.DayBounds.{date_bound, year_in_range}}
use Rattle.seal_record.specs.PlainText.{AreShown, comment_line, commented_text, date_text, ended_text, line_of}
use Rattle.seal_record.specs.PlainText.{mode_text, offset_line, offset_text, plain_lines, plain_text}
use Rattle.seal_record.{specs.RangeTests.{taxi_test}, proofs.LineParts.{ended_line, key_before, last_line, value_after}}
use Rattle.seal_record.specs.Ranges.{IsParams}
use Rattle.seal_record.proofs.PlainValues.{date_again, length-padded_text, mode_again, number_again, pair_again}
use Rattle.seal_record.specs.declared.params.Name.TheVariants as name

-- ---- the lines are short, and each of their bytes is a blank or a visible character

abbrev IsWord : List ℕ → Type 0
IsWord bytes = All (λ b. 33 ≤ b) bytes

record IsPlain (line : List ℕ) : Type 0 where
  some : 0 < length line
  few : length line ≤ 40
  shown : AreShown line

is_word : (bytes : List ℕ) → list_all (leb 33) bytes ≡ true → IsWord bytes
is_word bytes e = (each (at_most 33) bytes).decides.0 e

are_shown : (bytes : List ℕ) → IsWord bytes → AreShown bytes
are_shown bytes word = All-weaker (λ b. 33 ≤ b) (λ b. 32 ≤ b) (λ b h. omega (arith, h)) bytes word

no_blank : (bytes : List ℕ) → IsWord bytes → HasNone 32 bytes
no_blank bytes word = All-weaker (λ b. 33 ≤ b) (λ b. b ≢ 32) (λ b h e. omega (arith, h, e)) bytes word

digits_word : (digits : List ℕ) → AllDigits 10 digits → IsWord digits
digits_word [] all = All-nil (λ b. 33 ≤ b)
digits_word (c ∷ cs) all = All-cons (λ b. 33 ≤ b) c cs (omega (arith, digit_from_value c all.0)) (digits_word cs all.1)

decimal_word : (n : ℕ) → n < 10 ^ 12 → IsWord (decimal n)
decimal_word n small = digits_word (decimal n) (decimal_is_IsNumeral_wide n (omega (arith, small))).0.1

padded_word : (width n : ℕ) → n < 10 ^ 12 → IsWord (padded_text width n)
padded_word width n small = All-append (λ b. 33 ≤ b) (replicate (width - length (decimal n)) 48) (decimal n)
    (All-replicate (λ b. 33 ≤ b) (width - length (decimal n)) 48 (omega arith)) (decimal_word n small)

taxi_word : (c : ℕ) → IsIdentifierCharacter c → 33 ≤ c
taxi_word c (inl letter) = omega (arith, letter.0)
taxi_word c (inr (inl digit)) = omega (arith, digit.0)
taxi_word c (inr (inr minus)) = omega (arith, minus)

record IsLine (line : List ℕ) : Type 0 where
  some : 0 < length line
  shown : AreShown line

is_line : (line : List ℕ) → IsPlain line → IsLine line
is_line line is = record { some = is.some; shown = is.shown }

comment_is_line : (comment : List ℕ) → AreShown comment → IsLine (comment_line comment)
comment_is_line comment shown = record {
  some = omega arith;
  shown = All-cons (λ b. 32 ≤ b) 35 comment (omega arith) shown;
}

plain_line : (key value : List ℕ) → IsWord key → AreShown value → length key ≤ 8 → length value ≤ 31
    → IsPlain (line_of key value)
plain_line key value word shown short few = record {
  some = omega (arith, length-append key (32 ∷ value));
  few = omega (arith, length-append key (32 ∷ value), short, few);
  shown = All-append (λ b. 32 ≤ b) key (32 ∷ value) (are_shown key word)
      (All-cons (λ b. 32 ≤ b) 32 value (omega arith) shown);
}

number_line : (key : List ℕ) (n : ℕ) → IsWord key → length key ≤ 8 → n < 10 ^ 12 → IsPlain (line_of key (decimal n))
number_line key n word short small =
    plain_line key (decimal n) word (are_shown (decimal n) (decimal_word n small)) short
    (omega (arith, (numbers_are_short 12 n (omega arith) (omega arith) small).1))

mode_line : (mode : Mode) → IsPlain (line_of (codes "mode") (mode_text mode))
mode_line Single = plain_line (codes "mode") (codes "single") (is_word (codes "mode") refl)
    (are_shown (codes "single") (is_word (codes "single") refl)) (omega arith) (omega arith)
mode_line Double = plain_line (codes "mode") (codes "double") (is_word (codes "mode") refl)
    (are_shown (codes "double") (is_word (codes "double") refl)) (omega arith) (omega arith)

offset_shown : (offset : ℤ) → IsOffset offset → AreShown (offset_text offset) × (length (offset_text offset) ≤ 13)
offset_shown (pos n) is =
    let small : n < 10 ^ 12 = grind (arith, ints, is.1) in (
      are_shown (decimal n) (decimal_word n small),
      omega (arith, (numbers_are_short 12 n (omega arith) (omega arith) small).1),
    )
offset_shown (negsuc n) is =
    let small : suc n < 10 ^ 12 = grind (arith, ints, is.0) in (
      All-cons (λ b. 32 ≤ b) 45 (decimal (suc n)) (omega arith)
          (are_shown (decimal (suc n)) (decimal_word (suc n) small)),
      omega (arith, (numbers_are_short 12 (suc n) (omega arith) (omega arith) small).1),
    )

pair_line : (pair : ℕ × ℤ) → (pair.0 < 10 ^ 12) → IsOffset pair.1 → IsPlain (offset_line pair)
pair_line pair small offset =
    let shown = offset_shown pair.1 offset in
    let value = decimal pair.0 ++ 32 ∷ offset_text pair.1 in
    plain_line (codes "offset") value (is_word (codes "offset") refl)
    (All-append (λ b. 32 ≤ b) (decimal pair.0) (32 ∷ offset_text pair.1) (are_shown (decimal pair.0)
    (decimal_word pair.0 small)) (All-cons (λ b. 32 ≤ b) 32 (offset_text pair.1) (omega arith) shown.0))
    (omega arith) (omega (
      arith,
      length-append (decimal pair.0) (32 ∷ offset_text pair.1),
      shown.1,
      (numbers_are_short 12 pair.0 (omega arith) (omega arith) small).1,
    ))

pair_lines : (pairs : List (ℕ × ℤ)) → ((place : ℕ) → place < length pairs → IsInRangeAt pairs place)
    → All IsPlain (map offset_line pairs)
pair_lines [] each = All-nil IsPlain
pair_lines (pair ∷ pairs) each =
    let first = each 0 (omega arith) in
    All-cons IsPlain (offset_line pair) (map offset_line pairs) (pair_line pair (omega (arith, first.0.1)) first.1)
    (pair_lines pairs (λ place lt. each (suc place) (omega (arith, lt))))

date_shown : (n : ℕ) → 10957 ≤ n → n ≤ 84005
    → IsWord (date_text (date_after n)) × (length (date_text (date_after n)) ≤ 31)
date_shown n from to =
    let d = date_after n in
    let is = IsDateOf-date_after n in
    let year = year_in_range n d.year d.month d.date is from to in
    let small = date_bound d.year d.month d.date (is.month_in, is.date_in.0, is.date_in.1) in
    let days = 45 ∷ padded_text 2 d.date in (
      All-append (λ b. 33 ≤ b) (padded_text 4 d.year) (45 ∷ (padded_text 2 d.month ++ days))
          (padded_word 4 d.year (omega (arith, year.1)))
          (All-cons (λ b. 33 ≤ b) 45 (padded_text 2 d.month ++ days) (omega arith)
          (All-append (λ b. 33 ≤ b) (padded_text 2 d.month) days (padded_word 2 d.month (omega (arith, small.0)))
          (All-cons (λ b. 33 ≤ b) 45 (padded_text 2 d.date) (omega arith)
          (padded_word 2 d.date (omega (arith, small.1)))))),
      omega (
        arith,
        length-append (padded_text 4 d.year) (45 ∷ (padded_text 2 d.month ++ days)),
        length-append (padded_text 2 d.month) days,
        length-padded_text 4 d.year (omega arith) (omega arith) (omega (arith, year.1)),
        length-padded_text 2 d.month (omega arith) (omega arith) (omega (arith, small.0)),
        length-padded_text 2 d.date (omega arith) (omega arith) (omega (arith, small.1)),
      ),
    )

-- ---- the lines of the text

no_end : (line : List ℕ) → IsLine line → strip_carriage_return line ≡ line
no_end line is =
    rw (ne_eqb (get_or line (length line - 1) 0) 13
    (λ e. omega (arith, is.shown (length line - 1) 0 (omega (arith, is.some)), e))) refl

ended_lines : (lines : List (List ℕ)) → All IsLine lines → lines_of (ended_text lines) ≡ lines ++ [] ∷ []
ended_lines [] all = last_line [] (All-nil (λ b. b ≢ 10))
ended_lines (line ∷ lines) all =
    let is = All-head IsLine line lines all in
    let rest = ended_text lines in
    ap lines_of (append_assoc line (10 ∷ []) rest)
    ∙ (ended_line line rest (All-weaker (λ b. 32 ≤ b) (λ b. b ≢ 10) (λ b h e. omega (arith, h, e)) line is.shown)
    ∙ (λ i. no_end line is i ∷ ended_lines lines (All-tail IsLine line lines all) i))

length_ended : (lines : List (List ℕ)) → All IsPlain lines → length (ended_text lines) ≤ 41 * length lines
length_ended [] all = omega arith
length_ended (line ∷ lines) all =
    let is = All-head IsPlain line lines all in
    omega (
      arith,
      is.few,
      length_ended lines (All-tail IsPlain line lines all),
      length-append (line ++ 10 ∷ []) (ended_text lines),
      length-append line (10 ∷ []),
    )

-- ---- each line says its parameter

step : (said more : ParamsSoFar) (number : ℕ) (line : List ℕ) (lines : List (List ℕ))
    → line_read said number line ≡ Ok more → lines_read said number (line ∷ lines) ≡ lines_read more (number + 1) lines
unfolding lines_read
step said more number line lines e = rw e refl

keyed_read : (said : ParamsSoFar) (number : ℕ) (key value : List ℕ) (which : Name) → IsWord key
    → is_passed (line_of key value) ≡ false → name_of key ≡ Some which
    → line_read said number (line_of key value) ≡ named_line said number which value
unfolding line_read
keyed_read said number key value which word passed is =
    rw (passed, key_before key value (no_blank key word), value_after key value (no_blank key word), is) refl

empty_read : (said : ParamsSoFar) (number : ℕ) → line_read said number [] ≡ Ok said
unfolding line_read
empty_read said number = refl

-- what has been said before the offsets, and with some of them
abbrev four_said : Params → List (ℕ × ℤ) → ParamsSoFar
four_said params offsets = record {
  taxi = Some params.taxi.items;
  constant = Some params.constant;
  mode = Some params.mode;
  hold_time = Some params.hold_time;
  offsets = offsets;
  secured = None;
}

four_read : (params : Params) (number : ℕ) (rest : List (List ℕ)) → IsParams params → lines_read no_params_yet number
    (line_of (codes "taxi") params.taxi.items ∷ line_of (codes "constant") (decimal params.constant)
    ∷ line_of (codes "mode") (mode_text params.mode)
    ∷ line_of (codes "hold") (decimal params.hold_time) ∷ rest)
    ≡ lines_read (four_said params []) (number + 1 + 1 + 1 + 1) rest
four_read params number rest is =
    let hold_line = line_of (codes "hold") (decimal params.hold_time) in
    let mode_line = line_of (codes "mode") (mode_text params.mode) in
    let constant_line = line_of (codes "constant") (decimal params.constant) in
    let taxi_line = line_of (codes "taxi") params.taxi.items in
    let one : ParamsSoFar = record no_params_yet { taxi = Some params.taxi.items } in
    let two : ParamsSoFar = record one { constant = Some params.constant } in
    let three : ParamsSoFar = record two { mode = Some params.mode } in
    let four : ParamsSoFar = record three { hold_time = Some params.hold_time } in
    step no_params_yet one number taxi_line (constant_line ∷ mode_line ∷ hold_line ∷ rest)
    (keyed_read no_params_yet number (codes "taxi") params.taxi.items Taxi (is_word (codes "taxi") refl) refl
    (name_from Taxi)
    ∙ rw ((taxi_test params.taxi.items).decides.1 is.taxi) refl)
    ∙ (step one two (number + 1) constant_line (mode_line ∷ hold_line ∷ rest)
    (keyed_read one (number + 1) (codes "constant") (decimal params.constant) Constant (is_word (codes "constant") refl)
    refl (name_from Constant)
    ∙ rw (number_again 500 200000 params.constant is.constant.0 is.constant.1 (omega arith)) refl)
    ∙ (step two three (number + 1 + 1) mode_line (hold_line ∷ rest)
    (keyed_read two (number + 1 + 1) (codes "mode") (mode_text params.mode) name.Mode
    (is_word (codes "mode") refl) refl (name_from name.Mode) ∙ rw (mode_again params.mode) refl)
    ∙ step three four (number + 1 + 1 + 1) hold_line rest
    (keyed_read three (number + 1 + 1 + 1) (codes "hold") (decimal params.hold_time) Hold (is_word (codes "hold") refl)
    refl (name_from Hold) ∙ rw (number_again 0 600 params.hold_time (omega arith) is.hold_time (omega arith)) refl)))

-- the beginning of a lawful list is lawful
lawful_front : (front rest : List (ℕ × ℤ)) → 0 < length front → IsOffsetList (front ++ rest) → IsOffsetList front
lawful_front front rest some is =
    let long = length-append front rest in
    let same : (place : ℕ) → place < length front → get_or (front ++ rest) place (0, pos 0)
    ≡ get_or front place (0, pos 0) = λ place lt. get_or_append_left front rest (0, pos 0) place lt in
    let seconds : (place : ℕ) → place < length front → second_at (front ++ rest) place ≡ second_at front place =
    λ place lt. ap (λ (p : ℕ × ℤ). p.0) (same place lt) in
    record {
      some = omega (arith, some);
      few = omega (arith, is.few, long);
      start = sym (ap (λ (p : ℕ × ℤ). p.0) (same 0 some)) ∙ is.start;
      in_range = λ place lt. subst (λ (p : ℕ × ℤ). IsSecond p.0 × IsOffset p.1) (same place lt)
          (is.in_range place (omega (arith, lt, long)));
      rising = λ place lt later. omega (
        arith,
        seconds place lt,
        seconds (place - 1) (omega (arith, lt)),
        is.rising place (omega (arith, lt, long)) later,
      );
    }

pair_read_on : (params : Params) (number : ℕ) (done : List (ℕ × ℤ)) (pair : ℕ × ℤ) → IsOffsetList (done ++ pair ∷ [])
    → pair.0 ≤ 7258118399 → 946684800 ≤ pair.0 → IsOffset pair.1
    → line_read (four_said params done) number (offset_line pair) ≡ Ok (four_said params (done ++ pair ∷ []))
pair_read_on params number done pair is to from offset =
    keyed_read (four_said params done) number (codes "offset") (decimal pair.0 ++ 32 ∷ offset_text pair.1) Offset
    (is_word (codes "offset") refl) refl (name_from Offset)
    ∙ rw (pair_again pair (from, to) offset, (offsets_test (done ++ pair ∷ [])).decides.1 is) refl

pairs_read : (params : Params) (number : ℕ) (done left : List (ℕ × ℤ)) (rest : List (List ℕ))
    → IsOffsetList (done ++ left) → ((place : ℕ) → place < length left → IsInRangeAt left place)
    → lines_read (four_said params done) number (map offset_line left ++ rest)
    ≡ lines_read (four_said params (done ++ left)) (number + length left) rest
pairs_read params number done [] rest is each =
    let counts : number ≡ number + 0 = omega arith in
    λ i. lines_read (four_said params (sym (append-nil done) i)) (counts i) rest
pairs_read params number done (pair ∷ left) rest is each =
    let more = done ++ pair ∷ [] in
    let same : more ++ left ≡ done ++ pair ∷ left = append_assoc done (pair ∷ []) left in
    let lawful : IsOffsetList (more ++ left) = subst IsOffsetList (sym same) is in
    let first = each 0 (omega arith) in
    let counts : number + 1 + length left ≡ number + length (pair ∷ left) = omega arith in
    step (four_said params done) (four_said params more) number (offset_line pair) (map offset_line left ++ rest)
    (pair_read_on params number done pair
    (lawful_front more left (omega (arith, length-append done (pair ∷ []))) lawful) first.0.1 first.0.0 first.1)
    ∙ (pairs_read params (number + 1) more left rest lawful (λ place lt. each (suc place) (omega (arith, lt)))
    ∙ (λ i. lines_read (four_said params (same i)) (counts i) rest))

-- all have been said
abbrev all_said : Params → ℤ → ParamsSoFar
all_said params day = record {
  taxi = Some params.taxi.items;
  constant = Some params.constant;
  mode = Some params.mode;
  hold_time = Some params.hold_time;
  offsets = params.offsets;
  secured = Some day;
}

last_read : (params : Params) (number n : ℕ) → 10957 ≤ n → n ≤ 84005
    → lines_read (four_said params params.offsets) number
    (line_of (codes "secured") (date_text (date_after n)) ∷ [] ∷ []) ≡ Ok (all_said params (pos n))
unfolding lines_read
last_read params number n from to =
    let text = date_text (date_after n) in
    step (four_said params params.offsets) (all_said params (pos n)) number (line_of (codes "secured") text) ([] ∷ [])
    (keyed_read (four_said params params.offsets) number (codes "secured") text Secured
    (is_word (codes "secured") refl) refl (name_from Secured) ∙ rw (date_again n from to) refl)
    ∙ (step (all_said params (pos n)) (all_said params (pos n)) (number + 1) [] []
    (empty_read (all_said params (pos n)) (number + 1)) ∙ refl)

pub whole_again : (params : Params) (day : ℤ) (offsets : List (ℕ × ℤ)) → 0 < length offsets
    → whole_of (Some params.taxi.items) (Some params.constant) (Some params.mode) (Some params.hold_time) offsets
    (Some day) ≡ Ok (record params { offsets = offsets; secured = day })
whole_again params day [] some = absurd (omega (arith, some))
whole_again params day (pair ∷ pairs) some = refl

all_plain : (params : Params) (n : ℕ) → IsParams params → params.secured ≡ pos n → 10957 ≤ n → n ≤ 84005
    → All IsPlain (plain_lines params)
all_plain params n is day from to =
    let taxi = plain_line (codes "taxi") params.taxi.items (is_word (codes "taxi") refl)
    (are_shown params.taxi.items (All-weaker IsIdentifierCharacter
    (λ b. 33 ≤ b) taxi_word params.taxi.items is.taxi.characters)) (omega arith) (omega (arith, is.taxi.few)) in
    let date = date_shown n from to in
    let secured : IsPlain (line_of (codes "secured") (date_text (date_after (unsigned_abs params.secured)))) =
    subst (λ (d : ℤ). IsPlain (line_of (codes "secured") (date_text (date_after (unsigned_abs d))))) (sym day)
    (plain_line (codes "secured") (date_text (date_after n)) (is_word (codes "secured") refl)
    (are_shown (date_text (date_after n)) date.0) (omega arith) date.1) in
    let ends = line_of (codes "secured") (date_text (date_after (unsigned_abs params.secured))) ∷ [] in
    let pairs = map offset_line params.offsets ++ ends in
    let hold_time = line_of (codes "hold") (decimal params.hold_time) in
    let mode = line_of (codes "mode") (mode_text params.mode) in
    let constant = line_of (codes "constant") (decimal params.constant) in
    All-cons IsPlain (line_of (codes "taxi") params.taxi.items) (constant ∷ mode ∷ hold_time ∷ pairs) taxi
    (All-cons IsPlain constant (mode ∷ hold_time ∷ pairs) (number_line (codes "constant") params.constant
    (is_word (codes "constant") refl) (omega arith) (omega (arith, is.constant.1)))
    (All-cons IsPlain mode (hold_time ∷ pairs) (mode_line params.mode)
    (All-cons IsPlain hold_time pairs (number_line (codes "hold") params.hold_time (is_word (codes "hold") refl)
    (omega arith) (omega (arith, is.hold_time)))
    (All-append IsPlain (map offset_line params.offsets) ends (pair_lines params.offsets is.offsets.in_range)
    (All-cons IsPlain (line_of (codes "secured") (date_text (date_after (unsigned_abs params.secured)))) [] secured
    (All-nil IsPlain))))))

plain_read : (params : Params) (number n : ℕ) → IsParams params → params.secured ≡ pos n → 10957 ≤ n → n ≤ 84005
    → lines_read no_params_yet number (plain_lines params ++ [] ∷ []) ≡ Ok (all_said params params.secured)
plain_read params number n is day from to =
    let at : ℕ = number + 1 + 1 + 1 + 1 in
    let ends = line_of (codes "secured") (date_text (date_after (unsigned_abs params.secured))) ∷ [] in
    let date : unsigned_abs params.secured ≡ n = ap unsigned_abs day in
    four_read params number ((map offset_line params.offsets ++ ends) ++ [] ∷ []) is
    ∙ (ap (lines_read (four_said params []) at) (append_assoc (map offset_line params.offsets) ends ([] ∷ []))
    ∙ (pairs_read params at [] params.offsets (ends ++ [] ∷ []) is.offsets is.offsets.in_range
    ∙ (ap (λ (k : ℕ). lines_read (four_said params params.offsets) (at + length params.offsets)
    (line_of (codes "secured") (date_text (date_after k)) ∷ [] ∷ [])) date
    ∙ (last_read params (at + length params.offsets) n from to ∙ ap (λ (d : ℤ). Ok (all_said params d)) (sym day)))))

-- comments say nothing
comment_read : (said : ParamsSoFar) (number : ℕ) (comment : List ℕ)
    → line_read said number (comment_line comment) ≡ Ok said
unfolding line_read
comment_read said number comment = refl

comments_read : (said : ParamsSoFar) (number : ℕ) (comments lines : List (List ℕ))
    → lines_read said number (map comment_line comments ++ lines) ≡ lines_read said (number + length comments) lines
comments_read said number [] lines = ap (λ (k : ℕ). lines_read said k lines) (omega arith)
comments_read said number (comment ∷ comments) lines =
    step said said number (comment_line comment) (map comment_line comments ++ lines) (comment_read said number comment)
    ∙ (comments_read said (number + 1) comments lines ∙ ap (λ (k : ℕ). lines_read said k lines) (omega arith))

comments_are_lines : (comments : List (List ℕ)) → All AreShown comments → All IsLine (map comment_line comments)
comments_are_lines [] all = All-nil IsLine
comments_are_lines (comment ∷ comments) all =
    All-cons IsLine (comment_line comment) (map comment_line comments)
    (comment_is_line comment (All-head AreShown comment comments all))
    (comments_are_lines comments (All-tail AreShown comment comments all))

pub few_plain_lines : (params : Params) → IsParams params → length (plain_lines params) ≤ 37
few_plain_lines params is =
    let ends = line_of (codes "secured") (date_text (date_after (unsigned_abs params.secured))) ∷ [] in
    omega (
      arith,
      is.offsets.few,
      length-map params.offsets offset_line,
      length-append (map offset_line params.offsets) ends,
    )

short_by_day : (params : Params) (day : ℤ) → IsParams params → params.secured ≡ day
    → (pos 10957 ≤ℤ day) × (day ≤ℤ pos 84005) → length (plain_text params) ≤ 1517
short_by_day params (negsuc n) is same range = absurd (grind (arith, ints, range.0))
short_by_day params (pos n) is same range =
    let plain = all_plain params n is same (grind (arith, ints, range.0)) (grind (arith, ints, range.1)) in
    omega (arith, length_ended (plain_lines params) plain, few_plain_lines params is)

pub comments_make_it_longer : (comments : List (List ℕ)) (params : Params) → IsParams params
    → length (commented_text comments params) ≤ length (ended_text (map comment_line comments)) + 1517
comments_make_it_longer comments params is =
    omega (
      arith,
      ap length (flat_map-append (λ line. line ++ 10 ∷ []) (map comment_line comments) (plain_lines params)),
      length-append (ended_text (map comment_line comments)) (plain_text params),
      short_by_day params params.secured is refl is.secured,
    )

read_by_day : (comments : List (List ℕ)) (params : Params) (day : ℤ) → IsParams params → params.secured ≡ day
    → (pos 10957 ≤ℤ day) × (day ≤ℤ pos 84005) → All AreShown comments
    → length (commented_text comments params) ≤ 65536 → params_read (commented_text comments params) ≡ Ok params
unfolding params_read
read_by_day comments params (negsuc n) is same range shown short = absurd (grind (arith, ints, range.0))
read_by_day comments params (pos n) is same range shown short =
    let from : 10957 ≤ n = grind (arith, ints, range.0) in
    let to : n ≤ 84005 = grind (arith, ints, range.1) in
    let plain = All-weaker IsPlain IsLine is_line (plain_lines params) (all_plain params n is same from to) in
    let front = map comment_line comments in
    let all = All-append IsLine front (plain_lines params) (comments_are_lines comments shown) plain in
    rw (
      le-ltb 65536 (length (commented_text comments params)) short,
      ended_lines (front ++ plain_lines params) all,
      append_assoc front (plain_lines params) ([] ∷ []),
      comments_read no_params_yet 1 comments (plain_lines params ++ [] ∷ []),
      plain_read params (1 + length comments) n is same from to,
    )
    (whole_again params params.secured params.offsets (omega (arith, is.offsets.some)))

pub comments_are_passed_over : (comments : List (List ℕ)) (params : Params) → IsParams params → All AreShown comments
    → length (commented_text comments params) ≤ 65536 → params_read (commented_text comments params) ≡ Ok params
comments_are_passed_over comments params is shown short =
    read_by_day comments params params.secured is refl is.secured shown short

pub plain_texts_read_back : (params : Params) → IsParams params → params_read (plain_text params) ≡ Ok params
plain_texts_read_back params is =
    comments_are_passed_over [] params is (All-nil AreShown)
    (omega (arith, short_by_day params params.secured is refl is.secured))
