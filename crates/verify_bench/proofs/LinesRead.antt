-- The lines of a generated drive are read as they are meant.
use Rattle.std.{specs.Str.{Lines.{strip_carriage_return}, Parse.{AllDigits}}, proofs.lemmas.Bool.{ne_eqb}}
use Rattle.std.proofs.Common.{[], ℕ, ◌++◌, ◌-◌, ◌<◌, ◌^◌, ◌∙◌, ◌∷◌, ◌≡◌, ◌≤◌, All, List, None, ap, append_assoc, arith}
use Rattle.std.proofs.Common.{codes, decimal, eqb, false, flat_map, get_or, length, refl, subst, sym}
use Rattle.std.proofs.lemmas.{Fmt.{decimal_is_IsNumeral_wide}, Grind.{flat_map-append}, Str.Parse.{digit_from_value}}
use Rattle.std.proofs.lemmas.List.{append-nil, Elements.{All-append, All-cons, All-head, All-nil, All-tail}}
use Rattle.taxi_units.{specs.Digits.{IsNumberIn}, proofs.Laws.{numbers_are_written_as_figures}}
use Rattle.drive_text.specs.{Lines.{IsOneLine, text_of}, Whole.{EndsWhole, GiveAll, GiveAll.{no_line, one_more}}}
use Rattle.{drive_text.specs.Table.{Means, Means.{intervals}}, verify_bench.specs.Generated.{line_text, lines_text}}
use Rattle.verify_bench.specs.Common.{IsRunInRange, Many, One, Run, bad_at_end, runs_in}
use Rattle.drive_text.proofs.Laws as laws

-- no line end and no CR stands in it
abbrev HasNoEnd : List ℕ → Type 0
HasNoEnd text = All (λ byte. 32 ≤ byte) text

digits_have_no_end : (digits : List ℕ) → AllDigits 10 digits → HasNoEnd digits
digits_have_no_end [] all = All-nil (λ byte. 32 ≤ byte)
digits_have_no_end (d ∷ ds) all =
    let digit = digit_from_value d all.0 in
    All-cons (λ byte. 32 ≤ byte) d ds (omega arith) (digits_have_no_end ds all.1)

number_has_no_end : (n : ℕ) → n < 10 ^ 12 → HasNoEnd (decimal n)
number_has_no_end n small = digits_have_no_end (decimal n) (decimal_is_IsNumeral_wide n (omega arith)).0.1

-- a number that is written is one
is_number : (low high n : ℕ) → low ≤ n → n ≤ high → n < 10 ^ 12 → IsNumberIn low high (decimal n) n
is_number low high n above below small =
    numbers_are_written_as_figures 12 low high n (omega arith) (omega arith) small above below

-- no CR is dropped
strip_none : (text : List ℕ) → HasNoEnd text → strip_carriage_return text ≡ text
strip_none [] plain = refl
strip_none (x ∷ xs) plain =
    let last : 32 ≤ get_or (x ∷ xs) (length (x ∷ xs) - 1) 0 = plain (length (x ∷ xs) - 1) 0 (omega arith) in
    let no_cr : eqb (get_or (x ∷ xs) (length (x ∷ xs) - 1) 0) 13 ≡ false = ne_eqb _ 13 (λ e. omega arith) in
    rw no_cr refl

is_one_line : (text : List ℕ) → HasNoEnd text → IsOneLine text
is_one_line text plain = λ k d lt. let byte = plain k d lt in λ e. omega arith

-- the fields of intervals
abbrev fields_of : (pulses count : ℕ) → List ℕ
fields_of pulses count = codes "I " ++ (decimal pulses ++ (codes " " ++ decimal count))

fields_have_no_end : (pulses count : ℕ) → pulses < 10 ^ 12 → count < 10 ^ 12 → HasNoEnd (fields_of pulses count)
fields_have_no_end pulses count small few =
    let at_least = λ (byte : ℕ). 32 ≤ byte in
    let second = All-cons at_least 32 (decimal count) (omega arith) (number_has_no_end count few) in
    let both = All-append at_least (decimal pulses) (32 ∷ decimal count) (number_has_no_end pulses small) second in
    All-cons at_least 73 (32 ∷ (decimal pulses ++ 32 ∷ decimal count)) (omega arith)
    (All-cons at_least 32 (decimal pulses ++ 32 ∷ decimal count) (omega arith) both)

line_is_fields : (pulses count : ℕ) → line_text (Many pulses count) ≡ fields_of pulses count ++ 10 ∷ []
unfolding line_text
line_is_fields pulses count = rw (append_assoc (decimal pulses) (32 ∷ decimal count) (10 ∷ [])) refl

fields_mean : (pulses count : ℕ) → IsRunInRange (Many pulses count)
    → Means (strip_carriage_return (fields_of pulses count)) (Many pulses count ∷ [])
fields_mean pulses count range =
    let plain = fields_have_no_end pulses count (omega arith) (omega arith) in
    let first = is_number 0 65535 pulses (omega arith) range.0 (omega arith) in
    let second = is_number 1 36000 count range.1 range.2 (omega arith) in
    subst (λ (text : List ℕ). Means text (Many pulses count ∷ [])) (sym (strip_none (fields_of pulses count) plain))
    (intervals pulses count (decimal pulses) (decimal count) first second)

-- a line more gives its runs behind those of the others
give_more : (lines : List (List ℕ)) (runs : List Run) (line : List ℕ) (these : List Run) → GiveAll lines runs
    → Means (strip_carriage_return line) these → GiveAll (lines ++ line ∷ []) (runs ++ these)
give_more _ _ line these no_line mean = rw (append-nil these) at (one_more line [] these [] mean no_line)
give_more _ _ line these (one_more first lines its others its_mean give) mean =
    rw (sym (append_assoc its others these)) at
    (one_more first (lines ++ line ∷ []) its (others ++ these) its_mean (give_more lines others line these give mean))

-- a line of intervals behind ended lines of which none is bad
intervals_read : (b : List ℕ) (pulses count : ℕ) → IsRunInRange (Many pulses count) → bad_at_end b ≡ None
    → (bad_at_end (b ++ line_text (Many pulses count)) ≡ None)
    × (runs_in (b ++ line_text (Many pulses count)) ≡ runs_in b ++ Many pulses count ∷ [])
intervals_read b pulses count range good =
    let whole = (laws.drive_at_end b (runs_in b)).0 (good, refl) in
    let fields = fields_of pulses count in
    let with_end = λ (line : List ℕ). line ++ 10 ∷ [] in
    let plain = fields_have_no_end pulses count (omega arith) (omega arith) in
    let before : b ≡ flat_map with_end whole.lines = whole.text ∙ append-nil (flat_map with_end whole.lines) in
    let last : flat_map with_end (whole.lines ++ fields ∷ []) ≡ flat_map with_end whole.lines ++ with_end fields =
    flat_map-append with_end whole.lines (fields ∷ [])
    ∙ ap (λ (t : List ℕ). flat_map with_end whole.lines ++ t) (append-nil (with_end fields))
    in
    let text : b ++ line_text (Many pulses count) ≡ text_of (whole.lines ++ fields ∷ []) [] =
    ap (λ (t : List ℕ). b ++ t) (line_is_fields pulses count)
    ∙ (ap (λ (t : List ℕ). t ++ with_end fields) before
    ∙ (sym last ∙ sym (append-nil (flat_map with_end (whole.lines ++ fields ∷ [])))))
    in
    let more : EndsWhole (b ++ line_text (Many pulses count)) (runs_in b ++ Many pulses count ∷ []) = record {
      lines = whole.lines ++ fields ∷ [];
      text = text;
      ended = All-append IsOneLine whole.lines (fields ∷ []) whole.ended
          (All-cons IsOneLine fields [] (is_one_line fields plain) (All-nil IsOneLine));
      give =
          give_more whole.lines (runs_in b) fields (Many pulses count ∷ []) whole.give (fields_mean pulses count range);
    } in
    (laws.drive_at_end (b ++ line_text (Many pulses count)) (runs_in b ++ Many pulses count ∷ [])).1 more

line_reads : (b : List ℕ) (run : Run) → IsRunInRange run → bad_at_end b ≡ None
    → (bad_at_end (b ++ line_text run) ≡ None) × (runs_in (b ++ line_text run) ≡ runs_in b ++ run ∷ [])
unfolding line_text
line_reads b (One event) range good =
    (laws.written_line_is_good b event range good, laws.written_line_gives b event range good)
line_reads b (Many pulses count) range good = intervals_read b pulses count range good

-- lines behind ended lines of which none is bad
pub lines_read : (lines : List Run) (b : List ℕ) → All IsRunInRange lines → bad_at_end b ≡ None
    → (bad_at_end (b ++ lines_text lines) ≡ None) × (runs_in (b ++ lines_text lines) ≡ runs_in b ++ lines)
lines_read [] b all good =
    (ap bad_at_end (append-nil b) ∙ good, ap runs_in (append-nil b) ∙ sym (append-nil (runs_in b)))
lines_read (run ∷ lines) b all good =
    let first = line_reads b run (All-head IsRunInRange run lines all) good in
    let others = lines_read lines (b ++ line_text run) (All-tail IsRunInRange run lines all) first.0 in
    let text : (b ++ line_text run) ++ lines_text lines ≡ b ++ lines_text (run ∷ lines) =
    append_assoc b (line_text run) (lines_text lines) in (
      rw text at others.0,
      ap runs_in (sym text)
          ∙ (others.1 ∙ (ap (λ (runs : List Run). runs ++ lines) first.1 ∙ append_assoc (runs_in b) (run ∷ []) lines)),
    )

-- a drive without bytes is a drive without runs
pub nothing_reads : (bad_at_end [] ≡ None) × (runs_in [] ≡ [])
nothing_reads =
    (laws.drive_at_end [] []).1 (record { lines = []; text = refl; ended = All-nil IsOneLine; give = no_line })
