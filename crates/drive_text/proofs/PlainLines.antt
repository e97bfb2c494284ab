-- Lines without a byte below the blank, and those of them that are read in one pass.
use Rattle.std.specs.{Char.{digit_value, is_ascii_digit}, Str.Parse.{AllDigits, digits_value}}
use Rattle.std.{specs.Str.Lines.{strip_carriage_return}, proofs.lemmas.Bool.{ne_eqb}}
use Rattle.std.proofs.Common.{[], ℕ, ◌*◌, ◌++◌, ◌+◌, ◌-◌, ◌<◌, ◌^◌, ◌∙◌, ◌∷◌, ◌≡◌, ◌≢◌, ◌≤◌, All, List, Some, ap}
use Rattle.std.proofs.Common.{append_assoc, arith, codes, drop, eqb, false, get_or, length, length-drop, length-take}
use Rattle.std.proofs.{Common.{refl, subst, sym, take, take-append-drop, take_all, true}, Math.Nat.{pow-le-pow_right}}
use Rattle.std.proofs.lemmas.{Bool.Decides.{nat_tests}, Int.Digits.{digits_more, digits_value-lt, digits_value_more}}
use Rattle.std.proofs.lemmas.{List.{append-nil, Elements.{All-append, All-cons, All-nil}}, Str.Parse.{digit_from_value}}
use Rattle.drive_text.specs.{Common.{IsNumberIn, Pulses, Tick}, Part.{TakesPart}, Table.Means.{intervals, pulses, tick}}
use Rattle.drive_text.specs.{Fields.{line_runs}, Lines.{IsOneLine}, Reading.{Reading}, Table.{Means}}
use Rattle.drive_text.specs.{Plain.{BeginsWithLine, BeginsWithNumber}, declared.run.Run.{Run, TheVariants.{Many, One}}}
use Rattle.drive_text.proofs.{Numbers.{no_bytes}, Ranges.{runs_in_range}, Table.{line_runs-table}}
use Rattle.drive_text.proofs.{ReaderPieces.{takes_line}, ReaderPlaces.{line_gives, line_is_good, line_number_of}}

-- ---- plain lines

-- no line end and no CR
abbrev pub IsPlain : List ℕ → Type 0
IsPlain t = All (λ c. 32 ≤ c) t

pub more_plain : (c : ℕ) (t : List ℕ) → 32 ≤ c → IsPlain t → IsPlain (c ∷ t)
more_plain c t h p = All-cons (λ x. 32 ≤ x) c t h p

pub one_plain : (c : ℕ) → 32 ≤ c → IsPlain (c ∷ [])
one_plain c h = more_plain c [] h (All-nil (λ x. 32 ≤ x))

pub plain_digits : (ds : List ℕ) → AllDigits 10 ds → IsPlain ds
plain_digits [] h = All-nil (λ c. 32 ≤ c)
plain_digits (d ∷ ds) h =
    let digit = digit_from_value d h.0 in
    All-cons (λ c. 32 ≤ c) d ds (omega arith) (plain_digits ds h.1)

-- no CR stands at the end
strip_plain : (t : List ℕ) → IsPlain t → strip_carriage_return t ≡ t
strip_plain [] p = refl
strip_plain (x ∷ xs) p =
    let last : 32 ≤ get_or (x ∷ xs) (length (x ∷ xs) - 1) 0 = p (length (x ∷ xs) - 1) 0 (omega arith) in
    let no_cr : eqb (get_or (x ∷ xs) (length (x ∷ xs) - 1) 0) 13 ≡ false = ne_eqb _ 13 (λ e. omega arith) in
    rw no_cr refl

pub no_lf : (t : List ℕ) → IsPlain t → IsOneLine t
no_lf t p = λ k d lt. let c = p k d lt in λ e. omega arith

-- a plain line has the run that the table says
pub plain_run : (text : List ℕ) (run : Run) → IsPlain text → Means text (run ∷ []) → line_runs text ≡ Some (run ∷ [])
plain_run text run plain means = (line_runs-table text (run ∷ [])).1
    (subst (λ (t : List ℕ). Means t (run ∷ [])) (sym (strip_plain text plain)) means)

-- ---- read in one pass

-- a digit's value
digit_value_is : (c : ℕ) → is_ascii_digit c ≡ true → digit_value c ≡ c - 48
digit_value_is c h = grind (arith, nat_tests)

-- four digits leave room for one more
pub room_for_a_digit : (bytes : List ℕ) (count number : ℕ) → count < 5 → count < length bytes
    → AllDigits 10 (take count bytes) → digits_value 10 (take count bytes) ≡ number → number < 10000
room_for_a_digit bytes count number few within digits value =
    let below : digits_value 10 (take count bytes) < 10 ^ length (take count bytes) =
    digits_value-lt 10 (take count bytes) digits in
    let short : length (take count bytes) ≤ 4 = omega (arith, length-take count bytes) in
    let most : 10 ^ length (take count bytes) ≤ 10 ^ 4 = pow-le-pow_right (omega arith) short in
    omega arith

-- a digit more in front
pub digit_more : (bytes : List ℕ) (count number : ℕ) → count < length bytes → is_ascii_digit (get_or bytes count 0)
    ≡ true → AllDigits 10 (take count bytes) → digits_value 10 (take count bytes) ≡ number
    → AllDigits 10 (take (count + 1) bytes)
    × (digits_value 10 (take (count + 1) bytes) ≡ number * 10 + (get_or bytes count 0 - 48))
digit_more bytes count number within digit digits value =
    let c = get_or bytes count 0 in
    let is = digit_value_is c digit in
    let below : digit_value c < 10 = grind (arith, nat_tests) in (
      digits_more 10 bytes count within digits below,
      digits_value_more 10 bytes count within
          ∙ (ap (λ (n : ℕ). n * 10 + digit_value c) value ∙ ap (λ (n : ℕ). number * 10 + n) is),
    )

-- the digits in front are a number, with the rest behind them
pub begins_with_number : (bytes : List ℕ) (count number : ℕ) → count ≢ 0 → count ≤ length bytes → count ≤ 5
    → AllDigits 10 (take count bytes) → digits_value 10 (take count bytes) ≡ number
    → BeginsWithNumber bytes number (take (length bytes - count) (drop count bytes))
begins_with_number bytes count number some within few digits value =
    let whole : take (length bytes - count) (drop count bytes) ≡ drop count bytes =
    take_all (length bytes - count) (drop count bytes) (omega (arith, length-drop count bytes)) in
    record {
      digits = take count bytes;
      split = sym (take-append-drop count bytes) ∙ ap (λ (x : List ℕ). take count bytes ++ x) (sym whole);
      written = record {
        numeral = (omega (arith, some, length-take count bytes), digits);
        some = omega (arith, some, length-take count bytes);
        few = omega (arith, length-take count bytes);
        value = value;
      };
    }

-- a number of a range
in_range : (low high : ℕ) (bytes : List ℕ) (number : ℕ) (rest : List ℕ) (h : BeginsWithNumber bytes number rest)
    → low ≤ number → number ≤ high → IsNumberIn low high h.digits number
in_range low high bytes number rest h above below = record {
  written = record {
    numeral = h.written.numeral;
    some = h.written.some;
    few = omega (arith, h.written.few);
    value = h.written.value;
  };
  above = above;
  below = below;
}

begins : (line : List ℕ) (run : Run) (bytes rest : List ℕ) → bytes ≡ line ++ 10 ∷ rest → IsPlain line
    → Means line (run ∷ []) → BeginsWithLine bytes run rest
begins line run bytes rest split plain means =
    record { line = line; split = split; one = no_lf line plain; gives = plain_run line run plain means }

-- the byte in front of bytes, and what stands behind it
in_front : (bytes : List ℕ) (byte : ℕ) → 1 ≤ length bytes → get_or bytes 0 0 ≡ byte
    → bytes ≡ byte ∷ take (length bytes - 1) (drop 1 bytes)
in_front [] byte some is = absurd (omega arith)
in_front (x ∷ xs) byte some is =
    let all : take (length (x ∷ xs) - 1) xs ≡ xs = take_all (length (x ∷ xs) - 1) xs (omega arith) in
    ap (λ (y : ℕ). y ∷ xs) is ∙ ap (λ (ys : List ℕ). byte ∷ ys) (sym all)

-- the two bytes in front
two_in_front : (bytes : List ℕ) (first second : ℕ) → 2 ≤ length bytes → get_or bytes 0 0 ≡ first
    → get_or bytes 1 0 ≡ second → bytes ≡ first ∷ second ∷ take (length bytes - 2) (drop 2 bytes)
two_in_front [] first second some is next = absurd (omega arith)
two_in_front (x ∷ []) first second some is next = absurd (omega arith)
two_in_front (x ∷ y ∷ ys) first second some is next =
    let all : take (length (x ∷ y ∷ ys) - 2) ys ≡ ys = take_all (length (x ∷ y ∷ ys) - 2) ys (omega arith) in
    rw (all, is, next) refl

pub tick_line : (bytes : List ℕ) → 2 ≤ length bytes → get_or bytes 0 0 ≡ 84 → get_or bytes 1 0 ≡ 10
    → BeginsWithLine bytes (One Tick) (take (length bytes - 2) (drop 2 bytes))
tick_line bytes some word end =
    let split : bytes ≡ 84 ∷ 10 ∷ take (length bytes - 2) (drop 2 bytes) = two_in_front bytes 84 10 some word end in
    begins (codes "T") (One Tick) bytes (take (length bytes - 2) (drop 2 bytes)) split (one_plain 84 (omega arith)) tick

pub pulses_line : (bytes behind : List ℕ) (p : ℕ) → BeginsWithNumber bytes p behind → 1 ≤ length behind
    → get_or behind 0 0 ≡ 10 → 1 ≤ p → p ≤ 65535
    → BeginsWithLine (codes "P " ++ bytes) (One (Pulses p)) (take (length behind - 1) (drop 1 behind))
pulses_line bytes behind p h some end least most =
    let rest : List ℕ = take (length behind - 1) (drop 1 behind) in
    let last : behind ≡ 10 ∷ rest = in_front behind 10 some end in
    let parts : bytes ≡ h.digits ++ 10 ∷ rest = h.split ∙ ap (λ (x : List ℕ). h.digits ++ x) last in
    let split : codes "P " ++ bytes ≡ (codes "P " ++ h.digits) ++ 10 ∷ rest =
    ap (λ (x : List ℕ). codes "P " ++ x) parts in
    let digits : IsPlain h.digits = plain_digits h.digits h.written.numeral.1 in
    let plain : IsPlain (codes "P " ++ h.digits) =
    more_plain 80 (32 ∷ h.digits) (omega arith) (more_plain 32 h.digits (omega arith) digits) in
    begins (codes "P " ++ h.digits) (One (Pulses p)) (codes "P " ++ bytes) rest split plain
    (pulses p h.digits (in_range 1 65535 bytes p behind h least most))

-- the three bytes in front
three_in_front : (bytes : List ℕ) (first second third : ℕ) → 3 ≤ length bytes → get_or bytes 0 0 ≡ first
    → get_or bytes 1 0 ≡ second → get_or bytes 2 0 ≡ third
    → bytes ≡ first ∷ second ∷ third ∷ take (length bytes - 3) (drop 3 bytes)
three_in_front [] first second third some is next last = absurd (omega arith)
three_in_front (x ∷ []) first second third some is next last = absurd (omega arith)
three_in_front (x ∷ y ∷ []) first second third some is next last = absurd (omega arith)
three_in_front (x ∷ y ∷ z ∷ zs) first second third some is next last =
    let all : take (length (x ∷ y ∷ z ∷ zs) - 3) zs ≡ zs = take_all (length (x ∷ y ∷ z ∷ zs) - 3) zs (omega arith) in
    rw (all, is, next, last) refl

-- the number 1 as it is written
number_one : IsNumberIn 1 36000 (49 ∷ []) 1
number_one =
    let one : digit_value 49 ≡ 1 = digit_value_is 49 refl in
    record {
      written = record {
        numeral = (omega arith, (omega (arith, one), tt));
        some = omega arith;
        few = omega arith;
        value = omega (arith, one);
      };
      above = omega arith;
      below = omega arith;
    }

-- the digits of the second number stand behind the blank, and the LF behind them
intervals_text : (bytes behind digits rest : List ℕ) (p n : ℕ) → BeginsWithNumber bytes p behind
    → behind ≡ 32 ∷ (digits ++ 10 ∷ rest) → p ≤ 65535 → IsNumberIn 1 36000 digits n
    → BeginsWithLine (codes "I " ++ bytes) (Many p n) rest
intervals_text bytes behind digits rest p n h blank few k =
    let fields : List ℕ = h.digits ++ (codes " " ++ digits) in
    let parts : bytes ≡ fields ++ 10 ∷ rest =
    h.split ∙ (ap (λ (x : List ℕ). h.digits ++ x) blank
    ∙ sym (append_assoc h.digits (codes " " ++ digits) (10 ∷ rest))) in
    let second : IsPlain (codes " " ++ digits) =
    more_plain 32 digits (omega arith) (plain_digits digits k.written.numeral.1) in
    let numbers : IsPlain fields =
    All-append (λ x. 32 ≤ x) h.digits (codes " " ++ digits) (plain_digits h.digits h.written.numeral.1) second in
    begins (codes "I " ++ fields) (Many p n) (codes "I " ++ bytes) rest (ap (λ (x : List ℕ). codes "I " ++ x) parts)
    (more_plain 73 (32 ∷ fields) (omega arith) (more_plain 32 fields (omega arith) numbers))
    (intervals p n h.digits digits (in_range 0 65535 bytes p behind h (omega arith) few) k)

pub intervals_line : (bytes behind end : List ℕ) (p n : ℕ) → BeginsWithNumber bytes p behind → 1 ≤ length behind
    → get_or behind 0 0 ≡ 32 → BeginsWithNumber (take (length behind - 1) (drop 1 behind)) n end → 1 ≤ length end
    → get_or end 0 0 ≡ 10 → p ≤ 65535 → 1 ≤ n → n ≤ 36000
    → BeginsWithLine (codes "I " ++ bytes) (Many p n) (take (length end - 1) (drop 1 end))
intervals_line bytes behind end p n h more blank k some lf few least most =
    let second : List ℕ = take (length behind - 1) (drop 1 behind) in
    let rest : List ℕ = take (length end - 1) (drop 1 end) in
    let last : second ≡ k.digits ++ 10 ∷ rest =
    k.split ∙ ap (λ (x : List ℕ). k.digits ++ x) (in_front end 10 some lf) in
    let whole : behind ≡ 32 ∷ (k.digits ++ 10 ∷ rest) =
    in_front behind 32 more blank ∙ ap (λ (x : List ℕ). 32 ∷ x) last in
    intervals_text bytes behind k.digits rest p n h whole few (in_range 1 36000 second n end k least most)

-- a line of one interval
pub one_interval_line : (bytes behind : List ℕ) (p : ℕ) → BeginsWithNumber bytes p behind → 3 ≤ length behind
    → get_or behind 0 0 ≡ 32 → get_or behind 1 0 ≡ 49 → get_or behind 2 0 ≡ 10 → p ≤ 65535
    → BeginsWithLine (codes "I " ++ bytes) (Many p 1) (take (length behind - 3) (drop 3 behind))
one_interval_line bytes behind p h some blank one lf few =
    intervals_text bytes behind (49 ∷ []) (take (length behind - 3) (drop 3 behind)) p 1 h
    (three_in_front behind 32 49 10 some blank one lf) few number_one

-- what is taken of a part is taken of a piece that begins with it
pub takes_before : (old new : Reading) (part piece rest : List ℕ) (before after : List Run) → piece ≡ part ++ rest
    → TakesPart old new part [] before after → TakesPart old new piece rest before after
takes_before old new part piece rest before after split t = record {
  part = t.part;
  split = split ∙ ap (λ (x : List ℕ). x ++ rest) (t.split ∙ append-nil t.part);
  some = t.some;
  going = t.going;
  counted = t.counted;
  reader = t.reader;
  runs = t.runs;
  added = t.added;
  in_range = t.in_range;
  read = t.read;
  quiet = t.quiet;
}

-- what is taken of a part is taken of a piece that is that part, with nothing left
pub takes_whole : (old new : Reading) (piece line : List ℕ) (runs : List Run) → piece ≡ line
    → TakesPart old new line [] runs runs
    → TakesPart old new piece (take (length line - length line) (drop (length line) line)) runs runs
takes_whole old new piece line runs is t =
    let none : length line - length line ≡ 0 = omega arith in
    rw (none, is) t

next_number : (r : Reading) → r.kept ≡ [] → line_number_of r ≡ r.begun + 1
next_number r none = rw none refl

-- a reader between two lines takes a plain line
pub takes_plain : (old new : Reading) (piece rest : List ℕ) (run : Run) (before after : List Run)
    → BeginsWithLine piece run rest → length old.kept ≡ 0 → old.failed ≡ false → old.comment ≡ false
    → new ≡ record { begun = old.begun + 1; kept = old.kept; comment = old.comment; failed = old.failed }
    → after ≡ before ++ run ∷ [] → TakesPart old new piece rest before after
takes_plain old new piece rest run before after h short going plain is added =
    let none : old.kept ≡ [] = no_bytes old.kept short in
    let good : line_runs (old.kept ++ h.line) ≡ Some (run ∷ []) =
    ap (λ (x : List ℕ). line_runs (x ++ h.line)) none ∙ h.gives in
    let failed = ap (λ (r : Reading). r.failed) is ∙ going in
    let begun : new.begun ≡ old.begun + 1 = ap (λ (r : Reading). r.begun) is in
    let number : new.begun ≡ line_number_of old = begun ∙ sym (next_number old none) in
    let t : TakesPart old new (h.line ++ 10 ∷ []) [] before after = takes_line old new h.line before after
    (run ∷ []) h.one added (runs_in_range h.line (run ∷ []) h.gives) failed (omega arith)
    (λ b taken. line_is_good old new b h.line (run ∷ []) h.one going plain good number
    (ap (λ (r : Reading). r.kept) is ∙ none) (ap (λ (r : Reading). r.comment) is ∙ plain) failed taken)
    (λ b taken. line_gives old b h.line (run ∷ []) h.one going plain good taken) in
    takes_before old new (h.line ++ 10 ∷ []) piece rest before after
    (h.split ∙ sym (append_assoc h.line (10 ∷ []) rest)) t
