-- The line of an event is read as that event.
use Rattle.std.proofs.Common.{[], ℕ, ◌++◌, ◌+◌, ◌<◌, ◌^◌, ◌∙◌, ◌∷◌, ◌≡◌, ◌≤◌, Bool, List, None, Option, Some, ap, arith}
use Rattle.std.proofs.{Common.{codes, cond, decimal, eqb, false, length, refl, true}, lemmas.Bool.{eqb-true}}
use Rattle.{std.proofs.lemmas.Fmt.{decimal_is_IsNumeral_wide}, taxi_units.proofs.Laws.{numbers_are_written_as_figures}}
use Rattle.drive_text.specs.Common.{Clock, Down, Event, Extra, IsNumberIn, Key, Position, Pulses, Tick, Up, Zone}
use Rattle.drive_text.specs.{Common.{first_second, last_second}, Lines.{ended_lines, is_too_long, unfinished_line}}
use Rattle.drive_text.{specs.Drive.{bad_at_end, first_bad_line, or_else, runs_in, runs_of_lines}, proofs.Table.{sound}}
use Rattle.drive_text.specs.Fields.{line_runs, plain_key, run_of_two_fields, text_runs}
use Rattle.drive_text.specs.Ranges.{IsInRange, IsKeyInRange}
use Rattle.drive_text.specs.Table.{Means, Means.{clock, down, extra, position, pulses, tick, up, zone}}
use Rattle.drive_text.specs.{Written.{event_fields, event_text, key_text}, declared.run.Run.{Run, TheVariants.{One}}}
use Rattle.drive_text.proofs.{Parts.{line_ends}, Positions.{first_bad_line-good, runs_of_lines-good, runs_of_lines-one}}
use Rattle.drive_text.proofs.PlainLines.{IsPlain, more_plain, no_lf, one_plain, plain_digits, plain_run}
use Rattle.taxi_units.specs.declared.event.Event.TheVariants as events

-- a number that is written is one
written : (low high n : ℕ) → low ≤ n → n ≤ high → n < 10 ^ 12 → IsNumberIn low high (decimal n) n
written low high n above below small =
    numbers_are_written_as_figures 12 low high n (omega arith) (omega arith) small above below

key_means : (key : Key) → IsKeyInRange key → Means (codes "K " ++ key_text key) (One (events.Key key) ∷ [])
unfolding key_text plain_key run_of_two_fields text_runs
key_means (Position n) h = position n (decimal n) (written 0 99 n (omega arith) h (omega arith))
key_means (Zone n) h = zone n (decimal n) (written 0 99 n (omega arith) h (omega arith))
key_means (Extra n) h = extra n (decimal n) (written 0 99 n (omega arith) h (omega arith))
key_means key h = sound (codes "K " ++ key_text key) (One (events.Key key) ∷ []) refl

-- the fields of an event mean that event
fields_mean : (event : Event) → IsInRange event → Means (event_fields event) (One event ∷ [])
unfolding event_fields
fields_mean (Up n) h = up n (decimal n) (written first_second last_second n h.0 h.1 (omega arith))
fields_mean Down h = down
fields_mean (Pulses n) h = pulses n (decimal n) (written 1 65535 n h.0 h.1 (omega arith))
fields_mean Tick h = tick
fields_mean (Clock n) h = clock n (decimal n) (written first_second last_second n h.0 h.1 (omega arith))
fields_mean (events.Key key) h = key_means key h

plain_decimal : (n : ℕ) → n < 10 ^ 12 → IsPlain (decimal n)
plain_decimal n small = plain_digits (decimal n) (decimal_is_IsNumeral_wide n (omega arith)).0.1

number_plain : (c n : ℕ) → 32 ≤ c → n < 10 ^ 12 → IsPlain (c ∷ 32 ∷ decimal n)
number_plain c n h small =
    more_plain c (32 ∷ decimal n) h (more_plain 32 (decimal n) (omega arith) (plain_decimal n small))

key_plain : (key : Key) → IsKeyInRange key → IsPlain (key_text key)
unfolding key_text
key_plain (Position n) h = number_plain 80 n (omega arith) (omega arith)
key_plain (Zone n) h = number_plain 90 n (omega arith) (omega arith)
key_plain (Extra n) h = number_plain 69 n (omega arith) (omega arith)
key_plain key h = one_plain _ (omega arith)

fields_plain : (event : Event) → IsInRange event → IsPlain (event_fields event)
unfolding event_fields
fields_plain (Up n) h = number_plain 85 n (omega arith) (omega arith)
fields_plain Down h = one_plain 68 (omega arith)
fields_plain (Pulses n) h = number_plain 80 n (omega arith) (omega arith)
fields_plain Tick h = one_plain 84 (omega arith)
fields_plain (Clock n) h = number_plain 67 n (omega arith) (omega arith)
fields_plain (events.Key key) h =
    more_plain 75 (32 ∷ key_text key) (omega arith) (more_plain 32 (key_text key) (omega arith) (key_plain key h))

line_read : (event : Event) → IsInRange event → line_runs (event_fields event) ≡ Some (One event ∷ [])
line_read event h = plain_run (event_fields event) (One event) (fields_plain event h) (fields_mean event h)

ends_by : (o : Option ℕ) (long empty : Bool) (k m : ℕ)
    → or_else (or_else o (cond long (Some k) None)) (cond empty None (Some m)) ≡ None → (o ≡ None) × (empty ≡ true)
ends_by (Some n) long empty k m e = cc
ends_by None true empty k m e = cc
ends_by None false true k m e = (refl, refl)
ends_by None false false k m e = cc

empty_is : (t : List ℕ) → eqb (length t) 0 ≡ true → t ≡ []
empty_is [] e = refl
empty_is (x ∷ xs) e = let none : length (x ∷ xs) ≡ 0 = eqb-true (length (x ∷ xs)) 0 e in absurd (omega arith)

-- a good line after ended good lines
good_line : (b t : List ℕ) (rs : List Run) → IsPlain t → line_runs t ≡ Some rs → bad_at_end b ≡ None
    → (runs_in (b ++ (t ++ 10 ∷ [])) ≡ runs_in b ++ rs) × (bad_at_end (b ++ (t ++ 10 ∷ [])) ≡ None)
good_line b t rs p good whole =
    let h = ends_by (first_bad_line (ended_lines b)) (is_too_long (unfinished_line b))
    (eqb (length (unfinished_line b)) 0) (length (ended_lines b) + 1) (length (ended_lines b) + 1) whole in
    let ends = line_ends b t (no_lf t p) in
    let line : unfinished_line b ++ t ≡ t = ap (λ (l : List ℕ). l ++ t) (empty_is (unfinished_line b) h.1) in
    let ended : ended_lines (b ++ (t ++ 10 ∷ [])) ≡ ended_lines b ++ t ∷ [] =
    ends.0 ∙ ap (λ (x : List ℕ). ended_lines b ++ x ∷ []) line in
    let unfinished : unfinished_line (b ++ (t ++ 10 ∷ [])) ≡ [] = ends.1 in
    let none : first_bad_line (ended_lines b ++ t ∷ []) ≡ None = first_bad_line-good (ended_lines b) t rs h.0 good in (
      ap runs_of_lines ended ∙ (runs_of_lines-good (ended_lines b) (t ∷ []) h.0
          ∙ ap (λ (l : List Run). runs_in b ++ l) (runs_of_lines-one t rs good)),
      rw (ended, unfinished, none) refl,
    )

-- after ended lines of which none is bad, the line of an event adds this event alone
pub runs_in-event_text : (b : List ℕ) (event : Event) → IsInRange event → bad_at_end b ≡ None
    → runs_in (b ++ event_text event) ≡ runs_in b ++ One event ∷ []
runs_in-event_text b event h whole =
    (good_line b (event_fields event) (One event ∷ []) (fields_plain event h) (line_read event h) whole).0

-- and is not bad
pub bad_at_end-event_text : (b : List ℕ) (event : Event) → IsInRange event → bad_at_end b ≡ None
    → bad_at_end (b ++ event_text event) ≡ None
bad_at_end-event_text b event h whole =
    (good_line b (event_fields event) (One event ∷ []) (fields_plain event h) (line_read event h) whole).1
