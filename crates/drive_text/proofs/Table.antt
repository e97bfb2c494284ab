-- What a line means is what the table says.
use Rattle.std.specs.{Cmp.Lexicographic.{same_text}, Option.{option_map}, Prelude.{Contains}, Str.Parse.{AllDigits}}
use Rattle.std.specs.{List.{AllByRecursion, find, join_with_byte, slice_split}, Str.Lines.{strip_carriage_return}}
use Rattle.std.proofs.Common.{[], ℕ, ◌++◌, ◌↔◌, ◌∙◌, ◌∷◌, ◌≡◌, ◌≤◌, Bool, List, None, Option, Some, ap, arith, codes}
use Rattle.std.proofs.Common.{cond, eqb, false, length, length-append, ltb, refl, subst, suc, sym, true}
use Rattle.std.proofs.lemmas.{Bool.{eqb-true, le-ltb}, List.Elements.{All-contains, All-from_recursion}}
use Rattle.std.proofs.lemmas.List.Splits.{join_with_byte-slice_split, slice_split_at, slice_split_none}
use Rattle.{taxi_units.specs.Words.{is_word}, drive_text.specs.Common.{first_second, last_second, number_in}}
use Rattle.drive_text.specs.Common.{Clock, Down, Event, Extra, IsNumberIn, Key, Position, Pulses, Tick, Up, Zone}
use Rattle.drive_text.specs.Fields.{intervals_of, line_runs, numbered_key, one, plain_key, run_of_fields}
use Rattle.drive_text.specs.Fields.{run_of_one_field, run_of_three_fields, run_of_two_fields, second_in, text_runs}
use Rattle.drive_text.{specs.{Ranges.{IsKeyInRange}, Table.{Means}}, proofs.Blanks.{none_tests}}
use Rattle.drive_text.specs.Table.Means.{clock, comment, down, empty, extra, intervals, plain, position, pulses, tick}
use Rattle.drive_text.{specs.Table.Means.{up, zone}, proofs.Numbers.{digits_blankless, number_complete, number_sound}}
use Rattle.drive_text.specs.{Written.{key_text, plain_keys}, declared.run.Run.{Run, TheVariants.{Many, One}}}
use Rattle.taxi_units.specs.declared.event.Event.TheVariants as events

-- ---- what the table has is what the line means

short : (front digits : List ℕ) → length front ≤ 20 → length digits ≤ 12 → ltb 80 (length (front ++ digits)) ≡ false
short front digits few h = le-ltb 80 (length (front ++ digits)) (omega (arith, length-append front digits))

one_field : (digits : List ℕ) → AllDigits 10 digits → slice_split (λ b. eqb b 32) digits ≡ digits ∷ []
one_field digits h = slice_split_none (λ b. eqb b 32) digits (none_tests 32 digits (digits_blankless digits h))

two_fields : (c : ℕ) (digits : List ℕ) → eqb c 35 ≡ false → eqb c 32 ≡ false → AllDigits 10 digits → length digits ≤ 12
    → text_runs (c ∷ 32 ∷ digits) ≡ option_map (λ run. run ∷ []) (run_of_two_fields (c ∷ []) digits)
unfolding text_runs
two_fields c digits no_sign no_blank h few =
    rw (no_sign, short (c ∷ 32 ∷ []) digits (omega arith) few, no_blank, one_field digits h) refl

key_fields : (k : ℕ) (digits : List ℕ) → eqb k 32 ≡ false → AllDigits 10 digits → length digits ≤ 12 → text_runs (75
    ∷ 32 ∷ k ∷ 32 ∷ digits) ≡ option_map (λ run. run ∷ []) (run_of_three_fields (75 ∷ []) (k ∷ []) digits)
unfolding text_runs
key_fields k digits no_blank h few =
    rw (short (75 ∷ 32 ∷ k ∷ 32 ∷ []) digits (omega arith) few, no_blank, one_field digits h) refl

interval_fields : (first second : List ℕ) → AllDigits 10 first → AllDigits 10 second → length first ≤ 12
    → length second ≤ 12 → text_runs (73 ∷ 32 ∷ (first ++ 32 ∷ second))
    ≡ option_map (λ run. run ∷ []) (run_of_three_fields (73 ∷ []) first second)
unfolding text_runs
interval_fields first second h k few fewer =
    let size : ltb 80 (length (73 ∷ 32 ∷ (first ++ 32 ∷ second))) ≡ false =
    le-ltb 80 (length (73 ∷ 32 ∷ (first ++ 32 ∷ second))) (omega (arith, length-append first (32 ∷ second))) in
    let fields : slice_split (λ b. eqb b 32) (first ++ 32 ∷ second) ≡ first ∷ second ∷ [] =
    slice_split_at (λ b. eqb b 32) first 32 second (none_tests 32 first (digits_blankless first h)) refl
    ∙ ap (λ (x : List (List ℕ)). first ∷ x) (one_field second k) in
    rw (size, fields) refl

-- the run of a key
abbrev key_run : Key → Run
key_run key = One (events.Key key)

-- a key without a number is in range, and its line gives it
abbrev IsRead : Key → Type 0
IsRead k = IsKeyInRange k × (text_runs (codes "K " ++ key_text k) ≡ Some (key_run k ∷ []))

each_read : AllByRecursion IsRead plain_keys
unfolding text_runs run_of_two_fields plain_key key_text
each_read = ((tt, refl), ((tt, refl), ((tt, refl), tt)))

pub plain_keys_are_read : (k : Key) → Contains plain_keys k → IsRead k
plain_keys_are_read k among =
    All-contains IsRead plain_keys k (All-from_recursion IsRead plain_keys each_read) among

complete : (t : List ℕ) (rs : List Run) → Means t rs → text_runs t ≡ Some rs
unfolding text_runs run_of_one_field run_of_two_fields run_of_three_fields plain_key numbered_key
complete t rs empty = refl
complete t rs (comment text) = refl
complete t rs (up s digits h) = two_fields 85 digits refl refl h.written.numeral.1 h.written.few
    ∙ rw (number_complete first_second last_second digits s h) refl
complete t rs down = refl
complete t rs (clock s digits h) = two_fields 67 digits refl refl h.written.numeral.1 h.written.few
    ∙ rw (number_complete first_second last_second digits s h) refl
complete t rs (pulses p digits h) =
    two_fields 80 digits refl refl h.written.numeral.1 h.written.few ∙ rw (number_complete 1 65535 digits p h) refl
complete t rs tick = refl
complete t rs (intervals p n first second h k) = interval_fields first second h.written.numeral.1 k.written.numeral.1
    h.written.few k.written.few ∙ rw (number_complete 0 65535 first p h, number_complete 1 36000 second n k) refl
complete t rs (plain k among) = (plain_keys_are_read k among).1
complete t rs (position n digits h) =
    key_fields 80 digits refl h.written.numeral.1 h.written.few ∙ rw (number_complete 0 99 digits n h) refl
complete t rs (zone n digits h) =
    key_fields 90 digits refl h.written.numeral.1 h.written.few ∙ rw (number_complete 0 99 digits n h) refl
complete t rs (extra n digits h) =
    key_fields 69 digits refl h.written.numeral.1 h.written.few ∙ rw (number_complete 0 99 digits n h) refl

-- ---- what the line gives stands in the table

-- the same line with the same run
means_at : (t u : List ℕ) (r q : Run) → t ≡ u → r ≡ q → Means u (q ∷ []) → Means t (r ∷ [])
means_at t u r q e f m =
    subst (λ (x : List ℕ). Means x (r ∷ [])) (sym e) (subst (λ (x : Run). Means u (x ∷ [])) (sym f) m)

given : {A : Type 0} (event : A → Event) (found : Option A) (r : Run) → one event found ≡ Some r
    → (x : A) × (found ≡ Some x) × (r ≡ One (event x))
given event (Some x) r e = (x, refl, cc)
given event None r e = absurd (cc)

word_is : (word name : List ℕ) → is_word name word ≡ true → name ≡ word
word_is word name e = same_text name word (sym e)

one_sound : (d t : Bool) (name : List ℕ) (r : Run) → is_word name (codes "D") ≡ d → is_word name (codes "T") ≡ t
    → cond d (Some (One Down)) (cond t (Some (One Tick)) None) ≡ Some r → Means name (r ∷ [])
one_sound true t name r p q e = means_at name (codes "D") r (One Down) (word_is (codes "D") name p) (cc) down
one_sound false true name r p q e = means_at name (codes "T") r (One Tick) (word_is (codes "T") name q) (cc) tick
one_sound false false name r p q e = absurd (cc)

-- a name, a blank and a field
named : (word name field t : List ℕ) → is_word name word ≡ true → t ≡ name ++ 32 ∷ field → t ≡ word ++ 32 ∷ field
named word name field t e parts = parts ∙ ap (λ (x : List ℕ). x ++ 32 ∷ field) (word_is word name e)

-- what is found among some keys is one of them, and the field is its text
abbrev Finds : List Key → List ℕ → Key → Type 0
Finds keys field found = find (λ key. is_word field (key_text key)) keys ≡ Some found
    → Contains keys found × (field ≡ key_text found)

key_found : (keys : List Key) (field : List ℕ) (found : Key) → Finds keys field found
key_found [] field found e = absurd (cc)
key_found (k ∷ more) field found e = by (is_word field (key_text k)) refl (key_found more field found) e
  where
    by : (same : Bool) → is_word field (key_text k) ≡ same → Finds more field found
        → cond same (Some k) (find (λ key. is_word field (key_text key)) more) ≡ Some found
        → Contains (k ∷ more) found × (field ≡ key_text found)
    by true it others is =
        let k_is : k ≡ found = cc in
        ((0, omega arith, k_is), word_is (key_text k) field it ∙ ap key_text k_is)
    by false it others is =
        let rest = others is in
        ((suc rest.0.0, omega (arith, rest.0.1), rest.0.2), rest.1)

two_sound : (u c p k : Bool) (name field t : List ℕ) (r : Run) → is_word name (codes "U") ≡ u
    → is_word name (codes "C") ≡ c → is_word name (codes "P") ≡ p → is_word name (codes "K") ≡ k
    → t ≡ name ++ 32 ∷ field → cond u (one Up (second_in field)) (cond c (one Clock (second_in field))
    (cond p (one Pulses (number_in 1 65535 field)) (cond k (one events.Key (plain_key field)) None))) ≡ Some r
    → Means t (r ∷ [])
unfolding plain_key
two_sound true c p k name field t r x y z w parts e =
    let g = given Up (second_in field) r e in
    means_at t (codes "U " ++ field) r (One (Up g.0)) (named (codes "U") name field t x parts) g.2
    (up g.0 field (number_sound first_second last_second field g.0 g.1))
two_sound false true p k name field t r x y z w parts e =
    let g = given Clock (second_in field) r e in
    means_at t (codes "C " ++ field) r (One (Clock g.0)) (named (codes "C") name field t y parts) g.2
    (clock g.0 field (number_sound first_second last_second field g.0 g.1))
two_sound false false true k name field t r x y z w parts e =
    let g = given Pulses (number_in 1 65535 field) r e in
    means_at t (codes "P " ++ field) r (One (Pulses g.0)) (named (codes "P") name field t z parts) g.2
    (pulses g.0 field (number_sound 1 65535 field g.0 g.1))
two_sound false false false true name field t r x y z w parts e =
    let g = given events.Key (plain_key field) r e in
    let found = key_found plain_keys field g.0 g.1 in
    means_at t (codes "K " ++ key_text g.0) r (key_run g.0)
    (named (codes "K") name field t w parts ∙ ap (λ (f : List ℕ). codes "K" ++ 32 ∷ f) found.1) g.2 (plain g.0 found.0)
two_sound false false false false name field t r x y z w parts e = absurd (cc)

mapped : {A B : Type 0} (f : A → B) (found : Option A) (y : B) → option_map f found ≡ Some y
    → (x : A) × (found ≡ Some x) × (y ≡ f x)
mapped f (Some x) y e = (x, refl, cc)
mapped f None y e = absurd (cc)

numbered_sound : (p z e : Bool) (name field t : List ℕ) (key : Key) → is_word name (codes "P") ≡ p
    → is_word name (codes "Z") ≡ z → is_word name (codes "E") ≡ e
    → t ≡ codes "K" ++ 32 ∷ (name ++ 32 ∷ field) → cond p (option_map Position (number_in 0 99 field))
    (cond z (option_map Zone (number_in 0 99 field)) (cond e (option_map Extra (number_in 0 99 field)) None)) ≡ Some key
    → Means t (key_run key ∷ [])
numbered_sound true z e name field t key x y w parts h =
    let g = mapped Position (number_in 0 99 field) key h in
    means_at t (codes "K P " ++ field) (key_run key) (key_run (Position g.0))
    (parts ∙ ap (λ (f : List ℕ). codes "K" ++ 32 ∷ (f ++ 32 ∷ field)) (word_is (codes "P") name x)) (ap key_run g.2)
    (position g.0 field (number_sound 0 99 field g.0 g.1))
numbered_sound false true e name field t key x y w parts h =
    let g = mapped Zone (number_in 0 99 field) key h in
    means_at t (codes "K Z " ++ field) (key_run key) (key_run (Zone g.0))
    (parts ∙ ap (λ (f : List ℕ). codes "K" ++ 32 ∷ (f ++ 32 ∷ field)) (word_is (codes "Z") name y)) (ap key_run g.2)
    (zone g.0 field (number_sound 0 99 field g.0 g.1))
numbered_sound false false true name field t key x y w parts h =
    let g = mapped Extra (number_in 0 99 field) key h in
    means_at t (codes "K E " ++ field) (key_run key) (key_run (Extra g.0))
    (parts ∙ ap (λ (f : List ℕ). codes "K" ++ 32 ∷ (f ++ 32 ∷ field)) (word_is (codes "E") name w)) (ap key_run g.2)
    (extra g.0 field (number_sound 0 99 field g.0 g.1))
numbered_sound false false false name field t key x y w parts h = absurd (cc)

intervals_by : (pulses count : Option ℕ) (first second : List ℕ) (r : Run) → number_in 0 65535 first ≡ pulses
    → number_in 1 36000 second ≡ count → intervals_of first second ≡ Some r
    → (p : ℕ) × (n : ℕ) × IsNumberIn 0 65535 first p × IsNumberIn 1 36000 second n × (r ≡ Many p n)
intervals_by (Some p) (Some n) first second r a b e =
    let f : intervals_of first second ≡ Some (Many p n) = rw (a, b) refl in
    (p, n, number_sound 0 65535 first p a, number_sound 1 36000 second n b, cc)
intervals_by (Some p) None first second r a b e =
    let f : intervals_of first second ≡ None = rw (a, b) refl in
    absurd (cc)
intervals_by None count first second r a b e =
    let f : intervals_of first second ≡ None = rw a refl in
    absurd (cc)

three_sound : (i k : Bool) (name first second t : List ℕ) (r : Run) → is_word name (codes "I") ≡ i
    → is_word name (codes "K") ≡ k
    → t ≡ name ++ 32 ∷ (first ++ 32 ∷ second) → cond i (intervals_of first second)
    (cond k (one events.Key (numbered_key first second)) None) ≡ Some r → Means t (r ∷ [])
unfolding numbered_key
three_sound true k name first second t r x y parts e =
    let g = intervals_by (number_in 0 65535 first) (number_in 1 36000 second) first second r refl refl e in
    means_at t (codes "I " ++ (first ++ (codes " " ++ second))) r (Many g.0 g.1)
    (named (codes "I") name (first ++ 32 ∷ second) t x parts) g.4 (intervals g.0 g.1 first second g.2 g.3)
three_sound false true name first second t r x y parts e =
    let g = given events.Key (numbered_key first second) r e in
    subst (λ (q : Run). Means t (q ∷ [])) (sym g.2)
    (numbered_sound (is_word first (codes "P")) (is_word first (codes "Z")) (is_word first (codes "E")) first second t
    g.0 refl refl refl (named (codes "K") name (first ++ 32 ∷ second) t y parts) g.1)
three_sound false false name first second t r x y parts e = absurd (cc)

fields_sound : (parts : List (List ℕ)) (t : List ℕ) (r : Run) → join_with_byte 32 parts ≡ t
    → run_of_fields parts ≡ Some r → Means t (r ∷ [])
unfolding run_of_one_field run_of_two_fields run_of_three_fields
fields_sound [] t r join e = absurd (cc)
fields_sound (name ∷ []) t r join e = subst (λ (x : List ℕ). Means x (r ∷ [])) join
    (one_sound (is_word name (codes "D")) (is_word name (codes "T")) name r refl refl e)
fields_sound (name ∷ field ∷ []) t r join e = two_sound (is_word name (codes "U")) (is_word name (codes "C"))
    (is_word name (codes "P")) (is_word name (codes "K")) name field t r refl refl refl refl (sym join) e
fields_sound (name ∷ first ∷ second ∷ []) t r join e =
    three_sound (is_word name (codes "I")) (is_word name (codes "K")) name first second t r refl refl (sym join) e
fields_sound (name ∷ first ∷ second ∷ third ∷ more) t r join e = absurd (cc)

-- the same line with the same runs
means_all : (t u : List ℕ) (rs qs : List Run) → t ≡ u → rs ≡ qs → Means u qs → Means t rs
means_all t u rs qs e f m = subst (λ (x : List ℕ). Means x rs) (sym e) (subst (λ (x : List Run). Means u x) (sym f) m)

text_by : (sign long : Bool) (c : ℕ) (cs : List ℕ) (rs : List Run) → eqb c 35 ≡ sign → cond sign (Some [])
    (cond long None (option_map (λ run. run ∷ []) (run_of_fields (slice_split (λ b. eqb b 32) (c ∷ cs))))) ≡ Some rs
    → Means (c ∷ cs) rs
text_by true long c cs rs s e =
    means_all (c ∷ cs) (codes "#" ++ cs) rs [] (ap (λ (x : ℕ). x ∷ cs) (eqb-true c 35 s)) (cc) (comment cs)
text_by false true c cs rs s e = absurd (cc)
text_by false false c cs rs s e =
    let g = mapped (λ (run : Run). run ∷ []) (run_of_fields (slice_split (λ b. eqb b 32) (c ∷ cs))) rs e in
    subst (λ (q : List Run). Means (c ∷ cs) q) (sym g.2)
    (fields_sound (slice_split (λ b. eqb b 32) (c ∷ cs)) (c ∷ cs) g.0 (join_with_byte-slice_split 32 (c ∷ cs)) g.1)

pub sound : (t : List ℕ) (rs : List Run) → text_runs t ≡ Some rs → Means t rs
unfolding text_runs
sound [] rs e = means_all [] [] rs [] refl (cc) empty
sound (c ∷ cs) rs e = text_by (eqb c 35) (ltb 80 (length (c ∷ cs))) c cs rs refl e

-- a line gives what the table says, and nothing else
pub line_runs-table : (line : List ℕ) (rs : List Run) → (line_runs line ≡ Some rs)
    ↔ Means (strip_carriage_return line) rs
line_runs-table line rs = (sound (strip_carriage_return line) rs, complete (strip_carriage_return line) rs)
