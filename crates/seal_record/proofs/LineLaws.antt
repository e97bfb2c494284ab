-- A line that is read says what its form says.
use Rattle.std.{specs.Prelude.{codes}, proofs.lemmas.{Bool.Decides.{Decides-eqb}, Slice.Eq.{bytes_eq-Decides}}}
use Rattle.std.{specs.Str.{bytes_eq}, proofs.Common.{false, if◌then◌else◌, is_some, refl, subst, sym, true}}
use Rattle.std.proofs.Common.{[], ℕ, ◌++◌, ◌↔◌, ◌∙◌, ◌∷◌, ◌≡◌, Bool, Decides, Err, List, None, Ok, Option, Some, ap}
use Rattle.seal_record.specs.{Common.{Constant, Hold, Name, Offset, Secured, Taxi, Twice, number_in}, Faults.{key_of}}
use Rattle.seal_record.specs.{Lines.{is_passed, key_in, value_in}, ParamLine.LineAddsParam.{silent, taxi_said}}
use Rattle.seal_record.specs.{OffsetList.{offsets_test}, ParamLine.{IsSilent, LineAddsParam, IsSilent.{comment, empty}}}
use Rattle.seal_record.specs.ParamLine.LineAddsParam.{constant_said, hold_said, mode_said, offset_said, secured_said}
use Rattle.seal_record.specs.ParamLineStages.{is_twice, keyed_line, line_read, name_of, or_bad, with_pair, with_value}
use Rattle.seal_record.specs.{ParamsSoFar.{ParamsSoFar}, Values.{mode_read, pair_read, secured_read, taxi_read}}
use Rattle.seal_record.{specs.TextParts.{IsParted, IsParted.{alone, parted}}, proofs.ParamRanges.{let_through, read_on}}
use Rattle.seal_record.proofs.FormLaws.{dates_by_their_form, modes_by_their_words, pairs_by_their_form}
use Rattle.seal_record.proofs.TextLaws.{a_line_is_parted, numbers_in_ranges, taxis_are_texts}
use Rattle.seal_record.specs.declared.params.Name.TheVariants as name

-- ---- the key of a parameter

name_by : (a b c d e f : Bool) (key : List ℕ) (which : Name) → Decides a (key ≡ codes "taxi")
    → Decides b (key ≡ codes "constant") → Decides c (key ≡ codes "mode")
    → Decides d (key ≡ codes "hold") → Decides e (key ≡ codes "offset") → Decides f (key ≡ codes "secured")
    → (if a then Some Taxi else (if b then Some Constant else (if c then Some name.Mode
    else (if d then Some Hold else (if e then Some Offset else (if f then Some Secured else None)))))) ≡ Some which
    → key ≡ key_of which
name_by true b c d e f key which is_a is_b is_c is_d is_e is_f h = let same : Taxi ≡ which = cc in
    is_a.0 refl ∙ ap key_of same
name_by false true c d e f key which is_a is_b is_c is_d is_e is_f h = let same : Constant ≡ which = cc in
    is_b.0 refl ∙ ap key_of same
name_by false false true d e f key which is_a is_b is_c is_d is_e is_f h = let same : name.Mode ≡ which = cc in
    is_c.0 refl ∙ ap key_of same
name_by false false false true e f key which is_a is_b is_c is_d is_e is_f h = let same : Hold ≡ which = cc in
    is_d.0 refl ∙ ap key_of same
name_by false false false false true f key which is_a is_b is_c is_d is_e is_f h = let same : Offset ≡ which = cc in
    is_e.0 refl ∙ ap key_of same
name_by false false false false false true key which is_a is_b is_c is_d is_e is_f h = let same : Secured ≡ which =
    cc in is_f.0 refl ∙ ap key_of same
name_by false false false false false false key which is_a is_b is_c is_d is_e is_f h = absurd cc

pub key_is : (key : List ℕ) (which : Name) → name_of key ≡ Some which → key ≡ key_of which
unfolding name_of
key_is key which e =
    name_by (bytes_eq key (codes "taxi")) (bytes_eq key (codes "constant")) (bytes_eq key (codes "mode"))
    (bytes_eq key (codes "hold")) (bytes_eq key (codes "offset")) (bytes_eq key (codes "secured")) key which
    (bytes_eq-Decides key (codes "taxi")) (bytes_eq-Decides key (codes "constant"))
    (bytes_eq-Decides key (codes "mode"))
    (bytes_eq-Decides key (codes "hold")) (bytes_eq-Decides key (codes "offset"))
    (bytes_eq-Decides key (codes "secured")) e

pub name_from : (which : Name) → name_of (key_of which) ≡ Some which
unfolding name_of
name_from Taxi = refl
name_from Constant = refl
name_from name.Mode = refl
name_from Hold = refl
name_from Offset = refl
name_from Secured = refl

-- ---- what is read has its form

none_there : {A : Type 0} (found : Option A) → is_some found ≡ false → found ≡ None
none_there None e = refl
none_there (Some x) e = absurd cc

same_said : (a b : ParamsSoFar) → Some a ≡ Some b → a ≡ b
same_said a b e = cc

value_says : (said more : ParamsSoFar) (which : Name) (line value : List ℕ) → IsParted line (key_of which) value
    → is_twice said which ≡ false → with_value said which value ≡ Some more → LineAddsParam said line more
value_says said more Taxi line value is once e =
    let read = read_on (taxi_read value) _ more e in
    let is_taxi = (taxis_are_texts value read.0).0 read.1 in
    subst (LineAddsParam said line) (same_said (record said { taxi = Some read.0 }) more read.2)
    (subst (λ (t : List ℕ). LineAddsParam said line (record said { taxi = Some t })) is_taxi.1
    (taxi_said line value is (none_there said.taxi once) is_taxi.0))
value_says said more Constant line value is once e =
    let read = read_on (number_in 500 200000 value) _ more e in
    subst (LineAddsParam said line) (same_said (record said { constant = Some read.0 }) more read.2)
    (constant_said line value read.0 is (none_there said.constant once)
    ((numbers_in_ranges 500 200000 value read.0).0 read.1))
value_says said more name.Mode line value is once e =
    let read = read_on (mode_read value) _ more e in
    subst (LineAddsParam said line) (same_said (record said { mode = Some read.0 }) more read.2)
    (mode_said line value read.0 is (none_there said.mode once) ((modes_by_their_words value read.0).0 read.1))
value_says said more Hold line value is once e =
    let read = read_on (number_in 0 600 value) _ more e in
    subst (LineAddsParam said line) (same_said (record said { hold_time = Some read.0 }) more read.2)
    (hold_said line value read.0 is (none_there said.hold_time once) ((numbers_in_ranges 0 600 value read.0).0 read.1))
value_says said more Offset line value is once e =
    let read = read_on (pair_read value) (with_pair said) more e in
    let list = said.offsets ++ read.0 ∷ [] in
    let through = let_through (offsets_test list) (record said { offsets = list }) more read.2 in
    subst (LineAddsParam said line) through.1
    (offset_said line value read.0 is ((pairs_by_their_form value read.0).0 read.1) through.0)
value_says said more Secured line value is once e =
    let read = read_on (secured_read value) _ more e in
    subst (LineAddsParam said line) (same_said (record said { secured = Some read.0 }) more read.2)
    (secured_said line value read.0 is (none_there said.secured once) ((dates_by_their_form value read.0).0 read.1))

good_says : (said more : ParamsSoFar) (number : ℕ) (which : Name) (line value : List ℕ) (found : Option ParamsSoFar)
    → IsParted line (key_of which) value → is_twice said which ≡ false
    → with_value said which value ≡ found → or_bad number found ≡ Ok more → LineAddsParam said line more
good_says said more number which line value (Some after) is once with e =
    let same : after ≡ more = cc in
    value_says said more which line value is once (with ∙ ap (λ (s : ParamsSoFar). Some s) same)
good_says said more number which line value None is once with e = absurd cc

once_says : (twice : Bool) (said more : ParamsSoFar) (number : ℕ) (which : Name) (line value : List ℕ)
    → IsParted line (key_of which) value → is_twice said which ≡ twice
    → (if twice then Err (Twice which) else or_bad number (with_value said which value)) ≡ Ok more
    → LineAddsParam said line more
once_says true said more number which line value is once e = absurd cc
once_says false said more number which line value is once e =
    good_says said more number which line value (with_value said which value) is once refl e

pub has_key : (line : List ℕ) (which : Name) → name_of (key_in line) ≡ Some which
    → IsParted line (key_of which) (value_in line)
has_key line which is = (a_line_is_parted line (key_of which) (value_in line)).0 (key_is (key_in line) which is, refl)

keyed_says : (said more : ParamsSoFar) (number : ℕ) (line : List ℕ) (found : Option Name) → name_of (key_in line)
    ≡ found → keyed_line said number found (value_in line) ≡ Ok more → LineAddsParam said line more
keyed_says said more number line None is e = absurd cc
keyed_says said more number line (Some which) is e =
    once_says (is_twice said which) said more number which line (value_in line) (has_key line which is) refl e

pub is_silent : (line : List ℕ) → is_passed line ≡ true → IsSilent line
is_silent [] e = empty
is_silent (c ∷ cs) e = subst (λ (b : ℕ). IsSilent (b ∷ cs)) (sym ((Decides-eqb c 35).0 e)) (comment cs)

line_says_by : (passed : Bool) (said more : ParamsSoFar) (number : ℕ) (line : List ℕ) → is_passed line ≡ passed
    → (if passed then Ok said else keyed_line said number (name_of (key_in line)) (value_in line)) ≡ Ok more
    → LineAddsParam said line more
line_says_by true said more number line is e = let same : said ≡ more = cc in
    subst (LineAddsParam said line) same (silent line (is_silent line is))
line_says_by false said more number line is e = keyed_says said more number line (name_of (key_in line)) refl e

line_says : (said more : ParamsSoFar) (number : ℕ) (line : List ℕ) → line_read said number line ≡ Ok more
    → LineAddsParam said line more
unfolding line_read
line_says said more number line e = line_says_by (is_passed line) said more number line refl e

-- ---- what has the form is read

pub not_passed : (line key value : List ℕ) → IsParted line key value → is_passed key ≡ false → is_passed line ≡ false
not_passed line key value (parted [] v none) e = absurd cc
not_passed line key value (parted (c ∷ cs) v none) e = e
not_passed line key value (alone k none) e = e

read_of : (said more : ParamsSoFar) (number : ℕ) (which : Name) (line value : List ℕ)
    → IsParted line (key_of which) value → is_passed (key_of which) ≡ false → is_twice said which ≡ false
    → with_value said which value ≡ Some more → line_read said number line ≡ Ok more
unfolding line_read
read_of said more number which line value is some once with =
    let parts = (a_line_is_parted line (key_of which) value).1 is in
    rw (not_passed line (key_of which) value is some, parts.0, parts.1, name_from which, once, with) refl

silent_read : (said : ParamsSoFar) (number : ℕ) (line : List ℕ) → IsSilent line → line_read said number line ≡ Ok said
unfolding line_read
silent_read said number line empty = refl
silent_read said number line (comment rest) = refl

pub line_from : (said more : ParamsSoFar) (number : ℕ) (line : List ℕ) → LineAddsParam said line more
    → line_read said number line ≡ Ok more
line_from said more number line (silent l is) = silent_read said number line is
line_from said more number line (taxi_said l value is none valid) =
    read_of said (record said { taxi = Some value }) number Taxi line value is refl (ap is_some none)
    (rw ((taxis_are_texts value value).1 (valid, refl)) refl)
line_from said more number line (constant_said l value n is none valid) =
    read_of said (record said { constant = Some n }) number Constant line value is refl (ap is_some none)
    (rw ((numbers_in_ranges 500 200000 value n).1 valid) refl)
line_from said more number line (mode_said l value mode is none valid) =
    read_of said (record said { mode = Some mode }) number name.Mode line value is refl (ap is_some none)
    (rw ((modes_by_their_words value mode).1 valid) refl)
line_from said more number line (hold_said l value n is none valid) =
    read_of said (record said { hold_time = Some n }) number Hold line value is refl (ap is_some none)
    (rw ((numbers_in_ranges 0 600 value n).1 valid) refl)
line_from said more number line (offset_said l value pair is valid lawful) =
    read_of said (record said { offsets = said.offsets ++ pair ∷ [] }) number Offset line value is refl refl
    (rw ((pairs_by_their_form value pair).1 valid, (offsets_test (said.offsets ++ pair ∷ [])).decides.1 lawful) refl)
line_from said more number line (secured_said l value day is none valid) =
    read_of said (record said { secured = Some day }) number Secured line value is refl (ap is_some none)
    (rw ((dates_by_their_form value day).1 valid) refl)

pub lines_say_their_parameter : (said more : ParamsSoFar) (number : ℕ) (line : List ℕ)
    → (line_read said number line ≡ Ok more) ↔ LineAddsParam said line more
lines_say_their_parameter said more number line = (line_says said more number line, line_from said more number line)
