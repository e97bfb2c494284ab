-- A text is too long, or lacks a parameter.
use Rattle.std.proofs.Common.{[], ℕ, ℤ, ◌+◌, ◌<◌, ◌↔◌, ◌∷◌, ◌≡◌, Bool, Err, List, None, Ok, Option, Result, Some, arith}
use Rattle.std.proofs.Common.{false, if◌then◌else◌, length, ltb, refl, subst, true}
use Rattle.std.proofs.lemmas.Bool.{le-ltb, lt-ltb, ltb-false, ltb-true}
use Rattle.seal_record.specs.Common.{Constant, Hold, Mode, Name, Offset, ParamFault, Params, Secured, Taxi}
use Rattle.seal_record.{specs.Faults.{IsBad, IsBad.{bad_value, said_twice, unknown_key}}, proofs.ParamRanges.{said_as}}
use Rattle.seal_record.specs.{Lines.{lines_of}, Reading.{and_then, lines_read, params_read, whole, whole_of}}
use Rattle.seal_record.specs.{ParamText.{IsParamMissing, LacksFirst, row_of}, ParamsSoFar.{ParamsSoFar, no_params_yet}}
use Rattle.seal_record.proofs.FaultLaws.{bad_lines_have_their_fault}
use Rattle.seal_record.proofs.{TextLaws.{lines_make_the_text, the_first_bad_line}, WholeLaws.{say_from, say_on}}
use Rattle.seal_record.specs.declared.params.Name.TheVariants as name
use Rattle.seal_record.specs.declared.params.ParamFault.TheVariants as faults

-- a fault of a line is none of a whole text
abbrev IsOfLine : ParamFault → Type 0
IsOfLine faults.TooLong = ⊥
IsOfLine (faults.Missing which) = ⊥
IsOfLine (faults.Unknown line) = Unit {0}
IsOfLine (faults.BadValue line) = Unit {0}
IsOfLine (faults.Twice which) = Unit {0}

of_line : (said : ParamsSoFar) (number : ℕ) (line : List ℕ) (fault : ParamFault) → IsBad said number line fault
    → IsOfLine fault
of_line said number line fault (unknown_key key value silent is_parted none) = tt
of_line said number line fault (said_twice which value is_parted was) = tt
of_line said number line fault (bad_value which value is_parted was none) = tt

of_lines : (lines : List (List ℕ)) (fault : ParamFault) → lines_read no_params_yet 1 lines ≡ Err fault → IsOfLine fault
of_lines lines fault e =
    let there = (the_first_bad_line no_params_yet 1 lines fault).0 e in
    of_line there.so_far (1 + length there.before) there.line fault
    ((bad_lines_have_their_fault there.so_far (1 + length there.before) there.line fault).0 there.bad)

not_whole : (r : Result ParamsSoFar ParamFault) (fault : ParamFault) → ¬ (IsOfLine fault)
    → ((other : ParamFault) → r ≡ Err other → IsOfLine other) → and_then r whole ≡ Err fault
    → (said : ParamsSoFar) × (r ≡ Ok said) × (whole said ≡ Err fault)
not_whole (Ok said) fault none lines e = (said, refl, e)
not_whole (Err other) fault none lines e = let same : other ≡ fault = cc in
    absurd (none (subst IsOfLine same (lines other refl)))

-- ---- too long

never_long : (taxi : Option (List ℕ)) (constant : Option ℕ) (mode : Option Mode) (hold_time : Option ℕ)
    (offsets : List (ℕ × ℤ)) (secured : Option ℤ)
    → ¬ (whole_of taxi constant mode hold_time offsets secured ≡ Err faults.TooLong)
never_long None constant mode hold_time offsets secured e = cc
never_long (Some taxi) None mode hold_time offsets secured e = cc
never_long (Some taxi) (Some constant) None hold_time offsets secured e = cc
never_long (Some taxi) (Some constant) (Some mode) None offsets secured e = cc
never_long (Some taxi) (Some constant) (Some mode) (Some hold_time) [] secured e = cc
never_long (Some taxi) (Some constant) (Some mode) (Some hold_time) (pair ∷ pairs) None e = cc
never_long (Some taxi) (Some constant) (Some mode) (Some hold_time) (pair ∷ pairs) (Some secured) e = cc

long_by : (long : Bool) (text : List ℕ) → ltb 65536 (length text) ≡ long
    → (if long then Err faults.TooLong else and_then (lines_read no_params_yet 1 (lines_of text)) whole)
    ≡ Err faults.TooLong → 65536 < length text
long_by true text is e = ltb-true 65536 (length text) is
long_by false text is e =
    let there =
    not_whole (lines_read no_params_yet 1 (lines_of text)) faults.TooLong (λ none. none) (of_lines (lines_of text)) e in
    let said = there.0 in
    absurd (never_long said.taxi said.constant said.mode said.hold_time said.offsets said.secured there.2)

pub texts_too_long : (text : List ℕ) → (params_read text ≡ Err faults.TooLong) ↔ (65536 < length text)
unfolding params_read
texts_too_long text = (long_by (ltb 65536 (length text)) text refl, λ lt. rw (lt-ltb 65536 (length text) lt) refl)

-- ---- a parameter is missing

abbrev lacking_one : Name → Result Params ParamFault
lacking_one which = Err (faults.Missing which)

missing_is : (a b : Name) → lacking_one a ≡ lacking_one b → a ≡ b
missing_is a b e = cc

-- the parameters before one in the table
abbrev Earlier : ParamsSoFar → Name → Type 0
Earlier said which = (other : Name) → row_of other < row_of which → ¬ (IsParamMissing said other)

abbrev Lacks : ParamsSoFar → Name → Type 0
Lacks said which = IsParamMissing said which × Earlier said which

some_said : {A : Type 0} (x : A) → ¬ (Some x ≡ None)
some_said x e = cc

lacks : (taxi : Option (List ℕ)) (constant : Option ℕ) (mode : Option Mode) (hold_time : Option ℕ)
    (offsets : List (ℕ × ℤ)) (secured : Option ℤ) (which : Name)
    → whole_of taxi constant mode hold_time offsets secured ≡ Err (faults.Missing which)
    → Lacks (said_as taxi constant mode hold_time offsets secured) which
lacks None constant mode hold_time offsets secured which e =
    subst (Lacks (said_as None constant mode hold_time offsets secured)) (missing_is Taxi which e)
    (refl, λ other lt. absurd (omega (arith, lt)))
lacks (Some taxi) None mode hold_time offsets secured which e = subst
    (Lacks (said_as (Some taxi) None mode hold_time offsets secured)) (missing_is Constant which e) (refl, earlier)
  where
    earlier : Earlier (said_as (Some taxi) None mode hold_time offsets secured) Constant
    earlier Taxi lt = some_said taxi
    earlier other lt = absurd (omega (arith, lt))
lacks (Some taxi) (Some constant) None hold_time offsets secured which e =
    subst (Lacks (said_as (Some taxi) (Some constant) None hold_time offsets secured)) (missing_is name.Mode which e)
    (refl, earlier)
  where
    earlier : Earlier (said_as (Some taxi) (Some constant) None hold_time offsets secured) name.Mode
    earlier Taxi lt = some_said taxi
    earlier Constant lt = some_said constant
    earlier other lt = absurd (omega (arith, lt))
lacks (Some taxi) (Some constant) (Some mode) None offsets secured which e =
    subst (Lacks (said_as (Some taxi) (Some constant) (Some mode) None offsets secured)) (missing_is Hold which e)
    (refl, earlier)
  where
    earlier : Earlier (said_as (Some taxi) (Some constant) (Some mode) None offsets secured) Hold
    earlier Taxi lt = some_said taxi
    earlier Constant lt = some_said constant
    earlier name.Mode lt = some_said mode
    earlier other lt = absurd (omega (arith, lt))
lacks (Some taxi) (Some constant) (Some mode) (Some hold_time) [] secured which e =
    subst (Lacks (said_as (Some taxi) (Some constant) (Some mode) (Some hold_time) [] secured))
    (missing_is Offset which e) (refl, earlier)
  where
    earlier : Earlier (said_as (Some taxi) (Some constant) (Some mode) (Some hold_time) [] secured) Offset
    earlier Taxi lt = some_said taxi
    earlier Constant lt = some_said constant
    earlier name.Mode lt = some_said mode
    earlier Hold lt = some_said hold_time
    earlier other lt = absurd (omega (arith, lt))
lacks (Some taxi) (Some constant) (Some mode) (Some hold_time) (pair ∷ pairs) None which e =
    subst (Lacks (said_as (Some taxi) (Some constant) (Some mode) (Some hold_time) (pair ∷ pairs) None))
    (missing_is Secured which e) (refl, earlier)
  where
    earlier : Earlier (said_as (Some taxi) (Some constant) (Some mode) (Some hold_time) (pair ∷ pairs) None) Secured
    earlier Taxi lt = some_said taxi
    earlier Constant lt = some_said constant
    earlier name.Mode lt = some_said mode
    earlier Hold lt = some_said hold_time
    earlier Offset lt = λ is. cc
    earlier Secured lt = absurd (omega (arith, lt))
lacks (Some taxi) (Some constant) (Some mode) (Some hold_time) (pair ∷ pairs) (Some secured) which e = absurd cc

-- the first parameter that isn't said is the one that is missing
lacking : (taxi : Option (List ℕ)) (constant : Option ℕ) (mode : Option Mode) (hold_time : Option ℕ)
    (offsets : List (ℕ × ℤ)) (secured : Option ℤ) (which : Name)
    → Lacks (said_as taxi constant mode hold_time offsets secured) which
    → whole_of taxi constant mode hold_time offsets secured ≡ Err (faults.Missing which)
lacking None constant mode hold_time offsets secured Taxi h = refl
lacking None constant mode hold_time offsets secured which h = absurd (h.1 Taxi (omega arith) refl)
lacking (Some taxi) constant mode hold_time offsets secured Taxi h = absurd (some_said taxi h.0)
lacking (Some taxi) None mode hold_time offsets secured Constant h = refl
lacking (Some taxi) None mode hold_time offsets secured which h = absurd (h.1 Constant (omega arith) refl)
lacking (Some taxi) (Some constant) mode hold_time offsets secured Constant h = absurd (some_said constant h.0)
lacking (Some taxi) (Some constant) None hold_time offsets secured name.Mode h = refl
lacking (Some taxi) (Some constant) None hold_time offsets secured which h = absurd (h.1 name.Mode (omega arith) refl)
lacking (Some taxi) (Some constant) (Some mode) hold_time offsets secured name.Mode h = absurd (some_said mode h.0)
lacking (Some taxi) (Some constant) (Some mode) None offsets secured Hold h = refl
lacking (Some taxi) (Some constant) (Some mode) None offsets secured which h = absurd (h.1 Hold (omega arith) refl)
lacking (Some taxi) (Some constant) (Some mode) (Some hold_time) offsets secured Hold h =
    absurd (some_said hold_time h.0)
lacking (Some taxi) (Some constant) (Some mode) (Some hold_time) [] secured Offset h = refl
lacking (Some taxi) (Some constant) (Some mode) (Some hold_time) [] secured which h =
    absurd (h.1 Offset (omega arith) refl)
lacking (Some taxi) (Some constant) (Some mode) (Some hold_time) (pair ∷ pairs) secured Offset h = let none =
    h.0 in absurd cc
lacking (Some taxi) (Some constant) (Some mode) (Some hold_time) (pair ∷ pairs) None Secured h = refl
lacking (Some taxi) (Some constant) (Some mode) (Some hold_time) (pair ∷ pairs) (Some secured) Secured h =
    absurd (some_said secured h.0)

missing_by : (long : Bool) (text : List ℕ) (which : Name) → ltb 65536 (length text) ≡ long
    → (if long then Err faults.TooLong else and_then (lines_read no_params_yet 1 (lines_of text)) whole)
    ≡ Err (faults.Missing which) → LacksFirst text which
missing_by true text which is e = absurd cc
missing_by false text which is e =
    let there = not_whole (lines_read no_params_yet 1 (lines_of text)) (faults.Missing which) (λ none. none)
    (of_lines (lines_of text)) e in
    let said = there.0 in
    let lack = lacks said.taxi said.constant said.mode said.hold_time said.offsets said.secured which there.2 in
    record {
      few = ltb-false 65536 (length text) is;
      lines = lines_of text;
      said = said;
      are_lines = (lines_make_the_text text (lines_of text)).0 refl;
      say = say_on no_params_yet said 1 (lines_of text) there.1;
      unsaid = lack.0;
      earlier = lack.1;
    }

missing_from : (text : List ℕ) (which : Name) → LacksFirst text which → params_read text ≡ Err (faults.Missing which)
unfolding params_read
missing_from text which h =
    rw (
      le-ltb 65536 (length text) h.few,
      (lines_make_the_text text h.lines).1 h.are_lines,
      say_from no_params_yet h.said 1 h.lines h.say,
    )
    (lacking h.said.taxi h.said.constant h.said.mode h.said.hold_time h.said.offsets h.said.secured which
    (h.unsaid, h.earlier))

pub texts_lack_a_parameter : (text : List ℕ) (which : Name) → (params_read text ≡ Err (faults.Missing which))
    ↔ LacksFirst text which
unfolding params_read
texts_lack_a_parameter text which = (missing_by (ltb 65536 (length text)) text which refl, missing_from text which)
