-- A line that is bad has the fault that its form says.
use Rattle.std.proofs.Common.{ℕ, ◌↔◌, ◌∙◌, ◌≡◌, ◌≢◌, Bool, Err, List, None, Ok, Option, Result, Some, ap, false}
use Rattle.std.proofs.Common.{if◌then◌else◌, is_some, refl, subst, sym, true}
use Rattle.seal_record.specs.Common.{BadValue, Constant, Hold, Name, Offset, ParamFault, Secured, Taxi, Twice, Unknown}
use Rattle.seal_record.specs.{Faults.{HasParamAlready, IsBad, key_of}, Lines.{is_passed, key_in, value_in}}
use Rattle.seal_record.specs.Faults.HasParamAlready.{constant_was, hold_was, mode_was, secured_was, taxi_was}
use Rattle.seal_record.{specs.Faults.IsBad.{bad_value, said_twice, unknown_key}, proofs.LineLaws.{not_passed}}
use Rattle.seal_record.specs.{ParamLine.{IsSilent, LineAddsParam, IsSilent.{comment, empty}}, ParamsSoFar.{ParamsSoFar}}
use Rattle.seal_record.specs.ParamLineStages.{is_twice, keyed_line, line_read, name_of, or_bad, with_value}
use Rattle.seal_record.{specs.TextParts.{IsParted}, proofs.TextLaws.{a_line_is_parted}}
use Rattle.seal_record.proofs.LineLaws.{has_key, is_silent, key_is, line_from, lines_say_their_parameter, name_from}
use Rattle.seal_record.specs.declared.params.Name.TheVariants as name

pub true_false : true ≡ false → ⊥
true_false e = cc

ok_err : (said : ParamsSoFar) (fault : ParamFault) (r : Result ParamsSoFar ParamFault) → r ≡ Ok said → r ≡ Err fault → ⊥
ok_err said fault (Ok s) a b = cc
ok_err said fault (Err f) a b = cc

some_none : (which : Name) (found : Option Name) → found ≡ Some which → found ≡ None → ⊥
some_none which (Some x) a b = cc
some_none which None a b = cc

passed_is : (line : List ℕ) → IsSilent line → is_passed line ≡ true
passed_is line empty = refl
passed_is line (comment rest) = refl

something : {A : Type 0} (found : Option A) → is_some found ≡ true → (x : A) × (found ≡ Some x)
something (Some x) e = (x, refl)
something None e = absurd cc

was_said : (said : ParamsSoFar) (which : Name) → is_twice said which ≡ true → HasParamAlready said which
was_said said Taxi e = let there = something said.taxi e in taxi_was there.0 there.1
was_said said Constant e = let there = something said.constant e in constant_was there.0 there.1
was_said said name.Mode e = let there = something said.mode e in mode_was there.0 there.1
was_said said Hold e = let there = something said.hold_time e in hold_was there.0 there.1
was_said said Offset e = absurd cc
was_said said Secured e = let there = something said.secured e in secured_was there.0 there.1

is_said : (said : ParamsSoFar) (which : Name) → HasParamAlready said which → is_twice said which ≡ true
is_said said which (taxi_was value is) = ap is_some is
is_said said which (constant_was n is) = ap is_some is
is_said said which (mode_was mode is) = ap is_some is
is_said said which (hold_was n is) = ap is_some is
is_said said which (secured_was day is) = ap is_some is

-- ---- what is refused is bad

value_bad : (said : ParamsSoFar) (number : ℕ) (which : Name) (line value : List ℕ) (fault : ParamFault)
    (found : Option ParamsSoFar) → IsParted line (key_of which) value → is_twice said which ≡ false
    → line_read said number line ≡ Err fault → or_bad number found ≡ Err fault → IsBad said number line fault
value_bad said number which line value fault (Some after) is once whole e = absurd cc
value_bad said number which line value fault None is once whole e =
    let same : BadValue number ≡ fault = cc in
    subst (IsBad said number line) same
    (bad_value which value is (λ was. true_false (sym (is_said said which was) ∙ once))
    (λ more says. ok_err more fault (line_read said number line) (line_from said more number line says) whole))

named_bad : (twice : Bool) (said : ParamsSoFar) (number : ℕ) (which : Name) (line value : List ℕ) (fault : ParamFault)
    → IsParted line (key_of which) value → is_twice said which ≡ twice
    → line_read said number line ≡ Err fault → (if twice then Err (Twice which)
    else or_bad number (with_value said which value)) ≡ Err fault → IsBad said number line fault
named_bad true said number which line value fault is twice whole e =
    let same : Twice which ≡ fault = cc in
    subst (IsBad said number line) same (said_twice which value is (was_said said which twice))
named_bad false said number which line value fault is once whole e =
    value_bad said number which line value fault (with_value said which value) is once whole e

keyed_bad : (said : ParamsSoFar) (number : ℕ) (line : List ℕ) (fault : ParamFault) (found : Option Name)
    → is_passed line ≡ false → name_of (key_in line) ≡ found
    → line_read said number line ≡ Err fault → keyed_line said number found (value_in line) ≡ Err fault
    → IsBad said number line fault
keyed_bad said number line fault None some none whole e =
    let same : Unknown number ≡ fault = cc in
    subst (IsBad said number line) same
    (unknown_key (key_in line) (value_in line) (λ silent. true_false (sym (passed_is line silent) ∙ some))
    ((a_line_is_parted line (key_in line) (value_in line)).0 (refl, refl))
    (λ which is. some_none which (name_of (key_in line)) (ap name_of is ∙ name_from which) none))
keyed_bad said number line fault (Some which) some is whole e =
    named_bad (is_twice said which) said number which line (value_in line) fault (has_key line which is) refl whole e

line_bad_by : (passed : Bool) (said : ParamsSoFar) (number : ℕ) (line : List ℕ) (fault : ParamFault)
    → is_passed line ≡ passed → line_read said number line ≡ Err fault
    → (if passed then Ok said else keyed_line said number (name_of (key_in line)) (value_in line)) ≡ Err fault
    → IsBad said number line fault
line_bad_by true said number line fault is whole e = absurd cc
line_bad_by false said number line fault is whole e =
    keyed_bad said number line fault (name_of (key_in line)) is refl whole e

line_bad : (said : ParamsSoFar) (number : ℕ) (line : List ℕ) (fault : ParamFault)
    → line_read said number line ≡ Err fault → IsBad said number line fault
unfolding line_read
line_bad said number line fault e = line_bad_by (is_passed line) said number line fault refl e e

-- ---- what is bad is refused

loud_by : (passed : Bool) (line : List ℕ) → is_passed line ≡ passed → ¬ (IsSilent line) → passed ≡ false
loud_by true line is loud = absurd (loud (is_silent line is))
loud_by false line is loud = refl

no_name_by : (key : List ℕ) (found : Option Name) → name_of key ≡ found → ((which : Name) → key ≢ key_of which)
    → found ≡ None
no_name_by key None is none = refl
no_name_by key (Some which) is none = absurd (none which (key_is key which is))

key_some : (which : Name) → is_passed (key_of which) ≡ false
key_some Taxi = refl
key_some Constant = refl
key_some name.Mode = refl
key_some Hold = refl
key_some Offset = refl
key_some Secured = refl

not_twice_by : (twice : Bool) (said : ParamsSoFar) (which : Name) → is_twice said which ≡ twice
    → ¬ (HasParamAlready said which) → twice ≡ false
not_twice_by true said which is none = absurd (none (was_said said which is))
not_twice_by false said which is none = refl

no_more_by : (said : ParamsSoFar) (number : ℕ) (line : List ℕ) (found : Option ParamsSoFar) → line_read said number line
    ≡ or_bad number found → ((more : ParamsSoFar) → line_read said number line ≡ Ok more → ⊥)
    → or_bad number found ≡ Err (BadValue number)
no_more_by said number line None is none = refl
no_more_by said number line (Some more) is none = absurd (none more is)

named_read : (twice : Bool) (said : ParamsSoFar) (number : ℕ) (which : Name) (line value : List ℕ)
    → IsParted line (key_of which) value → is_twice said which ≡ twice
    → line_read said number line ≡ (if twice then Err (Twice which) else or_bad number (with_value said which value))
unfolding line_read
named_read twice said number which line value is once =
    let parts = (a_line_is_parted line (key_of which) value).1 is in
    rw (not_passed line (key_of which) value is (key_some which), parts.0, parts.1, name_from which, once) refl

unknown_read : (said : ParamsSoFar) (number : ℕ) (line key value : List ℕ) → ¬ (IsSilent line) → IsParted line key value
    → ((which : Name) → key ≢ key_of which) → line_read said number line ≡ Err (Unknown number)
unfolding line_read
unknown_read said number line key value loud is none =
    let parts = (a_line_is_parted line key value).1 is in
    rw (loud_by (is_passed line) line refl loud, parts.0, no_name_by key (name_of key) refl none) refl

bad_line : (said : ParamsSoFar) (number : ℕ) (line : List ℕ) (fault : ParamFault)
    → ((more : ParamsSoFar) → line_read said number line ≡ Ok more → LineAddsParam said line more)
    → IsBad said number line fault → line_read said number line ≡ Err fault
bad_line said number line fault says (unknown_key key value loud is none) =
    unknown_read said number line key value loud is none
bad_line said number line fault says (said_twice which value is was) =
    named_read true said number which line value is (is_said said which was)
bad_line said number line fault says (bad_value which value is not_was none) =
    let read =
    named_read false said number which line value is (not_twice_by (is_twice said which) said which refl not_was) in
    read ∙ no_more_by said number line (with_value said which value) read (λ more e. none more (says more e))

pub bad_lines_have_their_fault : (said : ParamsSoFar) (number : ℕ) (line : List ℕ) (fault : ParamFault)
    → (line_read said number line ≡ Err fault) ↔ IsBad said number line fault
bad_lines_have_their_fault said number line fault = (
  line_bad said number line fault,
  bad_line said number line fault (λ more. (lines_say_their_parameter said more number line).0),
)
