-- Parameters that a text says are in their ranges.
use Rattle.std.proofs.Common.{[], ℕ, ℤ, ◌++◌, ◌+◌, ◌<◌, ◌∙◌, ◌∷◌, ◌≡◌, ◌≤◌, Bool, Err, IfOk, IfSome, List, None, Ok}
use Rattle.std.proofs.Common.{Option, Result, Some, ap, arith, false, if◌then◌else◌, length, ltb, pos, refl, subst, sym}
use Rattle.{std.proofs.{Common.{true}, lemmas.{Int.{ints}, Option.{cond_some}}}, taxi_units.specs.Reading.{word_at}}
use Rattle.taxi_units.{specs.Number.{number_of_width}, proofs.Laws.{figures_are_read_by_their_digits}}
use Rattle.seal_record.specs.Common.{◌>>=◌, Constant, Hold, IsOffsetList, Mode, Name, Offset, ParamFault, Params}
use Rattle.seal_record.specs.Common.{Secured, Taxi, Test, TooLong, Twice, date_test, day_number_of, number_in}
use Rattle.seal_record.specs.{Lines.{is_passed, key_in, lines_of, value_in}, ParamsSoFar.{ParamsSoFar, no_params_yet}}
use Rattle.seal_record.specs.{OffsetList.{offsets_test}, Reading.{and_then, lines_read, params_read, whole, whole_of}}
use Rattle.seal_record.specs.ParamLineStages.{is_twice, keyed_line, line_read, name_of, or_bad, with_pair, with_value}
use Rattle.seal_record.specs.{ParamText.{AreAllParams}, RangeTests.{taxi_test}}
use Rattle.seal_record.{specs.Ranges.{IsDay, IsParams, IsTaxi}, proofs.DayBounds.{days_in_range}}
use Rattle.seal_record.specs.Values.{mode_read, pair_read, secured_read, secured_test, taxi_read, where_date}
use Rattle.seal_record.specs.declared.params.Name.TheVariants as name

-- what has been said is in its ranges
pub record IsSaid (said : ParamsSoFar) : Type 0 where
  pub taxi : IfSome said.taxi IsTaxi
  pub constant : IfSome said.constant (λ n. (500 ≤ n) × (n ≤ 200000))
  pub hold_time : IfSome said.hold_time (λ n. n ≤ 600)
  pub offsets : 0 < length said.offsets → IsOffsetList said.offsets
  pub secured : IfSome said.secured IsDay

-- what has been said, by its parts
abbrev pub said_as : (taxi : Option (List ℕ)) (constant : Option ℕ) (mode : Option Mode) (hold_time : Option ℕ)
    (offsets : List (ℕ × ℤ)) (secured : Option ℤ) → ParamsSoFar
said_as taxi constant mode hold_time offsets secured = record {
  taxi = taxi;
  constant = constant;
  mode = mode;
  hold_time = hold_time;
  offsets = offsets;
  secured = secured;
}

-- it is in its ranges if each part is
all_said : {taxi : Option (List ℕ)} {constant : Option ℕ} {mode : Option Mode} {hold_time : Option ℕ}
    {offsets : List (ℕ × ℤ)} {secured : Option ℤ}
    → IfSome taxi IsTaxi → IfSome constant (λ n. (500 ≤ n) × (n ≤ 200000)) → IfSome hold_time (λ n. n ≤ 600)
    → (0 < length offsets → IsOffsetList offsets) → IfSome secured IsDay
    → IsSaid (said_as taxi constant mode hold_time offsets secured)
all_said t k h o s = record { taxi = t; constant = k; hold_time = h; offsets = o; secured = s }

-- what was read on gave something
pub read_on : {A B : Type 0} (found : Option A) (f : A → Option B) (y : B) → (found >>= f) ≡ Some y
    → (x : A) × (found ≡ Some x) × (f x ≡ Some y)
read_on (Some x) f y e = (x, refl, e)
read_on None f y e = absurd cc

-- what a test let through
pub let_through : {A : Type 0} (test : Test) (x y : A) → (if test.passes then Some x else None) ≡ Some y
    → test.Fact × (x ≡ y)
let_through test x y e = let through = cond_some test.passes x y e in (test.decides.0 through.0, through.1)

taxi_said : (text taxi : List ℕ) → taxi_read text ≡ Some taxi → IsTaxi taxi
taxi_said text taxi e = let through = let_through (taxi_test text) text taxi e in subst IsTaxi through.1 through.0

pub number_said : (low high : ℕ) (text : List ℕ) (n : ℕ) → number_in low high text ≡ Some n → (low ≤ n) × (n ≤ high)
number_said low high text n e =
    let is = (figures_are_read_by_their_digits 1 12 low high text n (omega arith)).0 e in (is.above, is.below)

date_said : (year month date : ℕ) (rest : List ℕ) (day : ℤ) → where_date year month date rest ≡ Some day → IsDay day
date_said year month date rest day e =
    let through = let_through (secured_test year month date rest) (pos (day_number_of year month date)) day e in
    let years = through.0.1 in
    let range = days_in_range year month date years.0 years.1.0 ((date_test year month date).decides.1 years.1.1) in
    subst IsDay through.1 (omega (arith, ints, range.0), omega (arith, ints, range.1))

secured_said : (text : List ℕ) (day : ℤ) → secured_read text ≡ Some day → IsDay day
unfolding secured_read
secured_said text day e =
    let year = read_on (number_of_width 4 text) _ day e in
    let first = read_on (word_at (45 ∷ []) year.0.1) _ day year.2 in
    let month = read_on (number_of_width 2 first.0) _ day first.2 in
    let second = read_on (word_at (45 ∷ []) month.0.1) _ day month.2 in
    let date = read_on (number_of_width 2 second.0) _ day second.2 in
    date_said year.0.0 month.0.0 date.0.0 date.0.1 day date.2

pair_kept : (said more : ParamsSoFar) (pair : ℕ × ℤ) → IsSaid said → with_pair said pair ≡ Some more → IsSaid more
pair_kept said more pair is e =
    let list = said.offsets ++ pair ∷ [] in
    let through = let_through (offsets_test list) (record said { offsets = list }) more e in
    subst IsSaid through.1 (all_said is.taxi is.constant is.hold_time (λ some. through.0) is.secured)

value_kept : (said more : ParamsSoFar) (key : Name) (value : List ℕ) → IsSaid said
    → with_value said key value ≡ Some more → IsSaid more
value_kept said more Taxi value is e =
    let read = read_on (taxi_read value) _ more e in
    let same : record said { taxi = Some read.0 } ≡ more = cc in
    subst IsSaid same (all_said (taxi_said value read.0 read.1) is.constant is.hold_time is.offsets is.secured)
value_kept said more Constant value is e =
    let read = read_on (number_in 500 200000 value) _ more e in
    let same : record said { constant = Some read.0 } ≡ more = cc in
    subst IsSaid same (all_said is.taxi (number_said 500 200000 value read.0 read.1) is.hold_time is.offsets is.secured)
value_kept said more name.Mode value is e =
    let read = read_on (mode_read value) _ more e in
    let same : record said { mode = Some read.0 } ≡ more = cc in
    subst IsSaid same (all_said is.taxi is.constant is.hold_time is.offsets is.secured)
value_kept said more Hold value is e =
    let read = read_on (number_in 0 600 value) _ more e in
    let same : record said { hold_time = Some read.0 } ≡ more = cc in
    subst IsSaid same (all_said is.taxi is.constant ((number_said 0 600 value read.0 read.1).1) is.offsets is.secured)
value_kept said more Offset value is e = let read = read_on (pair_read value) (with_pair said) more e in
    pair_kept said more read.0 is read.2
value_kept said more Secured value is e =
    let read = read_on (secured_read value) _ more e in
    let same : record said { secured = Some read.0 } ≡ more = cc in
    subst IsSaid same (all_said is.taxi is.constant is.hold_time is.offsets (secured_said value read.0 read.1))

bad_kept : (said more : ParamsSoFar) (number : ℕ) (key : Name) (value : List ℕ) (found : Option ParamsSoFar)
    → with_value said key value ≡ found → IsSaid said → or_bad number found ≡ Ok more → IsSaid more
bad_kept said more number key value (Some after) with is e = let same : after ≡ more = cc in
    value_kept said more key value is (with ∙ ap (λ (s : ParamsSoFar). Some s) same)
bad_kept said more number key value None with is e = absurd cc

twice_kept : (twice : Bool) (said more : ParamsSoFar) (number : ℕ) (key : Name) (value : List ℕ) → IsSaid said
    → (if twice then Err (Twice key) else or_bad number (with_value said key value)) ≡ Ok more → IsSaid more
twice_kept true said more number key value is e = absurd cc
twice_kept false said more number key value is e =
    bad_kept said more number key value (with_value said key value) refl is e

keyed_kept : (said more : ParamsSoFar) (number : ℕ) (found : Option Name) (value : List ℕ) → IsSaid said
    → keyed_line said number found value ≡ Ok more → IsSaid more
keyed_kept said more number None value is e = absurd cc
keyed_kept said more number (Some key) value is e = twice_kept (is_twice said key) said more number key value is e

passed_kept : (passed : Bool) (said more : ParamsSoFar) (number : ℕ) (line : List ℕ) → IsSaid said
    → (if passed then Ok said else keyed_line said number (name_of (key_in line)) (value_in line))
    ≡ Ok more → IsSaid more
passed_kept true said more number line is e = let same : said ≡ more = cc in subst IsSaid same is
passed_kept false said more number line is e = keyed_kept said more number (name_of (key_in line)) (value_in line) is e

line_kept : (said more : ParamsSoFar) (number : ℕ) (line : List ℕ) → IsSaid said
    → line_read said number line ≡ Ok more → IsSaid more
unfolding line_read
line_kept said more number line is e = passed_kept (is_passed line) said more number line is e

pub went_on : {A B : Type 0} (r : Result A ParamFault) (f : A → Result B ParamFault) (y : B) → and_then r f ≡ Ok y
    → (x : A) × (r ≡ Ok x) × (f x ≡ Ok y)
went_on (Ok x) f y e = (x, refl, e)
went_on (Err fault) f y e = absurd cc

lines_kept : (said more : ParamsSoFar) (number : ℕ) (lines : List (List ℕ)) → IsSaid said
    → lines_read said number lines ≡ Ok more → IsSaid more
unfolding lines_read
lines_kept said more number [] is e = let same : said ≡ more = cc in subst IsSaid same is
lines_kept said more number (line ∷ lines) is e =
    let on =
    went_on (line_read said number line) (λ (after : ParamsSoFar). lines_read after (number + 1) lines) more e in
    lines_kept on.0 more (number + 1) lines (line_kept said on.0 number line is on.1) on.2

pub whole_is : (taxi : Option (List ℕ)) (constant : Option ℕ) (mode : Option Mode) (hold_time : Option ℕ)
    (offsets : List (ℕ × ℤ)) (secured : Option ℤ) (params : Params)
    → whole_of taxi constant mode hold_time offsets secured ≡ Ok params
    → AreAllParams (said_as taxi constant mode hold_time offsets secured) params
whole_is None constant mode hold_time offsets secured params e = absurd cc
whole_is (Some taxi) None mode hold_time offsets secured params e = absurd cc
whole_is (Some taxi) (Some constant) None hold_time offsets secured params e = absurd cc
whole_is (Some taxi) (Some constant) (Some mode) None offsets secured params e = absurd cc
whole_is (Some taxi) (Some constant) (Some mode) (Some hold_time) [] secured params e = absurd cc
whole_is (Some taxi) (Some constant) (Some mode) (Some hold_time) (pair ∷ pairs) None params e = absurd cc
whole_is (Some taxi) (Some constant) (Some mode) (Some hold_time) (pair ∷ pairs) (Some secured) params e =
    let made : Params = record {
      taxi = record { items = taxi };
      constant = constant;
      mode = mode;
      hold_time = hold_time;
      offsets = pair ∷ pairs;
      secured = secured;
    } in
    let said =
    said_as (Some taxi) (Some constant) (Some mode) (Some hold_time) (pair ∷ pairs) (Some secured) in
    let same : made ≡ params = cc in
    subst (AreAllParams said) same (record {
      taxi = refl;
      constant = refl;
      mode = refl;
      hold_time = refl;
      some = omega arith;
      offsets = refl;
      secured = refl;
    })

whole_kept : (said : ParamsSoFar) (params : Params) → IsSaid said → AreAllParams said params → IsParams params
whole_kept said params is all = record {
  taxi = rw all.taxi at is.taxi;
  constant = rw all.constant at is.constant;
  hold_time = rw all.hold_time at is.hold_time;
  offsets = (rw all.offsets at is.offsets) (omega (arith, all.some));
  secured = rw all.secured at is.secured;
}

short_kept : (long : Bool) (text : List ℕ) (params : Params) → (if long then Err TooLong
    else and_then (lines_read no_params_yet 1 (lines_of text)) whole) ≡ Ok params → IsParams params
short_kept true text params e = absurd cc
short_kept false text params e =
    let on = went_on (lines_read no_params_yet 1 (lines_of text)) whole params e in
    let said = on.0 in
    let is = lines_kept no_params_yet said 1 (lines_of text)
    (record { taxi = tt; constant = tt; hold_time = tt; offsets = λ some. absurd (omega (arith, some)); secured = tt })
    on.1 in
    whole_kept said params is
    (whole_is said.taxi said.constant said.mode said.hold_time said.offsets said.secured params on.2)

-- parameters that a text says are in their ranges
pub said_in_ranges : (text : List ℕ) (params : Params) → params_read text ≡ Ok params → IsParams params
unfolding params_read
said_in_ranges text params e = short_kept (ltb 65536 (length text)) text params e

pub ranges_of_answer : (text : List ℕ) (answer : Result Params ParamFault) → answer ≡ params_read text
    → IfOk answer IsParams
ranges_of_answer text (Ok params) e = said_in_ranges text params (sym e)
ranges_of_answer text (Err fault) e = tt
