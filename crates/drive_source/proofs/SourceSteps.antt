-- How a source goes on and stops.
use Rattle.std.proofs.Common.{[], ℕ, ◌++◌, ◌+◌, ◌-◌, ◌<◌, ◌^◌, ◌∙◌, ◌≡◌, ◌≢◌, ◌≤◌, List, None, Option, Some, ap}
use Rattle.std.proofs.Common.{append_assoc, arith, drop, false, length, length-append, length-drop, length-take, refl}
use Rattle.{std.proofs.Common.{subst, sym, take}, drive_text.proofs.Laws.{whole_drive_ends}}
use Rattle.std.proofs.lemmas.List.{append-nil, drop-drop, drop-take, drop_all, take-append-drop}
use Rattle.drive_text.specs.{Drive.{bad_at_end, runs_after, runs_in}, Ending.{BadAt, ReachesEnd, stream_limit}}
use Rattle.{drive_text.specs.Reading.{BreaksIn, TakesTo}, drive_source.specs.Common.{HasTaken, Reading, Run}}
use Rattle.drive_text.proofs.Laws.{bad_drive_ends, endless_drive_ends, few_lines, going_reader, unfinished_drive_ends}
use Rattle.drive_source.specs.Source.{EndsBy, Fills, GivesRuns, HasGiven, Progress, StopsBy}
use Rattle.drive_source.specs.declared.source.Stop.{Stop, TheVariants.{BadLine, ReadFault, TooLong, Whole}}
use Rattle.drive_text.specs.Ending as ends

-- what is absent isn't there
pub not_some : {A : Type 0} (o : Option A) (x : A) → o ≡ None → o ≡ Some x → ⊥
not_some o x none some = by (sym none ∙ some)
  where
    by : None ≡ Some x → ⊥
    by bad = absurd cc

-- ---- lists

-- what is left of a piece when some of its front was given
pub ahead_after : (from to taken : ℕ) (piece : List ℕ) → from + taken ≤ to
    → take (to - (from + taken)) (drop (from + taken) piece) ≡ drop taken (take (to - from) (drop from piece))
ahead_after from to taken piece fits =
    let m = to - (from + taken) in
    let e : to - from ≡ taken + m = omega arith in
    ap (λ (xs : List ℕ). take m xs) (sym (drop-drop taken from piece)) ∙ sym (drop-take taken m (drop from piece))
    ∙ ap (λ (k : ℕ). drop taken (take k (drop from piece))) (sym e)

-- no bytes give no runs
no_runs : (given : List ℕ) → runs_after given [] ≡ []
no_runs given = ap (λ (bytes : List ℕ). drop (length (runs_in given)) (runs_in bytes)) (append-nil given)
    ∙ drop_all (length (runs_in given)) (runs_in given) (omega arith)

-- ---- the reader takes what is ahead

pub given_fed : (old new : Progress) (given rest : List ℕ) (runs : List Run) (n : ℕ) → HasGiven old given
    → TakesTo given old.ahead [] runs n → 0 < n
    → HasTaken new.reading (given ++ take n old.ahead) → new.reading.failed ≡ false → new.ahead ≡ drop n old.ahead
    → new.left ≡ old.left
    → GivesRuns (Unit {0}) old new rest rest given runs
given_fed old new given rest runs n h takes some read going ahead left = record {
  fed = take n old.ahead;
  some = omega (arith, some, takes.within, length-take n old.ahead);
  goes_on = record {
    read = read;
    going = going;
    count = omega (
      arith,
      h.count,
      ap length ahead,
      left,
      takes.within,
      length-append given (take n old.ahead),
      length-take n old.ahead,
      length-drop n old.ahead,
    );
  };
  runs_are = takes.runs;
  passes = λ told. sym (ap (λ (xs : List ℕ). take n old.ahead ++ (xs ++ rest)) ahead ∙ sym (append_assoc
      (take n old.ahead) (drop n old.ahead) rest) ∙ ap (λ (xs : List ℕ). xs ++ rest) (take-append-drop n old.ahead));
}

pub stopped_fed : (old : Progress) (given rest : List ℕ) (runs : List Run) (line : ℕ) → HasGiven old given
    → BreaksIn given old.ahead [] runs line → StopsBy (Unit {0}) old rest rest given runs (BadLine line)
stopped_fed old given rest runs line h breaks =
    let few : length (given ++ old.ahead) ≤ stream_limit = omega (arith, h.count, length-append given old.ahead) in
    record {
      fed = old.ahead;
      few = few;
      runs_are = breaks.runs;
      split = λ told. record { bytes = sym (append_assoc given old.ahead rest) };
      ends = λ told. subst (λ (drive : List ℕ). ReachesEnd drive (given ++ old.ahead) rest (BadAt line))
          (append_assoc given old.ahead rest)
          (bad_drive_ends (given ++ old.ahead) rest line few breaks.bad);
    }

pub few_ahead : (old : Progress) (given : List ℕ) → HasGiven old given → old.reading.begun + length old.ahead < 2 ^ 64
few_ahead old given h = omega (arith, h.count, few_lines old.reading given h.read)

-- the same of a reader and a piece that are those of the place
pub few_fed : (place : Progress) (reader : Reading) (piece given : List ℕ) → HasGiven place given
    → reader ≡ place.reading → piece ≡ place.ahead → reader.begun + length piece < 2 ^ 64
few_fed place reader piece given h same is =
    omega (arith, few_ahead place given h, ap length is, ap (λ (r : Reading). r.begun) same)

pub fed_more : (old new : Progress) (reader : Reading) (piece : List ℕ) (before runs : List Run) (given rest : List ℕ)
    (n : ℕ) → HasGiven old given → reader ≡ old.reading → piece ≡ old.ahead → before ≡ []
    → 0 < n → ((b : List ℕ) → HasTaken reader b → TakesTo b piece before runs n)
    → ((b : List ℕ) → HasTaken reader b → HasTaken new.reading (b ++ take n piece))
    → new.reading.failed ≡ false → new.ahead ≡ drop n piece → new.left ≡ old.left
    → GivesRuns (Unit {0}) old new rest rest given runs
fed_more old new reader piece before runs given rest n h same is none some takes reads going ahead left =
    let read : HasTaken reader given = subst (λ (r : Reading). HasTaken r given) (sym same) h.read in
    let one : TakesTo given piece [] runs n =
    subst (λ (xs : List Run). TakesTo given piece xs runs n) none (takes given read) in
    let two : TakesTo given old.ahead [] runs n = subst (λ (bytes : List ℕ). TakesTo given bytes [] runs n) is one in
    let taken : HasTaken new.reading (given ++ take n old.ahead) =
    subst (λ (bytes : List ℕ). HasTaken new.reading (given ++ take n bytes)) is (reads given read) in
    given_fed old new given rest runs n h two some taken going (ahead ∙ ap (drop n) is) left

pub fed_last : (old : Progress) (reader : Reading) (piece : List ℕ) (before runs : List Run) (given rest : List ℕ)
    (line : ℕ) → HasGiven old given → reader ≡ old.reading → piece ≡ old.ahead → before ≡ []
    → (reader.failed ≡ false → (b : List ℕ) → HasTaken reader b → BreaksIn b piece before runs line)
    → StopsBy (Unit {0}) old rest rest given runs (BadLine line)
fed_last old reader piece before runs given rest line h same is none breaks =
    let read : HasTaken reader given = subst (λ (r : Reading). HasTaken r given) (sym same) h.read in
    let going : reader.failed ≡ false = ap (λ (r : Reading). r.failed) same ∙ h.going in
    let one : BreaksIn given piece [] runs line =
    subst (λ (xs : List Run). BreaksIn given piece xs runs line) none (breaks going given read) in
    stopped_fed old given rest runs line h (subst (λ (bytes : List ℕ). BreaksIn given bytes [] runs line) is one)

-- ---- nothing is ahead, and no more is read

stops_now : (told : Type 0) (old : Progress) (rest rest' given : List ℕ) (stop : Stop) → old.ahead ≡ []
    → length given ≤ stream_limit → (told → rest' ≡ rest)
    → (told → EndsBy (given ++ rest) given rest' stop) → StopsBy told old rest rest' given [] stop
stops_now told old rest rest' given stop none few kept ends = record {
  fed = [];
  few = omega (arith, few, length-append given []);
  runs_are = sym (no_runs given);
  split = λ t. record {
    bytes = drive_is ∙ ap (λ (xs : List ℕ). given ++ xs) (sym (kept t))
        ∙ ap (λ (xs : List ℕ). xs ++ rest') (sym (append-nil given));
  };
  ends = λ t. subst (λ (drive : List ℕ). EndsBy drive (given ++ []) rest' stop) (sym drive_is)
      (subst (λ (taken : List ℕ). EndsBy (given ++ rest) taken rest' stop) (sym (append-nil given)) (ends t));
}
  where
    drive_is : given ++ (old.ahead ++ rest) ≡ given ++ rest
    drive_is = ap (λ (xs : List ℕ). given ++ (xs ++ rest)) none

pub stops_long : (told : Type 0) (old : Progress) (rest given : List ℕ) → old.ahead ≡ [] → old.left ≡ 0
    → HasGiven old given → StopsBy told old rest rest given [] TooLong
stops_long told old rest given none full h =
    let all : length given ≡ stream_limit = omega (arith, h.count, ap length none, full) in
    stops_now told old rest rest given TooLong none (omega (arith, all)) (λ t. refl)
    (λ t. endless_drive_ends given rest all (going_reader old.reading given h.read h.going))

pub stops_fault : (told : Type 0) (old : Progress) (rest rest' given : List ℕ) → old.ahead ≡ [] → 0 < old.left
    → (told → rest' ≡ rest) → HasGiven old given → StopsBy told old rest rest' given [] ReadFault
stops_fault told old rest rest' given none some kept h =
    stops_now told old rest rest' given ReadFault none (omega (arith, h.count)) kept
    (λ t. record { good = going_reader old.reading given h.read h.going; few = omega (arith, h.count, some) })

at_end : (told : Type 0) (given rest rest' : List ℕ) → (told → rest ≡ []) → (told → rest' ≡ []) → told
    → (reached : ends.StreamEnd) → ReachesEnd given given [] reached → ReachesEnd (given ++ rest) given rest' reached
at_end told given rest rest' over over' t reached h =
    subst (λ (left : List ℕ). ReachesEnd (given ++ rest) given left reached) (sym (over' t))
    (subst (λ (drive : List ℕ). ReachesEnd drive given [] reached)
    (sym (ap (λ (xs : List ℕ). given ++ xs) (over t) ∙ append-nil given)) h)

-- at the end of the file
pub stops_end : (told : Type 0) (old : Progress) (rest rest' given : List ℕ) (stop : Stop) → old.ahead ≡ []
    → 0 < old.left → (told → rest ≡ []) → (told → rest' ≡ [])
    → (stop ≡ Whole → (b : List ℕ) → HasTaken old.reading b → bad_at_end b ≡ None)
    → ((line : ℕ) → stop ≡ BadLine line → (b : List ℕ) → HasTaken old.reading b → bad_at_end b ≡ Some line)
    → stop ≢ TooLong → stop ≢ ReadFault → HasGiven old given → StopsBy told old rest rest' given [] stop
stops_end told old rest rest' given Whole none some over over' whole bad long fault h =
    stops_now told old rest rest' given Whole none (omega (arith, h.count)) (λ t. over' t ∙ sym (over t))
    (λ t. at_end told given rest rest' over over' t ends.Whole
    (whole_drive_ends given (omega (arith, h.count, some)) (whole refl given h.read)))
stops_end told old rest rest' given (BadLine line) none some over over' whole bad long fault h =
    stops_now told old rest rest' given (BadLine line) none (omega (arith, h.count)) (λ t. over' t ∙ sym (over t))
    (λ t. at_end told given rest rest' over over' t (BadAt line)
    (unfinished_drive_ends given line (omega (arith, h.count, some)) (bad line refl given h.read)))
stops_end told old rest rest' given TooLong none some over over' whole bad long fault h = absurd (long refl)
stops_end told old rest rest' given ReadFault none some over over' whole bad long fault h = absurd (fault refl)

-- ---- one after the other

pub gives_filled : (told : Type 0) (old mid new : Progress) (rest rest' given : List ℕ) (runs : List Run)
    → Fills told old mid rest rest' → GivesRuns (Unit {0}) mid new rest' rest' given runs
    → GivesRuns told old new rest rest' given runs
gives_filled told old mid new rest rest' given runs filled gives = record {
  fed = gives.fed;
  some = gives.some;
  goes_on = gives.goes_on;
  runs_are = gives.runs_are;
  passes = λ t. filled.passes t ∙ gives.passes tt;
}

pub stops_filled : (told : Type 0) (old mid : Progress) (rest rest' given : List ℕ) (runs : List Run) (stop : Stop)
    → Fills told old mid rest rest' → StopsBy (Unit {0}) mid rest' rest' given runs stop
    → StopsBy told old rest rest' given runs stop
stops_filled told old mid rest rest' given runs stop filled stops = record {
  fed = stops.fed;
  few = stops.few;
  runs_are = stops.runs_are;
  split = λ t. record { bytes = ap (λ (xs : List ℕ). given ++ xs) (filled.passes t) ∙ (stops.split tt).bytes };
  ends = λ t. subst (λ (xs : List ℕ). EndsBy (given ++ xs) (given ++ stops.fed) rest' stop) (sym (filled.passes t))
      (stops.ends tt);
}
