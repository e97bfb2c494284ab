-- A drive, from its first byte to where no more of it is read.
use Rattle.std.proofs.Common.{[], ℕ, ◌++◌, ◌+◌, ◌<◌, ◌∙◌, ◌∷◌, ◌≡◌, ◌≤◌, Err, IfOk, IfSome, List, None, Ok, OnErr}
use Rattle.std.proofs.Common.{Option, Result, Some, ap, append_assoc, arith, flat_map, length, length-append, refl}
use Rattle.{std.proofs.{Common.{subst, sym}, lemmas.List.{append-nil}}, drive_text.proofs.Laws.{events_are_added}}
use Rattle.{drive_text.specs.Drive.{runs_after}, drive_source.specs.Source.{Fills, GivesRuns, Progress, StopsBy}}
use Rattle.drive_source.specs.declared.source.Stop.TheVariants.{BadLine, ReadFault}
use Rattle.meter_run.specs.Common.{EndsBy, Event, HasGiven, IsSplit, Run, Stop, events_in, run_events, stream_limit}
use Rattle.meter_run.specs.Drives.{BreaksDrive, IsBounded, TakesDrive}
use Rattle.meter_run.specs.Pieces.{AreCarried, CarriesAhead, CarriesPiece, IsThrough}

-- the runs of these bytes were given, and their events were carried out
pub record IsSoFar (told : Type 0) (place : Progress) (drive rest : List ℕ) (done : List Event → Type 0)
    (before now : ℕ) : Type 0 where
  pub given : List ℕ
  pub stands : HasGiven place given
  pub split : told → drive ≡ given ++ (place.ahead ++ rest)
  pub carried : done (events_in given)
  pub bounded : IsBounded before now (events_in given)

-- what is ahead of a source is on its way if, whatever was carried out before, the events of what was given of it were
-- carried out behind that
abbrev pub IsOnWay : {M D : Type 0} → (M → D → List Event → M → D → Type 0) → Progress → M → D → ℕ → Progress → M → D
    → ℕ → Type 0
IsOnWay {M} {D} carried old m b before place m' b' now =
    (x : M) (a : D) (start : ℕ) (given rest : List ℕ) → HasGiven old given
    → AreCarried given (λ es. carried x a es m b) start before
    → IsSoFar (Unit {0}) place (given ++ (old.ahead ++ rest)) rest (λ es. carried x a es m' b') start now

-- what a source gave of a drive, whether more may follow or not
pub record Gave (told : Type 0) (drive rest' given : List ℕ) (runs : List Run) : Type 0 where
  pub fed : List ℕ
  pub ahead : List ℕ
  pub few : length ((given ++ fed) ++ ahead) ≤ stream_limit
  pub runs_are : runs ≡ runs_after given fed
  pub split : told → drive ≡ (given ++ fed) ++ (ahead ++ rest')

gave_more : (told : Type 0) (drive rest rest' given : List ℕ) (old new : Progress) (runs : List Run) → (told → drive
    ≡ given ++ (old.ahead ++ rest)) → GivesRuns told old new rest rest' given runs → Gave told drive rest' given runs
gave_more told drive rest rest' given old new runs split gives = record {
  fed = gives.fed;
  ahead = new.ahead;
  few = omega (arith, gives.goes_on.count, length-append (given ++ gives.fed) new.ahead);
  runs_are = gives.runs_are;
  split = λ t. split t ∙ ap (λ (xs : List ℕ). given ++ xs) (gives.passes t)
      ∙ sym (append_assoc given gives.fed (new.ahead ++ rest'));
}

gave_last : (told : Type 0) (drive rest rest' given : List ℕ) (old : Progress) (runs : List Run) (stop : Stop)
    → (told → drive ≡ given ++ (old.ahead ++ rest)) → StopsBy told old rest rest' given runs stop
    → Gave told drive rest' given runs
gave_last told drive rest rest' given old runs stop split stops = record {
  fed = stops.fed;
  ahead = [];
  few = omega (arith, stops.few, length-append (given ++ stops.fed) []);
  runs_are = stops.runs_are;
  split = λ t. split t ∙ (stops.split t).bytes;
}

pub gave : (told : Type 0) (drive rest rest' given : List ℕ) (old new : Progress) (runs : List Run) (stop : Option Stop)
    → (told → drive ≡ given ++ (old.ahead ++ rest))
    → (stop ≡ None → GivesRuns told old new rest rest' given runs)
    → ((x : Stop) → stop ≡ Some x → StopsBy told old rest rest' given runs x) → Gave told drive rest' given runs
gave told drive rest rest' given old new runs None split more stops =
    gave_more told drive rest rest' given old new runs split (more refl)
gave told drive rest rest' given old new runs (Some x) split more stops =
    gave_last told drive rest rest' given old runs x split (stops x refl)

-- the events of the runs that were given
events_given : (given fed : List ℕ) (runs : List Run) → runs ≡ runs_after given fed
    → events_in (given ++ fed) ≡ events_in given ++ flat_map run_events runs
events_given given fed runs is =
    events_are_added given fed ∙ ap (λ (xs : List Run). events_in given ++ flat_map run_events xs) (sym is)

bounded_given : (x y z : ℕ) (given fed : List ℕ) (runs : List Run) → runs ≡ runs_after given fed → IsBounded x y
    (events_in given) → IsBounded y z (flat_map run_events runs) → IsBounded x z (events_in (given ++ fed))
bounded_given x y z given fed runs is first next = omega (
  arith,
  first,
  next,
  ap length (events_given given fed runs is),
  length-append (events_in given) (flat_map run_events runs),
)

-- further runs were carried out
pub so_far_more : (told : Type 0) (old new : Progress) (drive rest rest' : List ℕ)
    (carried carried' : List Event → Type 0) (x y z : ℕ) (runs : List Run)
    → (s : IsSoFar told old drive rest carried x y) → GivesRuns told old new rest rest' s.given runs
    → (carried (events_in s.given) → carried' (events_in s.given ++ flat_map run_events runs))
    → IsBounded y z (flat_map run_events runs)
    → IsSoFar told new drive rest' carried' x z
so_far_more told old new drive rest rest' carried carried' x y z runs s gives behind bounded = record {
  given = s.given ++ gives.fed;
  stands = gives.goes_on;
  split = λ t. s.split t ∙ ap (λ (xs : List ℕ). s.given ++ xs) (gives.passes t)
      ∙ sym (append_assoc s.given gives.fed (new.ahead ++ rest'));
  carried = subst carried' (sym (events_given s.given gives.fed runs gives.runs_are)) (behind s.carried);
  bounded = bounded_given x y z s.given gives.fed runs gives.runs_are s.bounded bounded;
}

-- the last runs were carried out
pub takes_last : (told : Type 0) (old : Progress) (drive rest rest' : List ℕ) (carried carried' : List Event → Type 0)
    (x y z : ℕ) (runs : List Run) (stop : Stop)
    → (s : IsSoFar told old drive rest carried x y) → StopsBy told old rest rest' s.given runs stop
    → (carried (events_in s.given) → carried' (events_in s.given ++ flat_map run_events runs))
    → IsBounded y z (flat_map run_events runs)
    → TakesDrive told drive rest' stop carried' x z
takes_last told old drive rest rest' carried carried' x y z runs stop s stops behind bounded = record {
  taken = s.given ++ stops.fed;
  few = stops.few;
  split = λ t. record { bytes = s.split t ∙ (stops.split t).bytes };
  ends = λ t. subst (λ (d : List ℕ). EndsBy d (s.given ++ stops.fed) rest' stop) (sym (s.split t)) (stops.ends t);
  carried = subst carried' (sym (events_given s.given stops.fed runs stops.runs_are)) (behind s.carried);
  bounded = bounded_given x y z s.given stops.fed runs stops.runs_are s.bounded bounded;
}

-- the board failed amid runs
pub breaks_amid : (told : Type 0) (old new : Progress) (drive rest rest' : List ℕ)
    (carried broke_off : List Event → Type 0) (x y z : ℕ) (runs : List Run) (stop : Option Stop)
    → (s : IsSoFar told old drive rest carried x y) → (stop ≡ None → GivesRuns told old new rest rest' s.given runs)
    → ((t : Stop) → stop ≡ Some t → StopsBy told old rest rest' s.given runs t)
    → (carried (events_in s.given) → broke_off (events_in s.given ++ flat_map run_events runs))
    → ((es fs : List Event) → broke_off es → broke_off (es ++ fs)) → IsBounded y z (flat_map run_events runs)
    → BreaksDrive told drive rest' broke_off x z
breaks_amid told old new drive rest rest' carried broke_off x y z runs stop s more stops later sooner bounded =
    let g = gave told drive rest rest' s.given old new runs stop s.split more stops in
    let here : broke_off (events_in (s.given ++ g.fed)) =
    subst broke_off (sym (events_given s.given g.fed runs g.runs_are)) (later s.carried) in
    let all = events_are_added (s.given ++ g.fed) g.ahead in
    record {
      taken = (s.given ++ g.fed) ++ g.ahead;
      few = g.few;
      split = λ t. record { bytes = g.split t ∙ sym (append_assoc (s.given ++ g.fed) g.ahead rest') };
      broke_off = subst broke_off (sym all)
          (sooner (events_in (s.given ++ g.fed)) (flat_map run_events (runs_after (s.given ++ g.fed) g.ahead)) here);
      bounded = omega (
        arith,
        bounded_given x y z s.given g.fed runs g.runs_are s.bounded bounded,
        ap length all,
        length-append (events_in (s.given ++ g.fed)) (flat_map run_events (runs_after (s.given ++ g.fed) g.ahead)),
      );
    }

-- fewer bytes are left than before
pub smaller : (told : Type 0) (old new : Progress) (rest rest' given : List ℕ) (runs : List Run) → HasGiven old given
    → GivesRuns told old new rest rest' given runs → length new.ahead + new.left < length old.ahead + old.left
smaller told old new rest rest' given runs h gives =
    omega (arith, h.count, gives.some, gives.goes_on.count, length-append given gives.fed)

-- ---- pieces

-- what is said of the reason for which a call stopped, if it did, and of a board that failed
pub answers_then : {E : Type 0} (r : Result (Option Stop) E) (P Q : Stop → Type 0) → ((stop : Stop) → P stop → Q stop)
    → IfOk r (λ answer. IfSome answer P) → IfOk r (λ answer. IfSome answer Q)
answers_then (Ok None) P Q then h = tt
answers_then (Ok (Some stop)) P Q then h = then stop h
answers_then (Err e) P Q then h = tt

pub err_then : {T E : Type 0} (r : Result T E) (P Q : Type 0) → (P → Q) → OnErr r P → OnErr r Q
err_then (Ok x) P Q then h = tt
err_then (Err e) P Q then h = then h

abbrev answered_by : (E : Type 0) → Option Stop → Result (Option Stop) E
answered_by E answer = Ok answer

pub answer_of_call : (E : Type 0) (a b : Stop) → answered_by E (Some a) ≡ answered_by E (Some b) → a ≡ b
answer_of_call E a b same = cc

pub none_not_some : (E : Type 0) (a : Stop) → answered_by E None ≡ answered_by E (Some a) → ⊥
none_not_some E a same = absurd cc

pub some_not_none : (E : Type 0) (a : Stop) → answered_by E (Some a) ≡ answered_by E None → ⊥
some_not_none E a same = absurd cc

pub bad_not_fault : (line : ℕ) → ReadFault ≡ BadLine line → ⊥
bad_not_fault line same = absurd cc

pub some_ahead : (xs : List ℕ) → (xs ≡ [] → ⊥) → 0 < length xs
some_ahead [] none = absurd (none refl)
some_ahead (x ∷ xs) none = omega arith

-- the same of a drive that is the same
pub takes_as : (told given : Type 0) (drive other left : List ℕ) (stop : Stop) (carried : List Event → Type 0) (x z : ℕ)
    → (told → given) → (told → other ≡ drive) → TakesDrive given other left stop carried x z
    → TakesDrive told drive left stop carried x z
takes_as told given drive other left stop carried x z tells same h = record {
  taken = h.taken;
  few = h.few;
  split = λ t. subst (λ (d : List ℕ). IsSplit d h.taken left) (same t) (h.split (tells t));
  ends = λ t. subst (λ (d : List ℕ). EndsBy d h.taken left stop) (same t) (h.ends (tells t));
  carried = h.carried;
  bounded = h.bounded;
}

pub breaks_as : (told given : Type 0) (drive other left : List ℕ) (broken : List Event → Type 0) (x z : ℕ)
    → (told → given) → (told → other ≡ drive) → BreaksDrive given other left broken x z
    → BreaksDrive told drive left broken x z
breaks_as told given drive other left broken x z tells same h = record {
  taken = h.taken;
  few = h.few;
  split = λ t. subst (λ (d : List ℕ). IsSplit d h.taken left) (same t) (h.split (tells t));
  broke_off = h.broke_off;
  bounded = h.bounded;
}

-- what was filled is what was left
pub filled_is : (told : Type 0) (old mid : Progress) (rest rest' taken : List ℕ) → Fills told old mid rest rest'
    → old.ahead ≡ [] → told → taken ++ (mid.ahead ++ rest') ≡ taken ++ rest
filled_is told old mid rest rest' taken filled none t =
    ap (λ (xs : List ℕ). taken ++ xs)
    (sym (filled.passes t) ∙ ap (λ (xs : List ℕ). xs ++ rest) none)

-- a source stops if nothing is ahead, and nothing more is carried out
pub stops_before : (told : Type 0) (old : Progress) (rest rest' taken : List ℕ) (carried : List Event → Type 0)
    (x y : ℕ) (stop : Stop) → IsThrough old taken → AreCarried taken carried x y
    → StopsBy told old rest rest' taken [] stop → TakesDrive told (taken ++ rest) rest' stop carried x y
stops_before told old rest rest' taken carried x y stop through done stops =
    takes_last told old (taken ++ rest) rest rest' carried carried x y y [] stop
    (record {
      given = taken;
      stands = through.given;
      split = λ t. ap (λ (xs : List ℕ). taken ++ (xs ++ rest)) (sym through.none);
      carried = done.all;
      bounded = done.bounded;
    }) stops (λ all. subst carried (sym (append-nil (events_in taken))) all) (omega arith)

-- a piece that was filled and carried out
pub carries_filled : (told : Type 0) (old mid new : Progress) (rest rest' taken : List ℕ)
    (carried : List Event → Type 0) (x z : ℕ) → IsThrough old taken → Fills told old mid rest rest'
    → length mid.ahead ≤ 512 → CarriesAhead mid new taken carried x z
    → CarriesPiece told new rest rest' taken carried x z
carries_filled told old mid new rest rest' taken carried x z through filled few h = record {
  piece = mid.ahead;
  some = filled.some;
  few = few;
  split = λ t. sym (ap (λ (xs : List ℕ). xs ++ rest) through.none) ∙ filled.passes t;
  through = h.through;
  done = h.done;
}

-- fewer bytes may be taken behind a piece
pub fewer : (told : Type 0) (old new : Progress) (rest rest' taken : List ℕ) (carried : List Event → Type 0)
    (x z : ℕ) → IsThrough old taken → CarriesPiece told new rest rest' taken carried x z → new.left < old.left
fewer told old new rest rest' taken carried x z through h = omega (
  arith,
  through.given.count,
  ap length through.none,
  h.through.given.count,
  ap length h.through.none,
  h.some,
  length-append taken h.piece,
)

module _ {M D : Type 0} (carried : M → D → List Event → M → D → Type 0) (broke_off : M → D → List Event → D → Type 0)
    (behind : (es fs : List Event) (x : M) (a : D) (y : M) (b : D) (z : M) (c : D) → carried x a es y b
    → carried y b fs z c → carried x a (es ++ fs) z c)
    (later : (es fs : List Event) (x : M) (a : D) (y : M) (b c : D) → carried x a es y b → broke_off y b fs c
    → broke_off x a (es ++ fs) c)
    (sooner : (es fs : List Event) (x : M) (a c : D) → broke_off x a es c → broke_off x a (es ++ fs) c) where
  module _ (old : Progress) (m : M) (b : D) (before : ℕ) where
    pub way_none : IsOnWay carried old m b before old m b before
    way_none x a start given rest h done =
        record { given = given; stands = h; split = λ t. refl; carried = done.all; bounded = done.bounded }

    -- from where it stands so far
    module _ (place : Progress) (m' : M) (b' : D) (y z : ℕ) (runs : List Run)
        (way : IsOnWay carried old m b before place m' b' y) (bounded : IsBounded y z (flat_map run_events runs)) where
      pub way_more : (new : Progress) (n : M) (c : D)
          → ((given rest : List ℕ) → HasGiven place given → GivesRuns (Unit {0}) place new rest rest given runs)
          → carried m' b' (flat_map run_events runs) n c → IsOnWay carried old m b before new n c z
      way_more new n c gives next x a start given rest h done =
          let s = way x a start given rest h done in
          so_far_more (Unit {0}) place new (given ++ (old.ahead ++ rest)) rest rest
          (λ (es : List Event). carried x a es m' b') (λ (es : List Event). carried x a es n c) start y z runs s
          (gives s.given rest s.stands)
          (λ all. behind (events_in s.given) (flat_map run_events runs) x a m' b' n c all next) bounded

      pub way_stops : (n : M) (c : D) (stop : Stop)
          → ((given rest : List ℕ) → HasGiven place given → StopsBy (Unit {0}) place rest rest given runs stop)
          → carried m' b' (flat_map run_events runs) n c
          → (x : M) (a : D) (start : ℕ) (given rest : List ℕ) → HasGiven old given
          → AreCarried given (λ es. carried x a es m b) start before
          → TakesDrive (Unit {0}) (given ++ (old.ahead ++ rest)) rest stop (λ es. carried x a es n c) start z
      way_stops n c stop stops next x a start given rest h done =
          let s = way x a start given rest h done in
          takes_last (Unit {0}) place (given ++ (old.ahead ++ rest)) rest rest
          (λ (es : List Event). carried x a es m' b') (λ (es : List Event). carried x a es n c) start y z runs stop s
          (stops s.given rest s.stands)
          (λ all. behind (events_in s.given) (flat_map run_events runs) x a m' b' n c all next) bounded

      pub way_breaks : (new : Progress) (c : D) (stop : Option Stop)
          → (stop ≡ None → (given rest : List ℕ) → HasGiven place given
          → GivesRuns (Unit {0}) place new rest rest given runs)
          → ((s : Stop) → stop ≡ Some s → (given rest : List ℕ) → HasGiven place given
          → StopsBy (Unit {0}) place rest rest given runs s)
          → broke_off m' b' (flat_map run_events runs) c
          → (x : M) (a : D) (start : ℕ) (given rest : List ℕ) → HasGiven old given
          → AreCarried given (λ es. carried x a es m b) start before
          → BreaksDrive (Unit {0}) (given ++ (old.ahead ++ rest)) rest (λ es. broke_off x a es c) start z
      way_breaks new c stop more stops broken x a start given rest h done =
          let s = way x a start given rest h done in
          breaks_amid (Unit {0}) place new (given ++ (old.ahead ++ rest)) rest rest
          (λ (es : List Event). carried x a es m' b') (λ (es : List Event). broke_off x a es c) start y z runs stop s
          (λ none. more none s.given rest s.stands) (λ t is. stops t is s.given rest s.stands)
          (λ all. later (events_in s.given) (flat_map run_events runs) x a m' b' c all broken)
          (λ es fs broke. sooner es fs x a c broke) bounded

    -- the source came through what was ahead
    pub way_through : (place : Progress) (m' : M) (b' : D) (z : ℕ) → IsOnWay carried old m b before place m' b' z
        → place.ahead ≡ [] → (x : M) (a : D) (start : ℕ) (given : List ℕ) → HasGiven old given
        → AreCarried given (λ es. carried x a es m b) start before
        → CarriesAhead old place given (λ es. carried x a es m' b') start z
    way_through place m' b' z way none x a start given h done =
        let s = way x a start given [] h done in
        let same : s.given ≡ given ++ old.ahead =
        sym (append-nil s.given) ∙ ap (λ (xs : List ℕ). s.given ++ xs) (sym (append-nil place.ahead ∙ none))
        ∙ sym (s.split tt) ∙ ap (λ (xs : List ℕ). given ++ xs) (append-nil old.ahead) in
        record {
          through = record { given = subst (HasGiven place) same s.stands; none = none };
          done = record {
            all = subst (λ (bytes : List ℕ). carried x a (events_in bytes) m' b') same s.carried;
            bounded = subst (λ (bytes : List ℕ). IsBounded start z (events_in bytes)) same s.bounded;
          };
        }

-- ---- a whole drive

-- all bytes that were taken of a drive were given, and their events were carried out
pub record IsUpTo (told : Type 0) (place : Progress) (drive rest : List ℕ) (carried : List Event → Type 0)
    (before now : ℕ) : Type 0 where
  pub taken : List ℕ
  pub through : IsThrough place taken
  pub split : told → drive ≡ taken ++ rest
  pub done : AreCarried taken carried before now

pub up_to_none : (told : Type 0) (place : Progress) (drive : List ℕ) (carried : List Event → Type 0) (steps : ℕ)
    → HasGiven place [] → place.ahead ≡ [] → carried [] → IsUpTo told place drive drive carried steps steps
up_to_none told place drive carried steps given none all = record {
  taken = [];
  through = record { given = given; none = none };
  split = λ t. refl;
  done = record { all = all; bounded = omega arith };
}

pub up_to_more : (told : Type 0) (old new : Progress) (drive rest rest' : List ℕ)
    (carried carried' : List Event → Type 0) (x y z : ℕ) → (s : IsUpTo told old drive rest carried x y)
    → CarriesPiece told new rest rest' s.taken carried' x z → IsUpTo told new drive rest' carried' x z
up_to_more told old new drive rest rest' carried carried' x y z s h = record {
  taken = s.taken ++ h.piece;
  through = h.through;
  split = λ t. s.split t ∙ ap (λ (xs : List ℕ). s.taken ++ xs) (h.split t) ∙ sym (append_assoc s.taken h.piece rest');
  done = h.done;
}
