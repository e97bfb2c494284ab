-- The groups of a trip's parts, those in Stopped and those that were left unfinished are all its parts.
use Rattle.{std.specs.{List.{range_with_len}, Option.{unwrap_or}}, tariff_tree.specs.Meaning.{rate_place}}
use Rattle.std.{specs.Prelude.{◌&&◌, cond, flat_map, if◌then◌else◌, nat_eq, nat_lt}, proofs.lemmas.Bool.{eqb-true}}
use Rattle.std.proofs.Common.{[], ℕ, ◌*◌, ◌++◌, ◌+◌, ◌<◌, ◌∙◌, ◌∷◌, ◌≡◌, ◌≤◌, All, Bool, List, ap, arith, false, filter}
use Rattle.std.proofs.{Common.{inl, inr, length, map, refl, subst, suc, sum, sym, true, zero}, lemmas.List.{length-map}}
use Rattle.std.proofs.lemmas.{Bool.Decides.{eqb_tells}, List.{Elements.{All-weaker}, Sums.{sum-map, sum_by-append}}}
use Rattle.{tariff_check.specs.Parts.{rates_of}, meter_model.specs.Charge.{distance_charge, time_charge}}
use Rattle.verify_bench.specs.Amounts.{amounts_among}
use Rattle.verify_bench.specs.Common.{Both, Choice, Context, Distance, Double, Event, Group, InHired, InStopped}
use Rattle.verify_bench.specs.Common.{IsSound, IsSupplementNumber, Mode, Part, RateNumbers, Rest, Setting, Single}
use Rattle.verify_bench.specs.Common.{SoundTariff, Sums, Taken, Time, Tree, Way, amount_in, amounts_of, charge_by}
use Rattle.verify_bench.specs.Common.{charge_in, lines_of, place_in_force, pulses_in, sound_of, supplement_numbered}
use Rattle.verify_bench.specs.{Common.{ticks_in, times}, Wholes.{pulses_dropped, pulses_stopped, ticks_stopped}}
use Rattle.verify_bench.specs.Groups.{group_if, groups_at, groups_from, is_charged_by, is_in_stopped, is_rest}
use Rattle.verify_bench.specs.Groups.{is_same_way, rate_place_of, rate_sums, sums_of, way_by, way_of}
use Rattle.verify_bench.specs.TripExplanations.{Explanation, explanations_of, taken_if, taken_of}
use Rattle.verify_bench.specs.Wholes.{ArePartsTheWhole, HasUncharged, IsOfTrip, MakesReceipt, charge_in_way}
use Rattle.verify_bench.proofs.{AmountSums.{all_among, sum_head}, DriveTrips.{explained_are_of_trips}}
use Rattle.meter_model.specs.Trip as model
use Rattle.tariff_check.proofs.Laws as check

sum_both : {X : Type 0} (f : X → ℕ) (xs ys : List X) → sum (map f (xs ++ ys)) ≡ sum (map f xs) + sum (map f ys)
sum_both f xs ys = rw (sum-map f (xs ++ ys), sum-map f xs, sum-map f ys) (sum_by-append f xs ys)

-- what the parts that pass a test come to
abbrev amount : (Part → ℕ) → (Part → Bool) → List Part → ℕ
amount f test parts = sum (map f (filter test parts))

kept_head : (f : Part → ℕ) (b : Bool) (part : Part) (parts : List Part)
    → sum (map f (cond b (part ∷ parts) parts)) ≡ cond b (f part) 0 + sum (map f parts)
kept_head f true part parts = sum_head (f part) (map f parts)
kept_head f false part parts = omega arith

amount_head : (f : Part → ℕ) (test : Part → Bool) (part : Part) (parts : List Part)
    → amount f test (part ∷ parts) ≡ cond (test part) (f part) 0 + amount f test parts
amount_head f test part parts = kept_head f (test part) part (filter test parts)

three_more : {a b c a' b' c' : ℕ} → a ≡ a' → b ≡ b' → c ≡ c' → a + (b + c) ≡ a' + (b' + c')
three_more p q r = cc

two_more : {a b a' b' : ℕ} → a ≡ a' → b ≡ b' → a + b ≡ a' + b'
two_more p q = cc

here_or_not : (b : Bool) (v n : ℕ) → b ≡ false → cond b v 0 + n ≡ n
here_or_not true v n is = absurd cc
here_or_not false v n is = omega arith

here_once : (b : Bool) (v n m : ℕ) → b ≡ true → (cond b v 0 + n) + m ≡ v + (n + m)
here_once true v n m is = omega arith
here_once false v n m is = absurd cc

later_once : (v n m : ℕ) → n + (v + m) ≡ v + (n + m)
later_once v n m = omega arith

-- parts that pass a test which only ended intervals pass come to nothing if they have no tick
nothing_by : (b : Bool) (tick rest value others : ℕ) → (b ≡ true → tick ≡ 1) → cond b tick 0 + rest ≡ 0
    → (rest ≡ 0 → others ≡ 0) → cond b value 0 + others ≡ 0
nothing_by true tick rest value others one none more = absurd (omega (arith, one refl, none))
nothing_by false tick rest value others one none more = omega (arith, more (omega (arith, none)))

nothing : (f : Part → ℕ) (test : Part → Bool) → ((part : Part) → test part ≡ true → ticks_in part ≡ 1)
    → (parts : List Part) → amount ticks_in test parts ≡ 0 → amount f test parts ≡ 0
nothing f test ended [] none = refl
nothing f test ended (part ∷ parts) none =
    amount_head f test part parts
    ∙ nothing_by (test part) (ticks_in part) (amount ticks_in test parts) (f part) (amount f test parts) (ended part)
    (sym (amount_head ticks_in test part parts) ∙ none) (nothing f test ended parts)

charged_ended : (s : Setting) (q : ℕ) (way : Way) (part : Part) → is_charged_by s q way part ≡ true → ticks_in part ≡ 1
charged_ended s q way (InHired p x) passes = refl
charged_ended s q way (InStopped p) passes = absurd cc
charged_ended s q way (Rest p) passes = absurd cc

module _ (s : Setting) (f : Part → ℕ) (of : Sums → ℕ)
    (of_is : (parts : List Part) → of (sums_of s parts) ≡ sum (map f parts)) where
  -- the parts of a rate line, in each way
  abbrev in_ways : (q : ℕ) → List Part → ℕ
  in_ways q parts = amount f (is_charged_by s q Distance) parts
      + (amount f (is_charged_by s q Time) parts + amount f (is_charged_by s q Both) parts)

  group_one : (line : ℕ) (way : Way) (q : ℕ) (parts : List Part) (b : Bool)
      → nat_eq (rate_sums s parts q way).ticks 0 ≡ b
      → sum (map (λ (g : Group). of g.sums)
      (if b then [] else record { line = line; way = way; sums = rate_sums s parts q way } ∷ []))
      ≡ amount f (is_charged_by s q way) parts
  group_one line way q parts true none = sym (nothing f (is_charged_by s q way) (charged_ended s q way) parts
      (eqb-true (rate_sums s parts q way).ticks 0 none))
  group_one line way q parts false some = omega (arith, of_is (filter (is_charged_by s q way) parts))

  groups_one : (line q : ℕ) (parts : List Part)
      → sum (map (λ (g : Group). of g.sums) (groups_at s parts q line)) ≡ in_ways q parts
  groups_one line q parts =
      let one = λ (way : Way). group_one line way q parts (nat_eq (rate_sums s parts q way).ticks 0) refl in
      let g = λ (way : Way). group_if line way (rate_sums s parts q way) in
      sum_both (λ (g : Group). of g.sums) (g Distance) (g Time ++ g Both)
      ∙ (ap (λ (n : ℕ). n + sum (map (λ (g : Group). of g.sums) (g Time ++ g Both))) (one Distance)
      ∙ ap (λ (n : ℕ). amount f (is_charged_by s q Distance) parts + n) (sum_both (λ (g : Group). of g.sums) (g Time)
      (g Both) ∙ (ap (λ (n : ℕ). n + sum (map (λ (g : Group). of g.sums) (g Both))) (one Time)
      ∙ ap (λ (n : ℕ). amount f (is_charged_by s q Time) parts + n) (one Both))))

  -- the parts of some rate lines from a place on
  span : (q n : ℕ) → List Part → ℕ
  span q zero parts = 0
  span q (suc n) parts = in_ways q parts + span (q + 1) n parts

  groups_all : (lines : List ℕ) (q : ℕ) (parts : List Part)
      → sum (map (λ (g : Group). of g.sums) (groups_from s parts q lines)) ≡ span q (length lines) parts
  unfolding groups_from span
  groups_all [] q parts = refl
  groups_all (line ∷ lines) q parts =
      sum_both (λ (g : Group). of g.sums) (groups_at s parts q line) (groups_from s parts (q + 1) lines)
      ∙ (ap (λ (n : ℕ). n + sum (map (λ (g : Group). of g.sums) (groups_from s parts (q + 1) lines)))
      (groups_one line q parts)
      ∙ ap (λ (n : ℕ). in_ways q parts + n) (groups_all lines (q + 1) parts))

  -- an interval in Hired is in one way of its rate line
  split_ways : (b : Bool) (way : Way) (v d t w : ℕ)
      → (cond (b && is_same_way way Distance) v 0 + d) + ((cond (b && is_same_way way Time) v 0 + t)
      + (cond (b && is_same_way way Both) v 0 + w)) ≡ cond b v 0 + (d + (t + w))
  split_ways true Distance v d t w = omega arith
  split_ways true Time v d t w = omega arith
  split_ways true Both v d t w = omega arith
  split_ways false way v d t w = omega arith

  ways_head : (q p : ℕ) (x : Context) (parts : List Part)
      → in_ways q (InHired p x ∷ parts) ≡ cond (nat_eq (rate_place_of s x) q) (f (InHired p x)) 0 + in_ways q parts
  ways_head q p x parts =
      three_more (amount_head f (is_charged_by s q Distance) (InHired p x) parts) (amount_head f
      (is_charged_by s q Time) (InHired p x) parts) (amount_head f (is_charged_by s q Both) (InHired p x) parts)
      ∙ split_ways (nat_eq (rate_place_of s x) q) (way_of s x p) (f (InHired p x))
      (amount f (is_charged_by s q Distance) parts) (amount f (is_charged_by s q Time) parts)
      (amount f (is_charged_by s q Both) parts)

  -- in some rate lines it is once, if its own is one of them
  span_before : (q n p : ℕ) (x : Context) (parts : List Part) → rate_place_of s x < q
      → span q n (InHired p x ∷ parts) ≡ span q n parts
  unfolding span
  span_before q zero p x parts below = refl
  span_before q (suc n) p x parts below = elim (eqb_tells (rate_place_of s x) q) [
    | inl same ↦ absurd (omega (arith, same.1))
    | inr apart ↦
        two_more (ways_head q p x parts ∙ here_or_not (nat_eq (rate_place_of s x) q) (f (InHired p x))
        (in_ways q parts) apart.0) (span_before (q + 1) n p x parts (omega arith))
  ]

  span_once : (q n p : ℕ) (x : Context) (parts : List Part) → q ≤ rate_place_of s x → rate_place_of s x < q + n
      → span q n (InHired p x ∷ parts) ≡ f (InHired p x) + span q n parts
  unfolding span
  span_once q zero p x parts least most = absurd (omega arith)
  span_once q (suc n) p x parts least most = elim (eqb_tells (rate_place_of s x) q) [
    | inl same ↦
        two_more (ways_head q p x parts) (span_before (q + 1) n p x parts (omega (arith, same.1)))
        ∙ here_once (nat_eq (rate_place_of s x) q) (f (InHired p x)) (in_ways q parts) (span (q + 1) n parts) same.0
    | inr apart ↦
        two_more (ways_head q p x parts ∙ here_or_not (nat_eq (rate_place_of s x) q) (f (InHired p x))
        (in_ways q parts) apart.0) (span_once (q + 1) n p x parts (omega (arith, apart.1)) (omega arith))
        ∙ later_once (f (InHired p x)) (in_ways q parts) (span (q + 1) n parts)
  ]

  span_other : (q n : ℕ) (part : Part) (parts : List Part)
      → ((place : ℕ) (way : Way) → is_charged_by s place way part ≡ false) → span q n (part ∷ parts) ≡ span q n parts
  unfolding span
  span_other q zero part parts free = refl
  span_other q (suc n) part parts free =
      let out = λ (way : Way). amount_head f (is_charged_by s q way) part parts
      ∙ here_or_not (is_charged_by s q way part) (f part) (amount f (is_charged_by s q way) parts) (free q way) in
      two_more (three_more (out Distance) (out Time) (out Both)) (span_other (q + 1) n part parts free)

  span_none : (q n : ℕ) → span q n [] ≡ 0
  unfolding span
  span_none q zero = refl
  span_none q (suc n) = omega (arith, span_none (q + 1) n)

  -- the groups, the parts in Stopped and those that were left unfinished are all parts
  whole_span : (n : ℕ) → ((x : Context) → rate_place_of s x < n) → (parts : List Part)
      → span 0 n parts + (amount f is_in_stopped parts + amount f is_rest parts) ≡ sum (map f parts)
  whole_span n few [] = omega (arith, span_none 0 n)
  whole_span n few (InHired p x ∷ parts) =
      let once = span_once 0 n p x parts (omega arith) (omega (arith, few x)) in
      omega (
        arith,
        once,
        amount_head f is_in_stopped (InHired p x) parts,
        amount_head f is_rest (InHired p x) parts,
        sum_head (f (InHired p x)) (map f parts),
        whole_span n few parts,
      )
  whole_span n few (InStopped p ∷ parts) =
      let other = span_other 0 n (InStopped p) parts (λ place way. refl) in
      omega (
        arith,
        other,
        amount_head f is_in_stopped (InStopped p) parts,
        amount_head f is_rest (InStopped p) parts,
        sum_head (f (InStopped p)) (map f parts),
        whole_span n few parts,
      )
  whole_span n few (Rest p ∷ parts) =
      let other = span_other 0 n (Rest p) parts (λ place way. refl) in
      omega (
        arith,
        other,
        amount_head f is_in_stopped (Rest p) parts,
        amount_head f is_rest (Rest p) parts,
        sum_head (f (Rest p)) (map f parts),
        whole_span n few parts,
      )

  pub parts_are_whole : (lines : List ℕ) → ((x : Context) → rate_place_of s x < length lines) → (parts : List Part)
      → sum (map (λ (g : Group). of g.sums) (groups_from s parts 0 lines))
      + (amount f is_in_stopped parts + amount f is_rest parts) ≡ sum (map f parts)
  parts_are_whole lines few parts =
      ap (λ (n : ℕ). n + (amount f is_in_stopped parts + amount f is_rest parts)) (groups_all lines 0 parts)
      ∙ whole_span (length lines) few parts

-- parts that cost nothing, or have no tick
free_by : (b : Bool) (value rest : ℕ) → (b ≡ true → value ≡ 0) → rest ≡ 0 → cond b value 0 + rest ≡ 0
free_by true value rest free none = omega (arith, free refl, none)
free_by false value rest free none = omega (arith, none)

free_parts : (f : Part → ℕ) (test : Part → Bool) → ((part : Part) → test part ≡ true → f part ≡ 0) → (parts : List Part)
    → amount f test parts ≡ 0
free_parts f test free [] = refl
free_parts f test free (part ∷ parts) = amount_head f test part parts
    ∙ free_by (test part) (f part) (amount f test parts) (free part) (free_parts f test free parts)

stopped_free : (s : Setting) (part : Part) → is_in_stopped part ≡ true → charge_in s part ≡ 0
stopped_free s (InHired p x) is = absurd cc
stopped_free s (InStopped p) is = refl
stopped_free s (Rest p) is = absurd cc

rest_free : (s : Setting) (part : Part) → is_rest part ≡ true → charge_in s part ≡ 0
rest_free s (InHired p x) is = absurd cc
rest_free s (InStopped p) is = absurd cc
rest_free s (Rest p) is = refl

rest_timeless : (part : Part) → is_rest part ≡ true → ticks_in part ≡ 0
rest_timeless (InHired p x) is = absurd cc
rest_timeless (InStopped p) is = absurd cc
rest_timeless (Rest p) is = refl

-- there are as many numbers of rate lines as rates
as_many : (t : Tree) → length (lines_of (sound_of t).rates) ≡ length (rates_of t.lines)
as_many t =
    length-map (sound_of t).rates (λ (c : Choice RateNumbers). c.line)
    ∙ sym (length-map (sound_of t).rates (λ (c : Choice RateNumbers). c.value))

within_rates : (t : Tree) (s : Setting) → IsSound t → s.tariff ≡ sound_of t → (x : Context)
    → rate_place_of s x < length (lines_of s.tariff.rates)
within_rates t s sound parts x =
    let holds = check.lines_that_hold_are_there-rate t x sound in
    let within : unwrap_or (rate_place t x) 0 < length (lines_of (sound_of t).rates) =
    rw (as_many t, holds.1) holds.2 in
    subst (λ (p : SoundTariff). unwrap_or (place_in_force p.rates x) 0 < length (lines_of p.rates)) (sym parts) within

-- the supplements that were taken, number by number
one_taken : (t : SoundTariff) (numbers : List ℕ) (number : ℕ) (b : Bool) → nat_eq (times number numbers) 0 ≡ b
    → sum (map (λ (k : Taken). k.count * k.amount) (if b then []
    else record {
      number = number;
      count = times number numbers;
      amount = amount_in (supplement_numbered t.supplements number);
    } ∷ []))
    ≡ times number numbers * amount_in (supplement_numbered t.supplements number)
one_taken t numbers number true none =
    let zero_times : times number numbers ≡ 0 = eqb-true (times number numbers) 0 none in
    rw zero_times (omega arith)
one_taken t numbers number false some = omega arith

all_taken : (t : SoundTariff) (numbers : List ℕ) (first many : ℕ)
    → sum (map (λ (k : Taken). k.count * k.amount) (flat_map (taken_if t numbers) (range_with_len first many)))
    ≡ amounts_among (λ number. amount_in (supplement_numbered t.supplements number)) first many numbers
unfolding amounts_among
all_taken t numbers first zero = refl
all_taken t numbers first (suc many) =
    sum_both (λ (k : Taken). k.count * k.amount) (taken_if t numbers first)
    (flat_map (taken_if t numbers) (range_with_len (first + 1) many))
    ∙ two_more (one_taken t numbers first (nat_eq (times first numbers) 0) refl) (all_taken t numbers (first + 1) many)

taken_sum : (t : SoundTariff) (numbers : List ℕ) → All IsSupplementNumber numbers
    → sum (map (λ (k : Taken). k.count * k.amount) (taken_of t numbers)) ≡ amounts_of t numbers
taken_sum t numbers all =
    all_taken t numbers 1 16 ∙ all_among (λ number. amount_in (supplement_numbered t.supplements number)) numbers all

-- an explanation of a trip
one_adds_up : (a : Tree) (s : Setting) (events : List Event) → IsSound a → s.tariff ≡ sound_of a → (e : Explanation)
    → IsOfTrip s events e → ArePartsTheWhole e
one_adds_up a s events sound parts e is_of =
    let t = is_of.trip in
    let lines = lines_of s.tariff.rates in
    let few = within_rates a s sound parts in
    let no_pulses : t.opening.pulses ≡ 0 = ap (λ (o : model.Opening). o.pulses) is_of.began.opening in
    let no_ticks : t.opening.ticks ≡ 0 = ap (λ (o : model.Opening). o.ticks) is_of.began.opening in
    let charges = parts_are_whole s (charge_in s) (λ (w : Sums). w.charge) (λ parts. refl) lines few t.parts in
    let pulses = parts_are_whole s pulses_in (λ (w : Sums). w.pulses) (λ parts. refl) lines few t.parts in
    let ticks = parts_are_whole s ticks_in (λ (w : Sums). w.ticks) (λ parts. refl) lines few t.parts in
    let free = free_parts (charge_in s) is_in_stopped (stopped_free s) t.parts in
    let left = free_parts (charge_in s) is_rest (rest_free s) t.parts in
    let timeless = free_parts ticks_in is_rest rest_timeless t.parts in
    rw is_of.is (record {
      charge = omega (arith, charges, free, left);
      pulses = omega (arith, pulses, no_pulses);
      ticks = omega (arith, ticks, timeless, no_ticks);
    })

one_makes : (s : Setting) (events : List Event) (e : Explanation) → IsOfTrip s events e → MakesReceipt s e
one_makes s events e is_of =
    let began = is_of.began in
    rw is_of.is (record {
      distance = refl;
      steps = rw began.opening refl;
      step = refl;
      fare = refl;
      supplements = λ of_text. taken_sum s.tariff is_of.trip.extras (began.extras of_text);
    })

pub all_add_up : (t : Tree) (s : Setting) (events : List Event) → IsSound t → s.tariff ≡ sound_of t
    → All ArePartsTheWhole (explanations_of s events)
all_add_up t s events sound parts =
    All-weaker (IsOfTrip s events) ArePartsTheWhole (one_adds_up t s events sound parts) (explanations_of s events)
    (explained_are_of_trips s events)

pub all_make : (s : Setting) (events : List Event) → All (MakesReceipt s) (explanations_of s events)
all_make s events =
    All-weaker (IsOfTrip s events) (MakesReceipt s) (one_makes s events) (explanations_of s events)
    (explained_are_of_trips s events)

-- what a trip was not charged for, part by part
same_amounts : (f : Part → ℕ) (test : Part → Bool) (own : Part → ℕ)
    → ((part : Part) → cond (test part) (f part) 0 ≡ own part) → (parts : List Part)
    → amount f test parts ≡ sum (map own parts)
same_amounts f test own same [] = refl
same_amounts f test own same (part ∷ parts) =
    amount_head f test part parts
    ∙ (two_more (same part) (same_amounts f test own same parts) ∙ sym (sum_head (own part) (map own parts)))

own_pulses : (part : Part) → cond (is_in_stopped part) (pulses_in part) 0 ≡ pulses_stopped part
own_pulses (InHired p x) = refl
own_pulses (InStopped p) = refl
own_pulses (Rest p) = refl

own_ticks : (part : Part) → cond (is_in_stopped part) (ticks_in part) 0 ≡ ticks_stopped part
own_ticks (InHired p x) = refl
own_ticks (InStopped p) = refl
own_ticks (Rest p) = refl

own_rest : (part : Part) → cond (is_rest part) (pulses_in part) 0 ≡ pulses_dropped part
own_rest (InHired p x) = refl
own_rest (InStopped p) = refl
own_rest (Rest p) = refl

one_has_uncharged : (s : Setting) (events : List Event) (e : Explanation) → IsOfTrip s events e
    → HasUncharged s events e
one_has_uncharged s events e is_of =
    let parts = is_of.trip.parts in
    let stopped = ap (λ (e : Explanation). e.stopped) is_of.is in
    record {
      of = is_of;
      pulses = ap (λ (w : Sums). w.pulses) stopped
          ∙ same_amounts pulses_in is_in_stopped pulses_stopped own_pulses parts;
      ticks = ap (λ (w : Sums). w.ticks) stopped ∙ same_amounts ticks_in is_in_stopped ticks_stopped own_ticks parts;
      charge = ap (λ (w : Sums). w.charge) stopped ∙ free_parts (charge_in s) is_in_stopped (stopped_free s) parts;
      dropped = ap (λ (e : Explanation). e.dropped) is_of.is
          ∙ same_amounts pulses_in is_rest pulses_dropped own_rest parts;
    }

pub all_have_uncharged : (s : Setting) (events : List Event)
    → All (HasUncharged s events) (explanations_of s events)
all_have_uncharged s events =
    All-weaker (IsOfTrip s events) (HasUncharged s events) (one_has_uncharged s events) (explanations_of s events)
    (explained_are_of_trips s events)

ways_by : (b : Bool) (k common : ℕ) (r : RateNumbers) (p : ℕ) → (if b then time_charge k common r
    else distance_charge common r p) ≡ charge_in_way k common r p (if b then Time else Distance)
ways_by true k common r p = refl
ways_by false k common r p = refl

-- an interval is charged what its way says
pub ways_charge : (mode : Mode) (k common : ℕ) (r : RateNumbers) (p : ℕ)
    → charge_by mode k common r p ≡ charge_in_way k common r p (way_by mode k r p)
ways_charge Single k common r p = ways_by (nat_lt (10000 * p * r.a * r.e) (r.c * k * r.b)) k common r p
ways_charge Double k common r p = refl
