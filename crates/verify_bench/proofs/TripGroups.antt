-- Each group has the line and the way that charged its intervals, and their sums.
use Rattle.{std.specs.Option.{unwrap_or}, verify_bench.specs.Groups.{rate_sums, way_by, way_of}}
use Rattle.std.{specs.Prelude.{◌&&◌, cond, if◌then◌else◌, nat_eq}, proofs.Common.{subst, suc, sum, sym, true, zero}}
use Rattle.std.proofs.Common.{[], ℕ, ◌++◌, ◌+◌, ◌<◌, ◌↔◌, ◌∙◌, ◌∷◌, ◌≡◌, All, Bool, List, Option, Some, ap}
use Rattle.std.proofs.Common.{append_assoc, arith, false, filter, get_or, length, length-append, map, refl, slice_get}
use Rattle.std.proofs.lemmas.{Bool.{eq-eqb, eqb-true}, List.Elements.{All-append, All-cons, All-nil, All-weaker}}
use Rattle.verify_bench.specs.Common.{Both, Choice, Context, Distance, Event, Group, InHired, InStopped, IsSound, Part}
use Rattle.verify_bench.specs.Common.{RateNumbers, Rest, Setting, SoundTariff, Time, Tree, Way, charge_in, lines_of}
use Rattle.verify_bench.specs.Common.{place_in_force, pulses_in, rate_in_force, sound_of, ticks_in, values_of}
use Rattle.verify_bench.specs.Groups.{group_if, groups_at, groups_from, is_charged_by, is_same_way, rate_place_of}
use Rattle.verify_bench.{specs.TripExplanations.{Explanation, explanations_of}, proofs.Partition.{ways_charge}}
use Rattle.verify_bench.specs.Wholes.{HasGroups, IsGroupOf, IsOfTrip, WasCharged, charge_in_way}
use Rattle.verify_bench.proofs.{AmountSums.{sum_head}, DriveTrips.{explained_are_of_trips}, TripFees.{mapped_there}}
use Rattle.tariff_check.proofs.Laws as check

behind_front : {V : Type 0} (front : List (Choice V)) (c : Choice V) (more : List (Choice V))
    → slice_get (front ++ c ∷ more) (length front) ≡ Some c
behind_front [] c more = refl
behind_front (x ∷ xs) c more = behind_front xs c more

-- tests
both_pass : (a b : Bool) → (a && b) ≡ true → (a ≡ true) × (b ≡ true)
both_pass true b e = (refl, e)
both_pass false b e = absurd cc

same_ways : (a b : Way) → is_same_way a b ≡ true → a ≡ b
same_ways Distance Distance e = refl
same_ways Time Time e = refl
same_ways Both Both e = refl
same_ways a b e = absurd cc

own_way : (a : Way) → is_same_way a a ≡ true
own_way Distance = refl
own_way Time = refl
own_way Both = refl

above_none : (n : ℕ) → nat_eq n 0 ≡ false → 0 < n
above_none zero e = absurd cc
above_none (suc n) e = omega arith

module _ (s : Setting) (holds : (x : Context) → (n : ℕ) × (place_in_force s.tariff.rates x ≡ Some n)) (place : ℕ)
    (rate : Choice RateNumbers) (there : slice_get s.tariff.rates place ≡ Some rate) (way : Way) where
  abbrev test : Part → Bool
  test = is_charged_by s place way

  -- what a part costs in the way of the group
  abbrev costs : Part → ℕ
  costs part = charge_in_way s.constant s.tariff.measure rate.value (pulses_in part) way

  record Passes (p : ℕ) (x : Context) : Type 0 where
    pub first : place_in_force s.tariff.rates x ≡ Some place
    pub in_force : rate_in_force s.tariff x ≡ rate.value
    pub in_way : way_by s.mode s.constant rate.value p ≡ way

  rate_is : (x : Context) → rate_place_of s x ≡ place → rate_in_force s.tariff x ≡ rate.value
  rate_is x is =
      let none : RateNumbers = record { a = 0; b = 0; c = 0; e = 0 } in
      ap (λ (n : ℕ). get_or (values_of s.tariff.rates) n none) is
      ∙ mapped_there (λ (c : Choice RateNumbers). c.value) s.tariff.rates place rate none there

  passes_by : (p : ℕ) (x : Context) → test (InHired p x) ≡ true → Passes p x
  passes_by p x passes =
      let both = both_pass (nat_eq (rate_place_of s x) place) (is_same_way (way_of s x p) way) passes in
      let is : rate_place_of s x ≡ place = eqb-true (rate_place_of s x) place both.0 in
      let found = holds x in
      let placed : found.0 ≡ place = sym (ap (λ (o : Option ℕ). unwrap_or o 0) found.1) ∙ is in
      let in_force = rate_is x is in
      record {
        first = found.1 ∙ ap (λ (n : ℕ). Some n) placed;
        in_force = in_force;
        in_way = ap (λ (r : RateNumbers). way_by s.mode s.constant r p) (sym in_force)
            ∙ same_ways (way_of s x p) way both.1;
      }

  charged_in_way : (part : Part) → test part ≡ true → charge_in s part ≡ costs part
  charged_in_way (InHired p x) passes =
      let is = passes_by p x passes in
      let r = rate_in_force s.tariff x in
      ways_charge s.mode s.constant s.tariff.measure r p
      ∙ (ap (λ (q : RateNumbers). charge_in_way s.constant s.tariff.measure q p (way_by s.mode s.constant q p))
      is.in_force
      ∙ ap (λ (w : Way). charge_in_way s.constant s.tariff.measure rate.value p w) is.in_way)
  charged_in_way (InStopped p) passes = absurd cc
  charged_in_way (Rest p) passes = absurd cc

  charged_more : (b : Bool) (part : Part) (kept : List Part) → (b ≡ true → charge_in s part ≡ costs part)
      → sum (map (charge_in s) kept) ≡ sum (map costs kept)
      → sum (map (charge_in s) (cond b (part ∷ kept) kept)) ≡ sum (map costs (cond b (part ∷ kept) kept))
  charged_more true part kept one others =
      sum_head (charge_in s part) (map (charge_in s) kept)
      ∙ (ap (λ (n : ℕ). n + sum (map (charge_in s) kept)) (one refl)
      ∙ (ap (λ (n : ℕ). costs part + n) others ∙ sym (sum_head (costs part) (map costs kept))))
  charged_more false part kept one others = others

  all_charged : (parts : List Part) → sum (map (charge_in s) (filter test parts)) ≡ sum (map costs (filter test parts))
  all_charged [] = refl
  all_charged (part ∷ parts) =
      charged_more (test part) part (filter test parts) (charged_in_way part) (all_charged parts)

  was_charged : (part : Part) → test part ≡ true → WasCharged s place rate.value way part
  was_charged (InHired p x) passes =
      let is = passes_by p x passes in
      record { pulses = p; context = x; is = refl; first = is.first; in_way = is.in_way }
  was_charged (InStopped p) passes = absurd cc
  was_charged (Rest p) passes = absurd cc

  is_charged : (part : Part) → WasCharged s place rate.value way part → test part ≡ true
  is_charged part was =
      let x = was.context in
      let is : rate_place_of s x ≡ place = ap (λ (o : Option ℕ). unwrap_or o 0) was.first in
      let same : way_of s x was.pulses ≡ way =
      ap (λ (r : RateNumbers). way_by s.mode s.constant r was.pulses) (rate_is x is) ∙ was.in_way in
      ap test was.is
      ∙ (ap (λ (n : ℕ). nat_eq n place && is_same_way (way_of s x was.pulses) way) is
      ∙ (ap (λ (w : Way). nat_eq place place && is_same_way w way) same
      ∙ (ap (λ (b : Bool). b && is_same_way way way) (eq-eqb place place refl) ∙ own_way way)))

  group_by : (parts : List Part) (b : Bool) → nat_eq (rate_sums s parts place way).ticks 0 ≡ b
      → All (IsGroupOf s parts) (if b then [] else record {
        line = rate.line;
        way = way;
        sums = rate_sums s parts place way;
      } ∷ [])
  group_by parts true none = All-nil (IsGroupOf s parts)
  group_by parts false some = All-cons (IsGroupOf s parts) _ [] (record {
    place = place;
    rate = rate;
    there = there;
    line = refl;
    is_its = test;
    tells = λ part. (was_charged part, is_charged part);
    pulses = refl;
    ticks = refl;
    charge = all_charged parts;
    some = above_none (rate_sums s parts place way).ticks some;
  }) (All-nil (IsGroupOf s parts))

  one_group : (parts : List Part) → All (IsGroupOf s parts) (group_if rate.line way (rate_sums s parts place way))
  one_group parts = group_by parts (nat_eq (rate_sums s parts place way).ticks 0) refl

module _ (s : Setting) (holds : (x : Context) → (n : ℕ) × (place_in_force s.tariff.rates x ≡ Some n))
    (parts : List Part) where
  groups_there : (place : ℕ) (rate : Choice RateNumbers) → slice_get s.tariff.rates place ≡ Some rate
      → All (IsGroupOf s parts) (groups_at s parts place rate.line)
  groups_there place rate there =
      let g = λ (way : Way). group_if rate.line way (rate_sums s parts place way) in
      let one = λ (way : Way). one_group s holds place rate there way parts in
      All-append (IsGroupOf s parts) (g Distance) (g Time ++ g Both) (one Distance)
      (All-append (IsGroupOf s parts) (g Time) (g Both) (one Time) (one Both))

  groups_behind : (front left : List (Choice RateNumbers)) (place : ℕ) → place ≡ length front
      → s.tariff.rates ≡ front ++ left → All (IsGroupOf s parts) (groups_from s parts place (lines_of left))
  unfolding groups_from
  groups_behind front [] place is all = All-nil (IsGroupOf s parts)
  groups_behind front (rate ∷ left) place is all =
      let there : slice_get s.tariff.rates place ≡ Some rate =
      ap (λ (cs : List (Choice RateNumbers)). slice_get cs place) all
      ∙ (ap (λ (n : ℕ). slice_get (front ++ rate ∷ left) n) is ∙ behind_front front rate left) in
      All-append (IsGroupOf s parts) (groups_at s parts place rate.line)
      (groups_from s parts (place + 1) (lines_of left)) (groups_there place rate there)
      (groups_behind (front ++ rate ∷ []) left (place + 1) (omega (arith, is, length-append front (rate ∷ [])))
      (all ∙ sym (append_assoc front (rate ∷ []) left)))

-- a line of a sound tariff holds in each context
line_holds : (t : Tree) (s : Setting) → IsSound t → s.tariff ≡ sound_of t → (x : Context)
    → (n : ℕ) × (place_in_force s.tariff.rates x ≡ Some n)
line_holds t s sound tariff x =
    let found = check.lines_that_hold_are_there-rate t x sound in
    subst (λ (p : SoundTariff). (n : ℕ) × (place_in_force p.rates x ≡ Some n)) (sym tariff) (found.0, found.1)

one_has : (t : Tree) (s : Setting) (events : List Event) → IsSound t → s.tariff ≡ sound_of t → (e : Explanation)
    → IsOfTrip s events e → HasGroups s events e
one_has t s events sound tariff e is_of = record {
  of = is_of;
  groups = subst (λ (e : Explanation). All (IsGroupOf s is_of.trip.parts) e.groups) (sym is_of.is)
      (groups_behind s (line_holds t s sound tariff) is_of.trip.parts [] s.tariff.rates 0 refl refl);
}

pub all_have_groups : (t : Tree) (s : Setting) (events : List Event) → IsSound t → s.tariff ≡ sound_of t
    → All (HasGroups s events) (explanations_of s events)
all_have_groups t s events sound tariff =
    All-weaker (IsOfTrip s events) (HasGroups s events) (one_has t s events sound tariff) (explanations_of s events)
    (explained_are_of_trips s events)
