-- What a drive should come to, by its explanations.
use Rattle.std.proofs.Common.{[], ℕ, ◌++◌, ◌+◌, ◌∙◌, ◌∷◌, ◌≡◌, List, None, Option, Some, ap, append_assoc, arith, map}
use Rattle.std.proofs.{Common.{refl, sum, sym}, lemmas.{List.{map-append}, Simd.{map-map}}}
use Rattle.verify_bench.specs.{Bench.{GoesThroughEvent}, TripExplanations.{explanations_of, hired_at, trip_at}}
use Rattle.verify_bench.{specs.BenchProgress.{Carries, IsAmidExpected}, proofs.GatheredSums.{sum_more}}
use Rattle.verify_bench.specs.Common.{Act, BenchMeter, Context, Event, Expected, Explained, ForHire, Hired, Meter}
use Rattle.verify_bench.specs.Common.{MeterTrip, Off, Operating, Part, Rest, Setting, Stopped, context_now, ended}
use Rattle.verify_bench.specs.Common.{first_state, left_in, opened, step, ticks_in, ticks_so_far}
use Rattle.verify_bench.specs.{ExpectedReceipts.{expected_of, hirings_from, hirings_in, ticks_at}, Shortened.{short_of}}
use Rattle.verify_bench.specs.Receipts.{receipts_in}
use Rattle.verify_bench.specs.TripExplanations.{explanation, explanation_of, explanations_from, explanations_in}
use Rattle.taxi_units.specs.declared.event.Event.TheVariants as events

-- the receipts of acts
short_in : (s : Setting) (hired : Context) (trip : Option MeterTrip) (acts : List Act)
    → map short_of (explanations_in s hired trip acts) ≡ hirings_in (ticks_so_far trip) acts
short_in s hired trip acts = map-map short_of (explanation s hired trip) (receipts_in acts)

add_none : (n : ℕ) → n + 0 ≡ n
add_none n = omega arith

-- an unfinished interval has no tick
rest_ticks : (parts : List Part) (pulses : ℕ)
    → sum (map ticks_in (parts ++ Rest pulses ∷ [])) ≡ sum (map ticks_in parts)
rest_ticks parts pulses = sum_more ticks_in parts (Rest pulses ∷ []) ∙ add_none (sum (map ticks_in parts))

left_ticks : (operating : Operating) (pulses : ℕ) (m : Meter) (trip : Option MeterTrip) → m.trip ≡ trip
    → ticks_so_far (left_in operating pulses m).trip ≡ ticks_so_far m.trip
left_ticks Off pulses m trip is = refl
left_ticks ForHire pulses m trip is = refl
left_ticks Hired pulses m None is = rw is refl
left_ticks Hired pulses m (Some t) is = rw is (ap (λ (n : ℕ). t.opening.ticks + n) (rest_ticks t.parts pulses))
left_ticks Stopped pulses m None is = rw is refl
left_ticks Stopped pulses m (Some t) is = rw is (ap (λ (n : ℕ). t.opening.ticks + n) (rest_ticks t.parts pulses))

same_ticks : (s : Setting) (event : Event) (m : Meter) → ticks_so_far (trip_at s event m) ≡ ticks_at s event m
same_ticks s events.Tick m = refl
same_ticks s (events.Up second) m = refl
same_ticks s events.Down m = left_ticks m.operating (sum m.taken) m m.trip refl
same_ticks s (events.Pulses pulses) m = refl
same_ticks s (events.Clock second) m = refl
same_ticks s (events.Key key) m = refl

-- the receipts of an event
pub short_event : (s : Setting) (event : Event) (hired : Context) (m : Meter) (acts : List Act)
    → map short_of (explanations_in s hired (trip_at s event m) acts) ≡ hirings_in (ticks_at s event m) acts
short_event s event hired m acts =
    short_in s hired (trip_at s event m) acts ∙ ap (λ (n : ℕ). hirings_in n acts) (same_ticks s event m)

-- the hirings of events are their explanations cut short
pub short_from : (s : Setting) (events : List Event) (m : Meter) (hired : Context)
    → map short_of (explanations_from s events m hired) ≡ hirings_from s events m
unfolding explanations_from hirings_from
short_from s [] m hired = short_event s events.Down hired m (ended s m).acts
short_from s (event ∷ events) m hired =
    let acts = (step s event m).acts in
    let next = (step s event m).next in
    let others = explanations_from s events next (hired_at s event m hired) in
    map-append short_of (explanations_in s hired (trip_at s event m) acts) others
    ∙ (ap (λ (list : List Expected). list ++ map short_of others) (short_event s event hired m acts)
    ∙ ap (λ (list : List Expected). hirings_in (ticks_at s event m) acts ++ list)
    (short_from s events next (hired_at s event m hired)))

pub expected_are_short : (s : Setting) (events : List Event)
    → expected_of s events ≡ map short_of (explanations_of s events)
expected_are_short s events =
    sym (short_from s events (opened s first_state) (context_now s (opened s first_state)))

-- events that are carried out from nothing found
pub carried_short : (s : Setting) (all : List Expected) (events left : List Event) (old new : BenchMeter)
    (found : List Expected) (explained : List Explained)
    → Carries s events old new [] explained → IsAmidExpected s all (events ++ left) old found
    → IsAmidExpected s all left new (found ++ map short_of (map explanation_of explained))
carried_short s all events left old new found explained carries amid =
    let whole = explanations_from s (events ++ left) amid.m amid.hired in
    let after = carries whole left (record { m = amid.m; hired = amid.hired; stands = amid.stands; split = refl }) in
    let told = map explanation_of explained in
    let rest = explanations_from s left after.m after.hired in
    record {
      m = after.m;
      hired = after.hired;
      stands = after.stands;
      split = append_assoc found (map short_of told) (hirings_from s left after.m)
          ∙ (ap (λ (list : List Expected). found ++ (map short_of told ++ list))
          (sym (short_from s left after.m after.hired))
          ∙ (ap (λ (list : List Expected). found ++ list) (sym (map-append short_of told rest)
          ∙ (ap (map short_of) after.split ∙ short_from s (events ++ left) amid.m amid.hired))
          ∙ amid.split));
    }

-- the end of the drive, from nothing found
pub ended_short : (s : Setting) (all : List Expected) (old new : BenchMeter) (found : List Expected)
    (explained : List Explained)
    → GoesThroughEvent s events.Down ended old new [] explained → IsAmidExpected s all [] old found
    → found ++ map short_of (map explanation_of explained) ≡ all
unfolding hirings_from
ended_short s all old new found explained moves amid =
    ap (λ (list : List Expected). found ++ list)
    (ap (map short_of) (moves amid.m amid.hired amid.stands).found
    ∙ short_event s events.Down amid.hired amid.m (ended s amid.m).acts)
    ∙ amid.split
