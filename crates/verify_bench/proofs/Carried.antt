-- Events that the bench carries out, one after another.
use Rattle.std.proofs.Common.{[], ℕ, ◌++◌, ◌+◌, ◌<◌, ◌∙◌, ◌∷◌, ◌≡◌, ◌≢◌, List, add-one, ap, append_assoc, drop}
use Rattle.std.proofs.{Common.{flat_map, get_or, length, map, refl, suc, sym, zero}, lemmas.List.{append-nil}}
use Rattle.{std.proofs.{Math.Seq.{drop-cons}, lemmas.Bool.{ne_eqb}}, verify_bench.specs.Common.{run_events, step}}
use Rattle.verify_bench.specs.Bench.{BenchStands, GoesThroughEvent}
use Rattle.verify_bench.specs.BenchProgress.{Carries, IsAmidDrive, IsAmidExpected}
use Rattle.verify_bench.specs.Common.{BenchMeter, Context, Down, Event, Explained, Pulses, Run, Setting, Tick}
use Rattle.verify_bench.specs.Common.{context_now, ended, first_state, interval_events, intervals_events, opened}
use Rattle.verify_bench.specs.{ExpectedReceipts.{expected_of}, TripExplanations.{explanations_of, hired_at, trip_at}}
use Rattle.verify_bench.specs.TripExplanations.{Explanation, explanation_of, explanations_from, explanations_in}

-- an event
pub carries_event : (s : Setting) (event : Event) (old new : BenchMeter) (a b : List Explained)
    → GoesThroughEvent s event (λ s. step s event) old new a b → Carries s (event ∷ []) old new a b
unfolding explanations_from
carries_event s event old new a b moves all left amid =
    let moved = moves amid.m amid.hired amid.stands in
    let these = explanations_in s amid.hired (trip_at s event amid.m) (step s event amid.m).acts in
    let others = explanations_from s left (step s event amid.m).next (hired_at s event amid.m amid.hired) in
    record {
      m = (step s event amid.m).next;
      hired = hired_at s event amid.m amid.hired;
      stands = moved.state;
      split = ap (λ (list : List Explanation). list ++ others) moved.found
          ∙ (append_assoc (map explanation_of a) these others ∙ amid.split);
    }

-- no event
pub carries_none : (s : Setting) (meter : BenchMeter) (a : List Explained) → Carries s [] meter meter a a
carries_none s meter a all left amid = amid

-- some events and then others
pub carries_then : (s : Setting) (first others : List Event) (old mid new : BenchMeter) (a b c : List Explained)
    → Carries s first old mid a b → Carries s others mid new b c → Carries s (first ++ others) old new a c
carries_then s first others old mid new a b c one other all left amid =
    other all left (one all (others ++ left) (rw (append_assoc first others left) at amid))

-- an interval without pulses is a tick, and any other one is its pulses and a tick
pub interval_none : (pulses : ℕ) → pulses ≡ 0 → interval_events pulses ≡ Tick ∷ []
interval_none pulses none = rw none refl

pub interval_some : (pulses : ℕ) → pulses ≢ 0 → interval_events pulses ≡ Pulses pulses ∷ Tick ∷ []
interval_some pulses some = rw (ne_eqb pulses 0 some) refl

-- one interval more
pub intervals_more : (pulses count : ℕ)
    → intervals_events pulses count ++ interval_events pulses ≡ intervals_events pulses (count + 1)
intervals_more pulses zero = sym (append-nil (interval_events pulses))
intervals_more pulses (suc count) =
    append_assoc (interval_events pulses) (intervals_events pulses count) (interval_events pulses)
    ∙ (ap (λ (events : List Event). interval_events pulses ++ events)
    (intervals_more pulses count ∙ ap (intervals_events pulses) (add-one count))
    ∙ sym (ap (intervals_events pulses) (add-one (suc count))))

-- the end of the drive
pub carried_to_the_end : (s : Setting) (all : List Explanation) (old new : BenchMeter) (a b : List Explained)
    → GoesThroughEvent s Down ended old new a b → IsAmidDrive s all [] old a → map explanation_of b ≡ all
unfolding explanations_from
carried_to_the_end s all old new a b moves amid = (moves amid.m amid.hired amid.stands).found ∙ amid.split

-- the next run of a list
pub events_next : (runs : List Run) (place : ℕ) (d : Run) → place < length runs
    → flat_map run_events (drop place runs)
    ≡ run_events (get_or runs place d) ++ flat_map run_events (drop (place + 1) runs)
events_next runs place d within =
    let split : drop place runs ≡ get_or runs place d ∷ drop (place + 1) runs =
    rw add-one (drop-cons runs place d within) in
    rw split refl

pub amid_next : (s : Setting) (all : List Explanation) (runs : List Run) (place : ℕ) (d : Run) (meter : BenchMeter)
    (found : List Explained) → place < length runs
    → IsAmidDrive s all (flat_map run_events (drop place runs)) meter found
    → IsAmidDrive s all (run_events (get_or runs place d) ++ flat_map run_events (drop (place + 1) runs)) meter found
amid_next s all runs place d meter found within amid =
    let split : drop place runs ≡ get_or runs place d ∷ drop (place + 1) runs =
    rw add-one (drop-cons runs place d within) in
    rw split at amid

-- before a drive
pub amid_first : (s : Setting) (events : List Event) (meter : BenchMeter) → ((hired : Context)
    → BenchStands s hired meter (opened s first_state)) → IsAmidDrive s (explanations_of s events) events meter []
amid_first s events meter stands = record {
  m = opened s first_state;
  hired = context_now s (opened s first_state);
  stands = stands (context_now s (opened s first_state));
  split = refl;
}

pub expected_first : (s : Setting) (events : List Event) (meter : BenchMeter) → ((hired : Context)
    → BenchStands s hired meter (opened s first_state)) → IsAmidExpected s (expected_of s events) events meter []
expected_first s events meter stands = record {
  m = opened s first_state;
  hired = context_now s (opened s first_state);
  stands = stands (context_now s (opened s first_state));
  split = refl;
}
