-- The expected list, by the actions of the meter.
use Rattle.std.proofs.{Common.{[], ℕ, ◌++◌, ◌∙◌, ◌∷◌, ◌≡◌, List, ap, append_assoc, map, sym}, lemmas.List.{map-append}}
use Rattle.{std.proofs.lemmas.Simd.{map-map}, verify_bench.specs.{Common.{step, ticks_so_far}, Receipts.{receipts_in}}}
use Rattle.verify_bench.specs.Common.{Act, Event, Expected, Meter, Setting, actions_of, ended, first_state, opened, run}
use Rattle.verify_bench.specs.ExpectedReceipts.{expected_of, hiring_of, hirings_from, hirings_in, ticks_at, untimed}
use Rattle.verify_bench.proofs.Benches.{of_receipts-append}

untimed_in : (ticks : ℕ) (acts : List Act) → map untimed (hirings_in ticks acts) ≡ hirings_in 0 acts
untimed_in ticks acts = map-map untimed (hiring_of ticks) (receipts_in acts)

from_run : (s : Setting) (events : List Event) (m : Meter) → map untimed (hirings_from s events m)
    ≡ hirings_in 0 ((run s events m).acts ++ (ended s (run s events m).next).acts)
unfolding hirings_from
from_run s [] m = untimed_in (ticks_so_far m.trip) (ended s m).acts
from_run s (event ∷ events) m =
    let next = (step s event m).next in
    let first = (step s event m).acts in
    let others = (run s events next).acts in
    let last = (ended s (run s events next).next).acts in
    map-append untimed (hirings_in (ticks_at s event m) first) (hirings_from s events next)
    ∙ (ap (λ (list : List Expected). list ++ map untimed (hirings_from s events next))
    (untimed_in (ticks_at s event m) first)
    ∙ (ap (λ (list : List Expected). hirings_in 0 first ++ list) (from_run s events next)
    ∙ (sym (of_receipts-append (hiring_of 0) first (others ++ last))
    ∙ ap (hirings_in 0) (sym (append_assoc first others last)))))

pub expected_are_receipts : (s : Setting) (events : List Event)
    → map untimed (expected_of s events) ≡ hirings_in 0 (actions_of s first_state events)
expected_are_receipts s events = from_run s events (opened s first_state)
