-- What a refusal leaves.
use Rattle.std.proofs.{Common.{[], ◌∷◌, ◌≡◌, ◌≢◌, None, Some, arith}, lemmas.Grind.{common_steps}}
use Rattle.meter_states.specs.Common.{Event, Key, Meter, Refuse, Setting, Tick, Why, latch_pressed, step}
use Rattle.meter_states.specs.Refusals.{IsTooFast}

pub refused-event : (s : Setting) (event : Event) (m : Meter) (why : Why) → event ≢ Tick → (IsTooFast why → ⊥)
    → (step s event m).acts ≡ Refuse why ∷ [] → (step s event m).next ≡ m
refused-event s event m why other slow is = grind (arith, common_steps)

pub refused-key : (s : Setting) (key : Key) (m : Meter) (why : Why) → (latch_pressed s (Some key) m).acts
    ≡ Refuse why ∷ [] → (latch_pressed s (Some key) m).next ≡ record m { latch = None }
refused-key s key m why is = grind (arith, common_steps)
