use Rattle.std.proofs.Common.{[], ℕ, ◌<◌, ◌∷◌, All, List, arith, get_or, length, suc, zero}
use Rattle.std.proofs.lemmas.{Grind.{common_steps}, List.Elements.{All-head, All-tail}}
use Rattle.tariff_compile.specs.Common.{Choice, IsSoundRate, RateNumbers, own_values}
use Rattle.tariff_compile.proofs.choices.all_weights.Goals as goal

-- if all rates are sound, so is the one at a place
sound_at : (choices : List (Choice RateNumbers)) (i : ℕ) (d : Choice RateNumbers) → i < length choices
    → All IsSoundRate (own_values choices) → IsSoundRate (get_or choices i d).value
sound_at [] i d within all = absurd (omega arith)
sound_at (c ∷ cs) zero d within all = All-head IsSoundRate c.value (own_values cs) all
sound_at (c ∷ cs) (suc i) d within all =
    sound_at cs i d (omega arith) (All-tail IsSoundRate c.value (own_values cs) all)

pub weights_of-requires-clause-rate : goal.weights_of-requires-clause-rate
weights_of-requires-clause-rate c =
    sound_at c.args.choices.now c.loop-choice.choice-index _ (omega arith) c.requires.rates

pub loop-choice-preserved : goal.loop-choice-preserved
loop-choice-preserved c = grind (arith, common_steps)

pub returns : goal.returns
returns c = grind (arith, common_steps)
