use Rattle.tariff_check.proofs.{CommonMeasure.{refused_measures, sound_measures}, Laws.{measures_are_least-least}}
use Rattle.tariff_check.proofs.RateMeasures.{of_rate_in_force}
use Rattle.tariff_check.proofs.soundness_laws.measures_are_least.Goals as goal

pub returns : goal.returns
returns c = record {
  least = measures_are_least-least;
  sound = sound_measures;
  refused = refused_measures;
  in_force = of_rate_in_force;
}
