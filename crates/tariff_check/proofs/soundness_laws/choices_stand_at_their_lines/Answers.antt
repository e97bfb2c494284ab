use Rattle.tariff_check.proofs.ChoicePlaces.{all_in_order, choices_there, each_has_its_place}
use Rattle.tariff_check.proofs.soundness_laws.choices_stand_at_their_lines.Goals as goal

pub returns : goal.returns
returns c = record { line = choices_there; places = each_has_its_place; order = all_in_order }
