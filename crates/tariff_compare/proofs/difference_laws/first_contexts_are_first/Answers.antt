use Rattle.{std.proofs.Common.{refl}, tariff_compare.{specs.Common.{Counts}, proofs.Firsts.{first_is_first}}}
use Rattle.tariff_compare.proofs.difference_laws.first_contexts_are_first.Goals as goal

pub returns : goal.returns
returns c = λ t k kind place has. first_is_first t t k (Counts kind place) (record {
  first = has;
  second = has;
  positions = refl;
  zones = refl;
})
