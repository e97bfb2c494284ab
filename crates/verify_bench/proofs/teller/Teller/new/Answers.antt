use Rattle.{std.proofs.Common.{refl}, verify_bench.specs.Common.{first_state}}
use Rattle.meter_model.proofs.Laws as states
use Rattle.verify_bench.proofs.teller.Teller.new.Goals as goal

pub returns-clause-stands : goal.returns-clause-stands
returns-clause-stands c = λ s hired. record {
  meter = c.new.ensures.stands s hired;
  shown = refl;
  since = refl;
  line = refl;
  kept = states.the_store_keeps_the_trip-begins s first_state tt;
}
