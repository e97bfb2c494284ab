use Rattle.{std.proofs.Common.{ℕ, List, subst}, seal_record.{specs.Values.{taxi_read}, proofs.Ranged.{taxi_by}}}
use Rattle.seal_record.specs.Common.{Gives}
use Rattle.seal_record.proofs.decoding.taxi_in.Goals as goal

pub returns : goal.returns
returns c = taxi_by (λ taxi. taxi.items) c.taxi.result _ (subst
    (λ (text : List ℕ). Gives (λ taxi. taxi.items) c.taxi.result (taxi_read text)) c.before-2.ensures c.taxi.ensures)
