use Rattle.{std.proofs.Common.{All, subst, sym}, pocket_meter.specs.Common.{IsTimely}}
use Rattle.pocket_meter.proofs.carry.Goals as goal

pub carry_all-requires-clause-timely : goal.carry_all-requires-clause-timely
carry_all-requires-clause-timely g c =
    subst (All IsTimely) (sym c.as_slice-2.ensures.value)
    (c.read_events.ensures.timely c.in_ok-events.events c.in_ok-events.ensures.ok_part)
