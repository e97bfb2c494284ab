use Rattle.std.proofs.Common.{◌≡◌, All, Some, map}
use Rattle.pocket_meter.specs.{Common.{IsTimely}, Lines.{line_said}}
use Rattle.pocket_meter.proofs.events_of.Given as goal

abbrev pub invariant-loop-line : goal.invariant-loop-line
invariant-loop-line g l = record {
  timely : All IsTimely l.events.items;
  said : map line_said l.yielded ≡ map Some l.events.items;
}
