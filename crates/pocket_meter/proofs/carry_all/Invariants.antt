use Rattle.std.proofs.Common.{◌*◌, ◌++◌, ◌+◌, ◌≡◌, ◌≤◌, take}
use Rattle.meter_run.specs.{BetweenEvents.{StandsWith}, Dry.{IsMeterReady}}
use Rattle.pocket_meter.specs.Common.{IsSettingOf, Setting, first_state, opened, run, shown_texts}
use Rattle.pocket_meter.proofs.carry_all.Given as goal

abbrev pub invariant-loop-event : goal.invariant-loop-event
invariant-loop-event g l = record {
  ready : IsMeterReady l.made.0 l.made.1 l.meter.core l.meter.durable;
  stands : (s : Setting) → IsSettingOf s l.made.0 l.made.1 → StandsWith s l.meter.core.state l.meter.durable
      (run s (take l.event-index l.events) (opened s first_state)).next;
  printed : (s : Setting) → IsSettingOf s l.made.0 l.made.1 → l.panel.text.items
      ≡ l.fn.panel.text.items ++ shown_texts (run s (take l.event-index l.events) (opened s first_state)).acts;
  faults : l.panel.faults ≡ l.fn.panel.faults;
  steps : l.steps ≤ l.fn.steps + 64 * l.event-index;
}
