use Rattle.{std.proofs.Common.{arith, inl, inr}, taxi_units.specs.declared.event.Why.TheVariants.{Powered}}
use Rattle.meter_states.specs.Common.{Refuse}
use Rattle.meter_states.proofs.{Outcomes.{dropped-meets, follows-event}, Pushes.{lawful-more, room-none}}
use Rattle.taxi_units.specs.declared.event.Event.TheVariants as events
use Rattle.meter_states.proofs.meter_state.State.take_event.Goals as goal

pub refuse-requires : goal.refuse-requires
refuse-requires g c = room-none c.args.acts.now.items c.requires.room

pub drop_supply-requires : goal.drop_supply-requires
drop_supply-requires g c = record { lawful = c.requires.lawful; room = c.requires.room }

pub take_pulses-requires : goal.take_pulses-requires
take_pulses-requires g c = record { gate = c.requires.lawful.gate; room = c.requires.room }

pub tick-requires : goal.tick-requires
tick-requires g c = record { lawful = c.requires.lawful; cache = c.requires.cache; room = c.requires.room }

pub read_clock-requires-clause-room : goal.read_clock-requires-clause-room
read_clock-requires-clause-room g c = c.requires.room

pub take_key-requires : goal.take_key-requires
take_key-requires g c = record { room = c.requires.room }

pub returns-in-Pulses : goal.returns-in-Pulses
returns-in-Pulses g c = record {
  lawful = inr (c.take_pulses.ensures.lawful c.args.tables.now c.requires.lawful);
  cache = c.requires.cache;
  ranges = c.take_pulses.ensures.ranges c.args.tables.now;
  meets = λ s m is e. follows-event s _ _ _ _ _ (events.Pulses c.in-Pulses.n) m c.in-Pulses.is c.requires.room
      (c.take_pulses.ensures.lawful c.args.tables.now c.requires.lawful) (c.take_pulses.ensures.follows s m e);
  steps = omega arith;
}

pub returns-in-Clock : goal.returns-in-Clock
returns-in-Clock g c = record {
  lawful = inr (c.read_clock.ensures.lawful c.args.tables.now c.requires.lawful);
  cache = c.requires.cache;
  ranges = c.read_clock.ensures.ranges c.args.tables.now;
  meets = λ s m is e. follows-event s _ _ _ _ _ (events.Clock c.in-Clock.second) m c.in-Clock.is c.requires.room
      (c.read_clock.ensures.lawful c.args.tables.now c.requires.lawful) (c.read_clock.ensures.follows s m e);
  steps = omega arith;
}

pub returns-in-Key : goal.returns-in-Key
returns-in-Key g c = record {
  lawful = inr (c.take_key.ensures.lawful c.args.tables.now c.requires.lawful);
  cache = c.requires.cache;
  ranges = c.take_key.ensures.ranges c.args.tables.now;
  meets = λ s m is e. follows-event s _ _ _ _ _ (events.Key c.in-Key.key) m c.in-Key.is c.requires.room
      (c.take_key.ensures.lawful c.args.tables.now c.requires.lawful) (c.take_key.ensures.follows s m e);
  steps = omega arith;
}

pub returns-in-Tick : goal.returns-in-Tick
returns-in-Tick g c = record {
  lawful = inr c.tick.ensures.lawful;
  cache = c.tick.ensures.cache;
  ranges = c.tick.ensures.stage.ranges;
  meets = λ s m is e. follows-event s _ _ _ _ _ events.Tick m c.in-Tick.is c.requires.room
      c.tick.ensures.lawful (c.tick.ensures.stage.follows s m is e);
  steps = c.tick.ensures.steps;
}

pub returns-in-Down : goal.returns-in-Down
returns-in-Down g c = record {
  lawful = inl c.drop_supply.ensures.off;
  cache = c.requires.cache;
  ranges = c.drop_supply.ensures.ranges;
  meets = λ s m is e. dropped-meets s c.drop_supply.new.self c.drop_supply.new.acts.items
      c.args.event m c.in-Down.is c.drop_supply.ensures.off (c.drop_supply.ensures.done s m is e);
  steps = omega (arith, c.drop_supply.ensures.steps);
}

pub returns-in-Up : goal.returns-in-Up
returns-in-Up g c = record {
  lawful = inr c.requires.lawful;
  cache = c.requires.cache;
  ranges = lawful-more c.args.tables.now c.args.self.now.number c.args.acts.now.items
      c.refuse.new.acts.items (Refuse Powered) c.refuse.ensures tt;
  meets = λ s m is e. follows-event s _ _ _ _ _ (events.Up c.in-Up.field-0) m c.in-Up.is c.requires.room
      c.requires.lawful (record { state = e; done = c.refuse.ensures });
  steps = omega arith;
}
