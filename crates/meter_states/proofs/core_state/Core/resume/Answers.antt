use Rattle.std.proofs.Common.{[], ℕ, ◌≡◌, All, IfSome, List, None, Option, arith, inr, refl, rules, subst, sym}
use Rattle.{meter_model.specs.Supply.{powered, supply_came}, meter_states.proofs.Outcomes.{follows-meets, follows-then}}
use Rattle.meter_states.{specs.{Acts.{IsLawfulAct}, Core.{ComesToOutcome, core_of}}, proofs.ActRanges.{acts-keep}}
use Rattle.meter_states.specs.Common.{Act, Durable, IsHeld, Meter, Trip, hold_taken, roaming_between, shown}
use Rattle.meter_states.proofs.core_state.Core.resume.Goals as goal

pub returns-clause-ranges : goal.returns-clause-ranges
returns-clause-ranges g c =
    let p = c.args.tables.now in
    let number : c.idle-state.result.number ≡ c.args.durable.now.number = rw c.idle-state.ensures refl in
    let none : All (IsLawfulAct p c.idle-state.result.number) c.new-acts.result.items =
    rw c.new-acts.ensures (λ k d below. absurd (omega arith)) in
    c.show.ensures.ranges c.args.durable.now.number
    (subst (λ (n : ℕ). All (IsLawfulAct p n) c.take_hold.new.acts.items) number (c.take_hold.ensures.stage.ranges none))

pub returns-clause-commits : goal.returns-clause-commits
returns-clause-commits g c =
    acts-keep c.args.tables.now c.args.durable.now.number c.show.new.acts.items (returns-clause-ranges g c)
    c.args.durable.now c.requires.range refl

pub returns-clause-lawful : goal.returns-clause-lawful
returns-clause-lawful g c =
    record { powered = inr c.show.ensures.lawful; cache = c.empty-cache.ensures c.args.tables.now c.args.seal.now }

pub returns-clause-meets : goal.returns-clause-meets
returns-clause-meets g c = λ s m is durable saved.
    let n = powered c.args.second m in
    let idle = core_of s (record n { trip = None }) in
    let start : c.idle-state.result ≡ idle = subst (λ (d : Durable). c.idle-state.result
    ≡ record idle { number = d.number }) (sym durable) c.idle-state.ensures in
    let empty = c.new-acts.result.items in
    let none : c.new-acts.result.items ≡ [] = search rules in
    let middle = c.take_hold.new.acts.items in
    let acts = c.show.new.acts.items in
    let first = subst (λ (d : Durable). ComesToOutcome s c.take_hold.new.self empty middle
    (hold_taken s c.args.second d.hold n)) (sym durable) (c.take_hold.ensures.stage.follows s n is saved start) in
    let taken = hold_taken s c.args.second m.durable.hold n in
    let second = c.show.ensures.follows c.args.seal.now s taken.next is first.state in
    let all = follows-then s c.take_hold.new.self c.show.new.self empty middle acts taken (λ
    (k : Meter). shown s k) first second in
    follows-meets s c.args.tables.now 8639999 roaming_between 0 c.show.new.self acts
    (supply_came s c.args.second m) c.show.ensures.lawful
    (subst (λ (l : List Act). ComesToOutcome s c.show.new.self l acts (supply_came s c.args.second m)) none all)

pub take_hold-requires-clause-hold : goal.take_hold-requires-clause-hold
take_hold-requires-clause-hold g c = λ trip is.
    let number : c.idle-state.result.number ≡ c.args.durable.now.number = rw c.idle-state.ensures refl in
    record {
      range = subst (λ (n : ℕ). IsHeld n trip) (sym number)
          (subst (λ (o : Option Trip). IfSome o (IsHeld c.args.durable.now.number)) is c.requires.range.held);
      fits = c.requires.fits trip is;
    }
