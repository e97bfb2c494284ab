use Rattle.std.proofs.Common.{ℕ, ◌+◌, ◌∙◌, ◌≤◌, All, ap, arith, subst, sym}
use Rattle.meter_states.specs.{Acts.{IsLawfulAct}, Common.{interval_begun, interval_counted, roaming_checked, shown}}
use Rattle.meter_states.specs.Common.{◌>>=◌, ForHire, Hired, Meter, Off, Operating, Stopped, expired_or_pressed}
use Rattle.meter_states.{specs.Core.{CoreData, core_of}, proofs.Outcomes.{follows-then, quiet-follows, same-or}}
use Rattle.meter_states.specs.Lawful.{counting_steps, pressing_steps}
use Rattle.meter_states.proofs.meter_state.State.tick.Goals as goal

pub returns-clause-stage : goal.returns-clause-stage
returns-clause-stage g c = record {
  ranges = λ before.
      let p = c.args.tables.now in
      let n = c.args.self.now.number in
      let same = c.count_interval.ensures.same.1 in
      let start = subst (λ (k : ℕ). All (IsLawfulAct p k) c.args.acts.now.items) (sym same) before in
      let pressed = subst (λ (k : ℕ). All (IsLawfulAct p k) c.expire_or_press.new.acts.items) same
      (c.expire_or_press.ensures.stage.ranges start) in
      c.show.ensures.ranges n
      (c.check_roaming.ensures.ranges n (same-or _ _ _ n _ c.expire_or_press.ensures.stage.roam same) pressed);
  follows = λ s m is e.
      let begin = c.args.acts.now.items in
      let pressed_acts = c.expire_or_press.new.acts.items in
      let checked_acts = c.check_roaming.new.acts.items in
      let acts = c.show.new.acts.items in
      let counted = (interval_counted s m).next in
      let count = quiet-follows s c.count_interval.new.self begin counted (c.count_interval.ensures.state s m is e) in
      let a = c.expire_or_press.ensures.stage.follows s counted is count.state in
      let pressed = (expired_or_pressed s counted).next in
      let b = c.check_roaming.ensures.follows c.args.seal.now s pressed is a.state in
      let checked = (roaming_checked s pressed).next in
      let d = c.show.ensures.follows c.args.seal.now s checked is b.state in
      let after = (shown s checked).next in
      let clock = c.second-second.ensures ∙ ap (λ (p : CoreData). p.clock) (c.self.view_is ∙ d.state) in
      let begun = ap (λ (p : CoreData). record p { began = c.second-second.result }) (c.self.view_is ∙ d.state) ∙ ap (λ
      (n : ℕ). record (core_of s after) { began = n }) clock in
      follows-then s c.count_interval.new.self _ begin begin acts (interval_counted s m)
      (λ (n : Meter). expired_or_pressed s n >>= (λ (n : Meter). roaming_checked s n
      >>= (λ (n : Meter). shown s n >>= (λ (n : Meter). interval_begun n)))) count
      (follows-then s c.expire_or_press.new.self _ begin pressed_acts acts (expired_or_pressed s counted)
      (λ (n : Meter). roaming_checked s n >>= (λ (n : Meter). shown s n >>= (λ (n : Meter). interval_begun n))) a
      (follows-then s c.check_roaming.new.self _ pressed_acts checked_acts acts (roaming_checked s pressed)
      (λ (n : Meter). shown s n >>= (λ (n : Meter). interval_begun n)) b
      (follows-then s c.show.new.self _ checked_acts acts acts (shown s checked) (λ (n : Meter). interval_begun n) d
      (quiet-follows s _ acts (record after { began = after.clock }) begun))));
}

-- the end of an interval and the key that waits
steps-of-both : (o : Operating) → counting_steps o + pressing_steps o ≤ 48
steps-of-both Off = omega arith
steps-of-both ForHire = omega arith
steps-of-both Hired = omega arith
steps-of-both Stopped = omega arith

pub returns-clause-steps : goal.returns-clause-steps
returns-clause-steps g c =
    let pressed = rw c.count_interval.ensures.same.0 at c.expire_or_press.ensures.steps in
    omega (arith, c.count_interval.ensures.steps, pressed, steps-of-both c.args.self.now.operating)
