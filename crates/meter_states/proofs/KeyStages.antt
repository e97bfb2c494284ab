-- What a key does, as a stage of an event.
use Rattle.std.proofs.Common.{[], ℕ, ◌++◌, ◌+◌, ◌<◌, ◌∙◌, ◌∷◌, ◌≡◌, ◌≢◌, ◌≤◌, ◌⊎◌, List, None, Option, Some, ap, arith}
use Rattle.std.proofs.{Common.{inl, inr, length, refl, rules, subst, sym, true}, lemmas.Grind.{common_steps}}
use Rattle.meter_model.specs.{Keys.{act_done, act_of, key_in}, Meter.{refused}, declared.key_act.KeyAct.{KeyAct}}
use Rattle.meter_states.specs.{Acts.{StayLawful}, Stages.{ClosesTrip, CommitsNothing, IsReadyForKey, MayClose, Stage}}
use Rattle.meter_states.specs.Common.{Act, CoreTrip, ForHire, Hired, Key, Meter, MeterTrip, Off, Operating, Outcome}
use Rattle.meter_states.specs.Common.{Refuse, Seal, Setting, Stopped, Supplement, TableParts, Why, extra_added_to}
use Rattle.meter_states.specs.{Common.{key_pressed, latch_pressed, quiet, times, with_extra}, Setting.{IsSettingOf}}
use Rattle.meter_states.specs.Core.{ComesToOutcome, CoreData, core_of}
use Rattle.meter_states.{specs.Lawful.{HasTrip, IsAmidEvent, is_busy, pressing_steps}, proofs.Outcomes.{quiet-follows}}
use Rattle.meter_states.proofs.{Powered.{between-amid, powered-unlatched}, Pushes.{few-more, few-none, lawful-more}}

-- a key does what its act does
follows-act : (s : Setting) (m : Meter) (old new : CoreData) (before acts : List Act) (key : Key) (act : KeyAct)
    → act ≡ act_of key old.operating → old ≡ core_of s m → ComesToOutcome s new before acts (act_done s act m)
    → ComesToOutcome s new before acts (key_in s key m.operating m)
follows-act s m old new before acts key act is e done =
    subst (λ (a : KeyAct). ComesToOutcome s new before acts (act_done s a m))
    (is ∙ ap (λ (c : CoreData). act_of key c.operating) e) done

-- a key that commits nothing
pub commits-act : {p : TableParts} {seal : Seal} {inside old new : CoreData} {before acts : List Act} (key : Key)
    (act : KeyAct) → inside ≡ old → act ≡ act_of key inside.operating
    → CommitsNothing p seal old new before acts (λ s m. act_done s act m)
    → MayClose p seal 2 old new before acts (λ s m. key_in s key m.operating m)
commits-act {p} {seal} {inside} {old} {new} {before} {acts} key act view is done =
    let here : act ≡ act_of key old.operating = is ∙ ap (λ (c : CoreData). act_of key c.operating) view in
    record {
      lawful = done.lawful;
      few = omega (arith, done.few);
      roam = inl (done.few, done.number);
      ranges = done.ranges;
      follows = λ s m setting e. follows-act s m old new before acts key act here e (done.follows s m setting e);
    }

-- a key that closes the trip
pub closes-act : {p : TableParts} {seal : Seal} {inside old new : CoreData} {before acts : List Act} (key : Key)
    (act : KeyAct) → inside ≡ old → act ≡ act_of key inside.operating
    → ClosesTrip p seal 2 old new before acts (λ s m. act_done s act m)
    → MayClose p seal 2 old new before acts (λ s m. key_in s key m.operating m)
closes-act {p} {seal} {inside} {old} {new} {before} {acts} key act view is done =
    let here : act ≡ act_of key old.operating = is ∙ ap (λ (c : CoreData). act_of key c.operating) view in
    record {
      lawful = between-amid done.lawful;
      few = done.few;
      roam = inr done.roam;
      ranges = done.ranges;
      follows = λ s m setting e. follows-act s m old new before acts key act here e (done.follows s m setting e);
    }

-- a powered meter has a trip if one runs in its operating position
pub trip-there : (operating : Operating) (trip : Option CoreTrip) → is_busy operating ≡ true → HasTrip operating trip
    → trip ≢ None
trip-there Off trip busy has = absurd has
trip-there ForHire trip busy has = absurd cc
trip-there Hired trip busy has = has
trip-there Stopped trip busy has = has

there-trip : (operating : Operating) (trip : Option CoreTrip) → is_busy operating ≡ true → trip ≢ None
    → HasTrip operating trip
there-trip Off trip busy some = absurd cc
there-trip ForHire trip busy some = absurd cc
there-trip Hired trip busy some = some
there-trip Stopped trip busy some = some

-- a stage that takes a trip to another operating position
pub moves-stage : {p : TableParts} {seal : Seal} {inside old : CoreData} {acts : List Act} (to : Operating)
    → inside ≡ old → IsReadyForKey p old acts → (is_busy inside.operating ≡ true) × (is_busy to ≡ true)
    → CommitsNothing p seal old (record inside { operating = to }) acts acts
    (λ s m. quiet (record m { operating = to }))
moves-stage {p} {seal} {inside} {old} {acts} to view ready busy =
    let amid : IsAmidEvent p inside = subst (IsAmidEvent p) (sym view) ready.lawful in
    let there = there-trip to inside.trip busy.1 (trip-there inside.operating inside.trip busy.0 amid.on) in
    record {
      lawful = search rules;
      few = few-none 1 acts ready.room;
      number = ap (λ (c : CoreData). c.number) view;
      ranges = λ before. before;
      follows = λ s m setting e. quiet-follows s (record inside { operating = to }) acts (record m { operating = to })
          (ap (λ (c : CoreData). record c { operating = to }) (view ∙ e));
    }

-- the steps of a key
pub steps-at : {inside old : CoreData} (n k : ℕ) (on : Operating) → inside ≡ old → inside.operating ≡ on
    → n ≤ k + pressing_steps on → n ≤ k + pressing_steps old.operating
steps-at {inside} {old} n k on view at few =
    subst (λ (o : Operating). n ≤ k + pressing_steps o) (sym at ∙ ap (λ (c : CoreData). c.operating) view) few

pub steps-none : (k : ℕ) (on : Operating) → k ≤ k + pressing_steps on
steps-none k on = omega arith

some-steps : (on : Operating) → 12 ≤ pressing_steps on
some-steps Off = omega arith
some-steps ForHire = omega arith
some-steps Hired = omega arith
some-steps Stopped = omega arith

pub steps-twelve : (n k : ℕ) (on : Operating) → n ≤ k + 12 → n ≤ k + pressing_steps on
steps-twelve n k on few = omega (arith, some-steps on)

pub steps-one : (n k : ℕ) (on : Operating) → n ≤ k + 1 → n ≤ k + pressing_steps on
steps-one n k on one = omega (arith, some-steps on)

-- a stage that refuses
pub refuses-stage : {p : TableParts} {seal : Seal} {old : CoreData} {before acts : List Act} (why : Why) (stage : Stage)
    → IsReadyForKey p old before → acts ≡ before ++ Refuse why ∷ []
    → ((s : Setting) (m : Meter) → IsSettingOf s p seal → stage s m ≡ refused why m)
    → CommitsNothing p seal old old before acts stage
refuses-stage {p} {seal} {old} {before} {acts} why stage ready done is =
    let one : length acts ≤ 1 = rw ready.room at (few-more before acts (Refuse why) done) in
    record {
      lawful = ready.lawful;
      few = one;
      number = refl;
      ranges = lawful-more p old.number before acts (Refuse why) done tt;
      follows = λ s m setting e. subst (λ (o : Outcome). ComesToOutcome s old before acts o) (sym (is s m setting))
          (record { state = e; done = done });
    }

-- a stage that is another one under the tables and the seal
pub commits-as : {p : TableParts} {seal : Seal} {old new : CoreData} {before acts : List Act} (first stage : Stage)
    → CommitsNothing p seal old new before acts first
    → ((s : Setting) (m : Meter) → IsSettingOf s p seal → stage s m ≡ first s m)
    → CommitsNothing p seal old new before acts stage
commits-as {p} {seal} {old} {new} {before} {acts} first stage x is = record {
  lawful = x.lawful;
  few = x.few;
  number = x.number;
  ranges = x.ranges;
  follows = λ s m setting e. subst (λ (o : Outcome). ComesToOutcome s new before acts o) (sym (is s m setting))
      (x.follows s m setting e);
}

pub steps-same : (n k : ℕ) → n ≡ k + 1 → n ≤ k + 1
steps-same n k is = omega arith

-- the key that waits is taken, and acts
pub unlatched-ready : {p : TableParts} {inside old : CoreData} {acts : List Act} → inside ≡ old
    → IsReadyForKey p old acts → IsReadyForKey p (record inside { latch = None }) acts
unlatched-ready {p} view ready =
    record { lawful = powered-unlatched (subst (IsAmidEvent p) (sym view) ready.lawful); room = ready.room }

pub pressed-closes : {p : TableParts} {seal : Seal} {inside old new : CoreData} {before acts : List Act} (key : Key)
    → inside ≡ old → inside.latch ≡ Some key
    → MayClose p seal 2 (record inside { latch = None }) new before acts (λ s m. key_in s key m.operating m)
    → MayClose p seal 2 old new before acts (λ s m. key_pressed s m)
pressed-closes {p} {seal} {inside} {old} {new} {before} {acts} key view waits x = record {
  lawful = x.lawful;
  few = x.few;
  roam = subst (λ (c : CoreData). ((length acts ≤ 1) × (new.number ≡ c.number)) ⊎ (new.roam ≡ 0)) view x.roam;
  ranges = subst (λ (c : CoreData). StayLawful p c.number before acts) view x.ranges;
  follows = λ s m setting e.
      let latch : m.latch ≡ Some key = sym (ap (λ (c : CoreData). c.latch) (view ∙ e)) ∙ waits in
      subst (λ (o : Option Key). ComesToOutcome s new before acts (latch_pressed s o m)) (sym latch)
      (x.follows s (record m { latch = None }) setting (ap (λ (c : CoreData). record c { latch = None }) (view ∙ e)));
}

-- a supplement that may be had once more is added
extra-some : (n : ℕ) (supplement : Supplement) (m : Meter) (t : MeterTrip) → times n t.extras < supplement.max
    → extra_added_to n supplement (Some t) m ≡ quiet (record m { trip = Some (with_extra n t) })
extra-some n supplement m t few = grind (arith, common_steps)

pub extra-more : (n : ℕ) (supplement : Supplement) (m : Meter) (t : MeterTrip) → m.trip ≡ Some t
    → times n t.extras < supplement.max → extra_added_to n supplement m.trip m ≡ quiet (record m {
      trip = Some
          (with_extra n t);
    })
extra-more n supplement m t has few = ap (λ (o : Option MeterTrip). extra_added_to n supplement o m) has
    ∙ extra-some n supplement m t few
