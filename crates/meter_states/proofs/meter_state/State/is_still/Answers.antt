use Rattle.std.proofs.{Common.{◌∙◌, ◌≡◌, Bool, ap, false, sym, true}, lemmas.Bool.{eq-eqb, eqb-true}}
use Rattle.meter_states.specs.{Common.{is_shown}, Core.{CoreData}}
use Rattle.meter_states.proofs.{Displays.{shown_last}, meter_state.State.is_still.Goals.{then-take-eq0}}
use Rattle.meter_states.proofs.meter_state.State.is_still.Goals.{else-self-second, else-take-eq0}
use Rattle.meter_states.proofs.meter_state.State.is_still.Goals.{then-self-second+in-None, then-self-second+in_default}
use Rattle.meter_states.proofs.meter_state.State.is_still.Goals as goal

never : (b : Bool) → b ≡ true → b ≡ false → ⊥
never b holds fails = cc

pub returns-then-matches : goal.returns-then-matches
returns-then-matches c =
    let display = c.display-display.result in
    let last = shown_last c.args.tables.now c.args.self.now display c.display-display.ensures.exact in
    let tested = c.is_shown.ensures ∙ ap (λ (p : CoreData). is_shown p.shown display) c.self.view_is in (
      λ holds. elim c.if-self-second.branch [
        | then-self-second+in-None w ↦ elim c.if-take-eq0.branch [
          | then-take-eq0 v ↦ record {
            latch = sym (ap (λ (p : CoreData). p.latch) c.self.view_is) ∙ w.in-None.is;
            gate = sym (ap (λ (p : CoreData). p.gate) c.self.view_is) ∙ sym c.take.ensures.count
                ∙ v.if-take-eq0.true;
            began = sym (ap (λ (p : CoreData). p.began) c.self.view_is)
                ∙ eqb-true c.self.inside.began v.second.result (sym v.value-is ∙ w.if-self-second.true)
                ∙ v.second.ensures ∙ ap (λ (p : CoreData). p.clock) c.self.view_is;
            shown = last.0 (sym tested ∙ holds);
          }
          | else-take-eq0 v ↦
              absurd (v.if-take-eq0.false (eqb-true c.take.result 0 (sym v.value-is ∙ w.if-self-second.true)))
        ]
        | then-self-second+in_default w ↦ absurd (never c.if-self-second.value c.if-matches.true w.value-is)
        | else-self-second w ↦
            absurd (never c.if-take-eq0.value (sym w.value-is ∙ c.if-matches.true) w.if-self-second.false)
      ],
      λ still. tested ∙ last.1 still.shown,
    )

pub returns-else-matches : goal.returns-else-matches
returns-else-matches c = (
  λ holds. absurd (never c.if-self-second.value holds c.if-matches.false),
  λ still. elim c.if-self-second.branch [
    | then-self-second+in-None w ↦ w.value-is
    | then-self-second+in_default w ↦
        absurd (w.in_default.not-None (ap (λ (p : CoreData). p.latch) c.self.view_is ∙ still.latch))
    | else-self-second w ↦ absurd (elim c.if-take-eq0.branch [
      | then-take-eq0 v ↦
          let same = ap (λ (p : CoreData). p.began) c.self.view_is ∙ still.began
          ∙ sym (ap (λ (p : CoreData). p.clock) c.self.view_is) ∙ sym v.second.ensures in
          never c.if-take-eq0.value (v.value-is ∙ eq-eqb c.self.inside.began v.second.result same)
          w.if-self-second.false
      | else-take-eq0 v ↦
          v.if-take-eq0.false (c.take.ensures.count ∙ ap (λ (p : CoreData). p.gate) c.self.view_is ∙ still.gate)
    ])
  ],
)
