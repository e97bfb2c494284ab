use Rattle.std.proofs.Common.{◌∙◌, ap, sym}
use Rattle.meter_states.{specs.{Common.{Show, is_shown}, Core.{CoreData}}, proofs.Displays.{shown_anew, shown_still}}
use Rattle.meter_states.proofs.Pushes.{lawful-more}
use Rattle.meter_states.proofs.meter_state.State.show.Goals as goal

pub returns-then-not-is_shown-clause-ranges : goal.returns-then-not-is_shown-clause-ranges
returns-then-not-is_shown-clause-ranges c = λ number.
    lawful-more c.args.tables.now number c.args.acts.now.items c.push.new.self.items (Show c.display-display.result)
    c.push.ensures.items c.display-display.ensures.range

pub returns-then-not-is_shown-clause-follows : goal.returns-then-not-is_shown-clause-follows
returns-then-not-is_shown-clause-follows c = λ seal s m is stands.
    shown_anew s m _ c.display-display.result c.args.acts.now.items c.push.new.self.items (c.self.view_is ∙ stands)
    (c.display-display.ensures.value s m is.tariff stands) (sym c.is_shown.ensures ∙ c.if-not-is_shown.true)
    c.push.ensures.items

pub returns-else-not-is_shown-clause-follows : goal.returns-else-not-is_shown-clause-follows
returns-else-not-is_shown-clause-follows c = λ seal s m is stands.
    shown_still s m c.args.self.now c.display-display.result c.args.acts.now.items stands
    (c.display-display.ensures.value s m is.tariff stands)
    (ap (λ (p : CoreData). is_shown p.shown c.display-display.result) (sym c.self.view_is)
    ∙ sym c.is_shown.ensures ∙ c.if-not-is_shown.false)
