use Rattle.std.{specs.Prelude.{option_to_list}, proofs.Common.{◌∙◌, ◌≡◌, ap, refl, subst, sym, true}}
use Rattle.verify_bench.specs.Bench.{BenchStands}
use Rattle.verify_bench.specs.{Common.{Teller, step}, Settings.{setting_under}, TripExplanations.{hired_at}}
use Rattle.verify_bench.{specs.Story.{is_in_trip, since_behind}, proofs.EventActs.{shows_step, whys_step}}
use Rattle.meter_model.proofs.Laws as states
use Rattle.verify_bench.proofs.teller.Teller.happen.Goals as goal

pub returns-clause-happens : goal.returns-clause-happens
returns-clause-happens c = λ m hired telling stands shown since kept.
    let s = setting_under c.args.checked.now c.args.params.now in
    let event = c.args.event in
    let o = step s event m in
    let next = hired_at s event m hired in
    let before = c.before-before.ensures in
    let moves = c.in_ok-event.ensures.moves m hired stands in
    let operating = before.operating ∙ stands.operating in
    let latch = before.latch ∙ stands.latch in
    let whys = λ (there : is_in_trip o.next.operating ≡ true).
    whys_step s event m there ∙ ap option_to_list (sym (before.refusal c.args.params.now m hired stands)) in
    let own = c.own.ensures s m o hired telling operating latch whys (before.reading s m hired telling stands since)
    moves.state (states.the_store_keeps_the_trip-step s event m kept) in
    let refusal = c.refused.ensures o moves.state.operating whys in
    let shows = shows_step s event m in
    record {
      meter = subst (λ (t : Teller). BenchStands s next t.meter o.next) (sym c.look.ensures.others) moves.state;
      shown = c.look.ensures.shown m o next operating shown shows moves.state;
      since = ap (λ (t : Teller). t.since) c.look.ensures.others
          ∙ (before.since s m hired stands ∙ ap (since_behind event m) since);
      told = rw (own, refusal) refl;
      displays = c.look.ensures.told m o next operating shown shows moves.state;
      found = rw c.requires.none at moves.found;
    }
