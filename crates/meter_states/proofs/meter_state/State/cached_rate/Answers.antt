use Rattle.std.proofs.{Common.{ℕ, ◌∙◌, ◌≡◌, ap, arith, subst, sym}, lemmas.Grind.{common_steps, elements}}
use Rattle.{std.proofs.lemmas.Option.{IfSome_then}, meter_states.specs.{Common.{weights_in_force}, Core.{CoreData}}}
use Rattle.meter_states.specs.Common.{Context, IsInRangeFor, IsNear, SoundTariff, context_of, context_on, local_at}
use Rattle.meter_states.proofs.meter_state.State.cached_rate.Goals as goal

pub returns : goal.returns
returns c = record {
  fit = IfSome_then c.cached_rate.result c.cached_rate.ensures.fit
      (λ lasting fit. fit c.args.tables.now c.requires.lasting);
  range = IfSome_then c.cached_rate.result c.cached_rate.ensures.fit (λ lasting fit seal s m cache is e.
      let began : c.in_ok-local.local.second ≡ m.began =
      c.in_ok-local.ensures.second ∙ ap (λ (p : CoreData). p.began) (c.self.view_is ∙ e) in
      let same : c.context_on-x.result ≡ context_of s m = c.context_on-x.ensures.value seal s m
      (cache.local _ c.in_ok-local.ensures.kept) is e ∙ ap (λ (second : ℕ). context_on s
      (local_at s second) m) began in
      subst (IsInRangeFor c.args.tables.now) same (c.context_on-x.ensures.range seal
      (cache.local _ c.in_ok-local.ensures.kept)));
  near = IfSome_then c.cached_rate.result c.cached_rate.ensures.near
      (λ lasting near seal s m y cache is e y_in is_near.
      let began : c.in_ok-local.local.second ≡ m.began =
      c.in_ok-local.ensures.second ∙ ap (λ (p : CoreData). p.began) (c.self.view_is ∙ e) in
      let same : c.context_on-x.result ≡ context_of s m = c.context_on-x.ensures.value seal s m
      (cache.local _ c.in_ok-local.ensures.kept) is e ∙ ap (λ (second : ℕ). context_on s
      (local_at s second) m) began in
      near c.args.tables.now is.tariff.tree y c.requires.lasting is.tariff.compiled y_in (subst (λ
      (x : Context). IsNear lasting.further lasting.longer x y) (sym same) is_near)
      ∙ ap (λ (t : SoundTariff). weights_in_force t c.args.tables.now.constant y) (sym is.tariff.parts));
  lasts = grind (arith, common_steps) steps 4000000;
  none = grind (arith, elements) steps 2000000;
}

pub returns-in_err-local-clause-none : goal.returns-in_err-local-clause-none
returns-in_err-local-clause-none c = grind (arith, elements) steps 2000000
