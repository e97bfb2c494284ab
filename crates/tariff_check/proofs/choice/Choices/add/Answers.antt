use Rattle.std.proofs.{Common.{[], ◌++◌, ◌∙◌, ◌∷◌, ap, sym}, lemmas.{List.{append-nil}, Result.{on_ok_weaker}}}
use Rattle.tariff_check.specs.{Common.{Choice}, Kinds.{RateNumbers}}
use Rattle.tariff_check.proofs.choice.Choices.add.Goals as goal

pub returns-in-Rate : goal.returns-in-Rate
returns-in-Rate c =
    let kept = c.args.self.now in
    let chosen = c.chosen.ensures ∙ ap (λ (r : RateNumbers).
    record { value = r; line = c.args.line.now.line; place = c.args.place }) c.numbers_of.ensures in
    rw c.in-Rate.is (on_ok_weaker c.put.result (λ put. (
      put ∙ ap (λ (x : Choice RateNumbers). kept.rates.items ++ x ∷ []) chosen,
      sym (append-nil kept.initials.items),
      sym (append-nil kept.minimums.items),
    )) c.put.ensures)
