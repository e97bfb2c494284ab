use Rattle.std.proofs.{Common.{[], ℕ, ◌++◌, ◌∙◌, ◌∷◌, List, ap, append_assoc, arith}, lemmas.Grind.{common_steps}}
use Rattle.tariff_syntax.specs.{Common.{condition_of}, PrintedCondition.{condition_at, whole}}
use Rattle.tariff_syntax.proofs.spelling.+spelling.Goals as goal

pub push_closed-returns : goal.push_closed-returns
push_closed-returns t c = λ rest.
    let old = c.args.text.now.items in
    let closed = condition_at whole (condition_of c.args.cond.now) (41 ∷ rest) in
    ap (λ (text : List ℕ). text ++ rest) c.in_ok-push-2.ensures.items
    ∙ append_assoc _ (41 ∷ []) rest
    ∙ c.in_ok-push_condition.ensures (41 ∷ rest)
    ∙ ap (λ (text : List ℕ). text ++ closed) c.in_ok-push.ensures.items
    ∙ append_assoc old (40 ∷ []) closed

pub push_condition-returns-in_ok-extend_from_slice-in-And : goal.push_condition-returns-in_ok-extend_from_slice-in-And
push_condition-returns-in_ok-extend_from_slice-in-And t c = grind (arith, common_steps)

pub push_condition-returns-in_ok-extend_from_slice-in-Or : goal.push_condition-returns-in_ok-extend_from_slice-in-Or
push_condition-returns-in_ok-extend_from_slice-in-Or t c = grind (arith, common_steps)

pub push_condition-returns-in_ok-extend_from_slice-in-Not : goal.push_condition-returns-in_ok-extend_from_slice-in-Not
push_condition-returns-in_ok-extend_from_slice-in-Not t c = grind (arith, common_steps)

pub push_condition-returns-in-Holiday : goal.push_condition-returns-in-Holiday
push_condition-returns-in-Holiday t c = grind (arith, common_steps)
