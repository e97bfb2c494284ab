use Rattle.std.proofs.{Common.{◌-◌, arith, refl}, lemmas.Grind.{common_steps}}
use Rattle.tariff_syntax.specs.{Grammar.{chain_on, factor_first}, Joints.{joined_by, word_of}, TokenReading.{tokens_of}}
use Rattle.tariff_syntax.proofs.GrammarSteps.{chain_ends, chain_goes, chain_none, factor_step, none_deep, then_builds}
use Rattle.tariff_syntax.proofs.conditions.+conditions.Goals as goal

pub factor-returns-then-depth-eq0 : goal.factor-returns-then-depth-eq0
factor-returns-then-depth-eq0 t c = none_deep c.args.depth (tokens_of c.args.line.now) (omega arith)

pub factor-returns : goal.factor-returns
factor-returns t c =
    rw (factor_step c.args.depth (c.args.depth - 1) (tokens_of c.args.line.now) (omega arith)) c.factor_above.ensures

pub more_parts-returns-then-most-eq0 : goal.more_parts-returns-then-most-eq0
more_parts-returns-then-most-eq0 t c = λ x h. chain_none (word_of c.args.joint)
    (joined_by c.args.joint (factor_first c.args.depth)) c.args.most x (tokens_of c.args.line.now) (omega arith)

pub more_parts-returns-in_default : goal.more_parts-returns-in_default
more_parts-returns-in_default t c =
    λ x h. rw (chain_ends (word_of c.args.joint) (joined_by c.args.joint (factor_first c.args.depth)) c.args.most x
    (tokens_of c.args.line.now) (omega arith) (rw c.word_of.ensures at c.in_default.ensures)) (h, refl)

pub more_parts-returns-in_err-joined : goal.more_parts-returns-in_err-joined
more_parts-returns-in_err-joined t c = λ x h.
    let goes = chain_goes (word_of c.args.joint) (joined_by c.args.joint (factor_first c.args.depth)) c.args.most
    (c.args.most - 1) x (tokens_of c.args.line.now) (tokens_of c.in-Some.rest.now) (omega arith)
    (rw c.word_of.ensures at c.in-Some.ensures) in
    rw (c.from_residual.ensures, goes, c.in_err-joined.ensures x h) refl

pub more_parts-returns : goal.more_parts-returns
more_parts-returns t c = λ x h.
    let goes = chain_goes (word_of c.args.joint) (joined_by c.args.joint (factor_first c.args.depth)) c.args.most
    (c.args.most - 1) x (tokens_of c.args.line.now) (tokens_of c.in-Some.rest.now) (omega arith)
    (rw c.word_of.ensures at c.in-Some.ensures) in
    rw goes (then_builds (λ y. (y.0, tokens_of y.1.now)) c.more_parts.result c.in_ok-joined.joined (tokens_of
    c.in_ok-joined.rest.now) (joined_by c.args.joint (factor_first c.args.depth) x (tokens_of c.in-Some.rest.now))
    (λ y. chain_on (word_of c.args.joint) (joined_by c.args.joint (factor_first c.args.depth))
    (c.args.most - 1) y.0 y.1) (c.in_ok-joined.ensures x h) c.more_parts.ensures)

pub joined_part-returns-in_ok-right-in-Or : goal.joined_part-returns-in_ok-right-in-Or
joined_part-returns-in_ok-right-in-Or t c = grind (arith, common_steps)

pub joined_part-returns-in_ok-right-in-And : goal.joined_part-returns-in_ok-right-in-And
joined_part-returns-in_ok-right-in-And t c = grind (arith, common_steps)

pub factor_above-returns-in_ok-atom-in-Word : goal.factor_above-returns-in_ok-atom-in-Word
factor_above-returns-in_ok-atom-in-Word t c = grind (arith, common_steps)

pub factor_above-returns-in_err-atom-in-Word : goal.factor_above-returns-in_err-atom-in-Word
factor_above-returns-in_err-atom-in-Word t c = grind (arith, common_steps)

pub in_parentheses-returns-in_err-rest : goal.in_parentheses-returns-in_err-rest
in_parentheses-returns-in_err-rest t c = grind (arith, common_steps)

pub factor_above-returns-then-is_text-2 : goal.factor_above-returns-then-is_text-2
factor_above-returns-then-is_text-2 t c = grind (arith, common_steps)

pub factor_above-returns-then-is_text : goal.factor_above-returns-then-is_text
factor_above-returns-then-is_text t c = grind (arith, common_steps)

pub joined_part-returns-in_err-right-in-And : goal.joined_part-returns-in_err-right-in-And
joined_part-returns-in_err-right-in-And t c = grind (arith, common_steps)
