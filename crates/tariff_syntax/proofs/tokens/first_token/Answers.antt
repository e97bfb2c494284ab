use Rattle.tariff_syntax.{specs.Token.{token_of}, proofs.TokenOrder.{first_is}}
use Rattle.tariff_syntax.proofs.tokens.first_token.Goals as goal

pub returns : goal.returns
returns c =
    first_is (λ x. (token_of x.0, x.1.now)) c.args.line.now c.token_after_blanks.result c.token_after_blanks.ensures
