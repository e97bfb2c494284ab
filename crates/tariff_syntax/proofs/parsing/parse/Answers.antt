use Rattle.tariff_syntax.proofs.ReadsLaws.{parsed_is}
use Rattle.tariff_syntax.proofs.parsing.parse.Goals as goal

pub returns-clause-answer : goal.returns-clause-answer
returns-clause-answer c = parsed_is c.args.text.now c.parse_text.result c.parse_text.ensures.answer
