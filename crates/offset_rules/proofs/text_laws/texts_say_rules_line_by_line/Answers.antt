use Rattle.offset_rules.proofs.{PlainTexts.{one_answer, rules_are_lawful}, TextsRead.{texts_say_rules}}
use Rattle.offset_rules.proofs.text_laws.texts_say_rules_line_by_line.Goals as goal

pub returns : goal.returns
returns c = record { answers = texts_say_rules; one = one_answer; lawful = rules_are_lawful }
