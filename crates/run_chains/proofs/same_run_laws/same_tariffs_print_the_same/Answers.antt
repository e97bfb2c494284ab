use Rattle.run_chains.proofs.{SameStarts.{alike_begin, same_answers, same_goes_on}, SameTexts.{alike-deed}}
use Rattle.run_chains.proofs.same_run_laws.same_tariffs_print_the_same.Goals as goal

pub returns-clause-begins : goal.returns-clause-begins
returns-clause-begins c = alike_begin

pub returns-clause-answers : goal.returns-clause-answers
returns-clause-answers c = same_answers

pub returns-clause-goes_on : goal.returns-clause-goes_on
returns-clause-goes_on c = same_goes_on

pub returns-clause-texts : goal.returns-clause-texts
returns-clause-texts c = λ a b deed alike. alike-deed a.seal b.seal deed alike.same.seal
