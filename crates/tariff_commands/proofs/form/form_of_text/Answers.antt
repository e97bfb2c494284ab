use Rattle.{std.proofs.Common.{ap, subst, sym}, tariff_commands.proofs.Forms.{form_unparsed, tree_parsed_in}}
use Rattle.tariff_commands.specs.{Common.{Answer, IsMade}, Form.{form_answer}}
use Rattle.tariff_commands.proofs.form.form_of_text.Goals as goal

pub returns-in-Ok : goal.returns-in-Ok
returns-in-Ok c =
    subst (λ (a : Answer). IsMade a c.form_of.result)
    (sym (ap form_answer (tree_parsed_in c.args.text.now c.in-Ok.tariff c.in-Ok.ensures.answer))) c.form_of.ensures

pub returns-in-Err : goal.returns-in-Err
returns-in-Err c =
    rw c.unparsed.ensures (form_unparsed c.args.text.now c.in-Err.fault c.in-Err.ensures.answer)
