use Rattle.tariff_commands.proofs.FormLaws.{form_again, form_reads}
use Rattle.tariff_commands.proofs.form_laws.forms_are_their_own_form.Goals as goal

pub returns-clause-tariff : goal.returns-clause-tariff
returns-clause-tariff c = form_reads

pub returns-clause-again : goal.returns-clause-again
returns-clause-again c = form_again
