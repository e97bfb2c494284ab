use Rattle.seal_record.proofs.FormLaws.{dates_by_their_form, modes_by_their_words, pairs_by_their_form}
use Rattle.seal_record.proofs.form_laws.values_are_read_by_their_forms.Goals as goal

pub returns : goal.returns
returns c = record { modes = modes_by_their_words; pairs = pairs_by_their_form; dates = dates_by_their_form }
