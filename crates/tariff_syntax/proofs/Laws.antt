-- The laws of tariffs' texts, one for each clause of the public laws.
use Rattle.{std.proofs.Common.{ℕ, List, Ok}, tariff_syntax.specs.Common.{IsWritable, Tariff, tree_of}}
use Rattle.tariff_syntax.{specs.Reads.{IsParsed}, proofs.Ranges.{numbers_of_text}}
pub use Rattle.tariff_syntax.proofs.BadLines.{first_named as bad_lines_have_no_form-first}
pub use Rattle.tariff_syntax.proofs.BadLines.{formless_are_named as bad_lines_have_no_form-each}
pub use Rattle.tariff_syntax.proofs.BadLines.{named_are_formless as bad_lines_have_no_form-named}
pub use Rattle.tariff_syntax.proofs.BadLines.{named_in_order as bad_lines_have_no_form-in_order}
pub use Rattle.tariff_syntax.proofs.BadLines.{none_named as bad_lines_have_no_form-none}
pub use Rattle.tariff_syntax.proofs.NumberLaws.{numbers_rise as lines_rise_in_number}
pub use Rattle.tariff_syntax.proofs.ParenthesesLaws.{parentheses_stay as parentheses_are_needed}
pub use Rattle.tariff_syntax.proofs.Ranges.{numbers_of_text as texts_have_their_numbers}
pub use Rattle.tariff_syntax.proofs.ReadsLaws.{bad_one as texts_read_as_one_tariff-one_line}
pub use Rattle.tariff_syntax.proofs.ReadsLaws.{first_bad_exactly as texts_are_parsed_as_they_read-bad_line}
pub use Rattle.tariff_syntax.proofs.ReadsLaws.{reads_exactly as texts_are_parsed_as_they_read-tariff}
pub use Rattle.tariff_syntax.proofs.ReadsLaws.{reads_not_bad as texts_read_as_one_tariff-not_both}
pub use Rattle.tariff_syntax.proofs.ReadsLaws.{reads_one as texts_read_as_one_tariff-one_tariff}
pub use Rattle.tariff_syntax.proofs.ReadsLaws.{reads_or_bad as texts_read_as_one_tariff-either}
pub use Rattle.tariff_syntax.proofs.ShownLines.{printed_reads_back as printed_forms_read_back}
pub use Rattle.tariff_syntax.proofs.TextLaws.{lines_are as texts_are_cut_at_their_line_feeds}

-- the numbers of a tariff that was read are such as a text can have
pub parsed_is_writable : (text : List ℕ) (t : Tariff) → IsParsed text (Ok t) → IsWritable (tree_of t)
parsed_is_writable text t h = numbers_of_text text (tree_of t) h.1
