-- The printed form of a text's tariff.
use Rattle.std.proofs.{Common.{ℕ, ◌<◌, ◌≡◌, Err, List, Ok, ap, inl, inr, length, refl}, lemmas.Bool.{le-ltb, lt-ltb}}
use Rattle.{tariff_tree.specs.declared.tariff.Tariff.{Tariff}, tariff_commands.specs.FormSteps.{ended_unparsed}}
use Rattle.tariff_syntax.specs.{Reads.{IsParsed}, declared.parsing.ParseFault.{ParseFault}}
use Rattle.tariff_syntax.proofs.Laws.{texts_are_parsed_as_they_read-bad_line, texts_are_parsed_as_they_read-tariff}
use Rattle.tariff_commands.specs.{Common.{IsMade, Syntax, TooLong, tree_of}, Form.{form_answer, tree_in}}
use Rattle.tariff_syntax.specs.declared.parsing.ParseFault.TheVariants as faults

-- a text that was parsed reads as its tariff, or is too long, or has a first bad line
pub tree_parsed_in : (text : List ℕ) (t : Tariff) → IsParsed text (Ok t) → tree_in text ≡ Ok (tree_of t)
tree_parsed_in text t h =
    rw (le-ltb 65536 (length text) h.0, (texts_are_parsed_as_they_read-tariff text (tree_of t)).0 h.1) refl

pub long_form : (text : List ℕ) → 65536 < length text → tree_in text ≡ Err TooLong
long_form text long = rw (lt-ltb 65536 (length text) long) refl

-- so is what is made of it
pub form_unparsed : (text : List ℕ) (fault : ParseFault) → IsParsed text (Err fault)
    → IsMade (form_answer (tree_in text)) (Err (ended_unparsed fault))
form_unparsed text faults.TooLong h = inr (ap form_answer (long_form text h), refl)
form_unparsed text (faults.Syntax line) h = inr (ap form_answer e, refl)
  where
    e : tree_in text ≡ Err (Syntax line)
    e = rw (le-ltb 65536 (length text) h.0, (texts_are_parsed_as_they_read-bad_line text line).0 h.1) refl
form_unparsed text faults.NoMemory h = inl refl
