-- A form is its own form.
use Rattle.std.{specs.Prelude.{Bool, codes, false, if◌then◌else◌, nat_lt, true}, proofs.lemmas.Bool.{le-ltb}}
use Rattle.std.proofs.Common.{[], ℕ, ◌+◌, ◌∙◌, ◌∷◌, ◌≡◌, ◌≤◌, Err, List, Ok, Result, ap, length, refl, subst}
use Rattle.{tariff_tree.specs.Tree.{Line}, tariff_syntax.specs.Printed.{entry_line, lines_text, number_line}}
use Rattle.tariff_syntax.specs.{Parsed.{tree_parsed}, Renumbered.{renumbered, renumbered_from}}
use Rattle.tariff_syntax.proofs.Laws.{printed_forms_read_back, texts_are_parsed_as_they_read-tariff}
use Rattle.tariff_commands.specs.Common.{Answer, Refusal, TooLong, Tree, printed_form, shows}
use Rattle.tariff_commands.specs.Form.{form_answer, or_syntax, tree_in}

-- the numbers of lines aren't printed
lines_anew : (decimals number : ℕ) (lines : List Line)
    → lines_text decimals (renumbered_from number lines) ≡ lines_text decimals lines
lines_anew decimals number [] = refl
lines_anew decimals number (l ∷ lines) = ap (entry_line decimals l.entry) (lines_anew decimals (number + 1) lines)

printed_anew : (t : Tree) → printed_form (renumbered t) ≡ printed_form t
printed_anew t = ap (number_line (codes "decimals ") t.decimals) (lines_anew t.decimals 2 t.lines)

-- the tariff of a text was parsed
parsed_of : (r : Result Tree ℕ) (t : Tree) → or_syntax r ≡ Ok t → r ≡ Ok t
parsed_of (Ok u) t e = cc
parsed_of (Err line) t e = absurd cc

tree_of_text : (text : List ℕ) (t : Tree) → tree_in text ≡ Ok t → tree_parsed text ≡ Ok t
tree_of_text text t e = by (nat_lt 65536 (length text)) e
  where
    by : (b : Bool) → (if b then Err TooLong else or_syntax (tree_parsed text)) ≡ Ok t → tree_parsed text ≡ Ok t
    by true e = absurd cc
    by false e = parsed_of (tree_parsed text) t e

-- the form of a tariff reads as the tariff, but for the numbers of its lines
pub form_reads : (text : List ℕ) (t : Tree) → tree_in text ≡ Ok t → length (printed_form t) ≤ 65536
    → tree_in (printed_form t) ≡ Ok (renumbered t)
form_reads text t e few =
    let reads = (texts_are_parsed_as_they_read-tariff text t).1 (tree_of_text text t e) in
    rw (
      le-ltb 65536 (length (printed_form t)) few,
      (texts_are_parsed_as_they_read-tariff (printed_form t) (renumbered t)).0 (printed_forms_read_back text t reads),
    ) refl

-- a form that is shown is that of a tariff
other_status : (n : ℕ) → n ≡ 2 → n ≡ 0 → ⊥
other_status n e f = absurd cc

shown_of : (r : Result Tree Refusal) (form : List ℕ) → form_answer r ≡ shows form
    → (t : Tree) × (r ≡ Ok t) × (printed_form t ≡ form)
shown_of (Ok t) form e = (t, refl, ap (λ (a : Answer). a.shown) e)
shown_of (Err why) form e =
    absurd (other_status (form_answer (Err why)).status refl (ap (λ (a : Answer). a.status) e))

pub form_again : (text form : List ℕ) → form_answer (tree_in text) ≡ shows form → length form ≤ 65536
    → form_answer (tree_in form) ≡ shows form
form_again text form e few =
    let of = shown_of (tree_in text) form e in
    subst (λ (x : List ℕ). length x ≤ 65536 → form_answer (tree_in x) ≡ shows x) of.2
    (λ short. ap form_answer (form_reads text of.0 of.1 short) ∙ ap shows (printed_anew of.0)) few
