-- The rows of a report, one after another.
use Rattle.std.{specs.Prelude.{slice_get}, proofs.lemmas.{Grind.{flat_map-append}, List.{append-nil}}}
use Rattle.std.proofs.Common.{[], ℕ, ◌++◌, ◌+◌, ◌∙◌, ◌∷◌, ◌≡◌, List, add-one, ap, flat_map, sym}
use Rattle.csv.specs.Writing.{default_writer, row_text}
use Rattle.verify_bench.specs.{Common.{Expected, Reading}, Report.{report_header, row_at, rows_text, rows_to}}

-- what comes of one element more
flat_map-snoc : (f : List (List ℕ) → List ℕ) (rows : List (List (List ℕ))) (row : List (List ℕ))
    → flat_map f (rows ++ row ∷ []) ≡ flat_map f rows ++ f row
flat_map-snoc f rows row =
    flat_map-append f rows (row ∷ []) ∙ ap (λ (text : List ℕ). flat_map f rows ++ text) (append-nil (f row))

-- the text of the header alone
pub text_of_none : (step decimals : ℕ) (expected : List Expected) (readings : List Reading)
    → [] ++ row_text default_writer report_header ≡ rows_text (rows_to step decimals expected readings 0)
unfolding rows_to
text_of_none step decimals expected readings = sym (append-nil (row_text default_writer report_header))

-- the text of one place more
pub text_of_more : (step decimals : ℕ) (expected : List Expected) (readings : List Reading) (places : ℕ)
    → rows_text (rows_to step decimals expected readings places) ++ row_text default_writer
    (row_at step decimals (places + 1) (slice_get expected places) (slice_get readings places))
    ≡ rows_text (rows_to step decimals expected readings (places + 1))
unfolding rows_to
text_of_more step decimals expected readings places =
    sym (ap rows_text (ap (rows_to step decimals expected readings) (add-one places))
    ∙ flat_map-snoc (row_text default_writer) (rows_to step decimals expected readings places)
    (row_at step decimals (places + 1) (slice_get expected places) (slice_get readings places)))
