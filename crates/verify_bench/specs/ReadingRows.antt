-- Rules: the rows of a text of readings, as csv reads them.
use Rattle.std.specs.Prelude.{[], ℕ, ◌∷◌, List, codes}
use Rattle.csv.specs.{Reading.{AreRecords, Reached, default_config, strip_bom}, declared.parser.State.{State}}
use Rattle.csv.specs.declared.parser.State.TheVariants as states

-- a row is the list of its fields
abbrev pub Row : Type 0
Row = List (List ℕ)

-- rows are all the rows of a text if csv reads them to the text's end, with its default settings, behind a byte
-- order mark if there is one
abbrev pub AreRows : (text : List ℕ) → List Row → Type 0
AreRows text rows = AreRecords default_config states.StartRecord (strip_bom text) rows

-- rows are the first rows of a text if csv reads them from its beginning, and some state and rest are left
abbrev pub AreFirstRows : (text : List ℕ) → List Row → Type 0
AreFirstRows text rows =
    (state : State) × (rest : List ℕ) × Reached default_config states.StartRecord (strip_bom text) rows state rest

-- the header, which is the first row of a text of readings, names its three columns
abbrev pub header : Row
header = codes "fare" ∷ codes "distance" ∷ codes "time" ∷ []

-- a text of readings has at most 1,048,576 bytes
abbrev pub readings_limit : ℕ
readings_limit = 1048576
