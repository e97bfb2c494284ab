-- By law: the state that bytes are read as. States in their ranges are bodies of slots. The law
-- states_are_read_by_their_table says which state bytes are read as.
use Rattle.std.{specs.Prelude.{ℕ, ◌≡◌, List, Option, length}, proofs.Common.{◌∙◌, ap}}
use Rattle.slot_bodies.{specs.{Bodies.{AreBodies}, ReadBack.{read_back}}, proofs.Laws.{alone_again, bodies_of}}
use Rattle.totals_record.specs.{Common.{Durable, body_size}, Table.{durable_test, fits, spelled, table}}
use Rattle.totals_record.specs.{Ranges.{IsDurable}, Spelling.{spelling}}

-- the state whose fields stand in the bytes at their places, whatever they are
abbrev pub decoded : List ℕ → Durable
decoded bytes = table.read bytes 0

-- bytes are read as the state of their fields if each field is in its range and the bytes are the state's own
unfoldable pub reads : List ℕ → Option Durable
reads bytes = read_back durable_test spelling decoded bytes

-- a spelling fills a body
long : (durable : Durable) → IsDurable durable → length (spelling durable) ≡ body_size
long durable is = ap (λ (l : List ℕ). length l) (spelled durable is) ∙ table.long durable (fits durable is)

-- each state in its ranges is read again
pub again : (durable : Durable) → IsDurable durable → decoded (spelling durable) ≡ durable
again durable is = ap decoded (spelled durable is) ∙ alone_again table durable (fits durable is)

-- states in their ranges are bodies
pub states_are_bodies : AreBodies IsDurable spelling reads
unfolding reads
states_are_bodies = bodies_of durable_test spelling decoded long again
