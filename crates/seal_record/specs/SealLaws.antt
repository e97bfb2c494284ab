-- For proofs: seals in their ranges are bodies of slots.
use Rattle.std.proofs.{Common.{ℕ, ℤ, ◌<◌, ◌≡◌, All, List, length, pos, refl}, lemmas.List.Elements.{All-from_get_or}}
use Rattle.{slot_bodies.specs.Bodies.{AreBodies, body_size}, interval_clock.specs.Offsets.{IsInRangeAt}}
use Rattle.slot_bodies.{specs.Codec.{◌⊙◌}, proofs.Laws.{alone_again, below_of_most, bodies_of, fits_of_range, row_fits}}
use Rattle.seal_record.specs.{Decoding.{decoded, pair_table, reads, seal_table}, declared.seal.Seal.{Seal}}
use Rattle.seal_record.specs.{RangeTests.{seal_test}, Ranges.{IsSeal}, Spelling.{spelling}}

-- pairs in range fit
pairs_fit : (pairs : List (ℕ × ℤ)) → ((place : ℕ) → place < length pairs → IsInRangeAt pairs place)
    → All pair_table.Fits pairs
pairs_fit pairs each = All-from_get_or pair_table.Fits pairs (0, pos 0) (λ place within.
    let is = each place within in (below_of_most is.0.1 tt, fits_of_range is.1 tt tt))

-- a seal in its ranges fits
seal_fits : (seal : Seal) → IsSeal seal → seal_table.Fits seal
seal_fits seal is =
    let params = is.params in
    let pairs = pairs_fit seal.params.offsets params.offsets.in_range in (
      below_of_most is.seal_number.1 tt ⊙ params.taxi ⊙ below_of_most params.constant.1 tt ⊙ tt
          ⊙ below_of_most params.hold_time tt ⊙ is.digest ⊙ fits_of_range params.secured tt tt
          ⊙ (row_fits pair_table seal.params.offsets params.offsets.few pairs ⊙ pairs) ⊙ tt ⊙ tt ⊙ tt,
      refl {a = seal},
    )

-- a spelling fills a body
long : (seal : Seal) → IsSeal seal → length (spelling seal) ≡ body_size
long seal is = seal_table.long seal (seal_fits seal is)

-- a seal in its ranges is read again
pub again : (seal : Seal) → IsSeal seal → decoded (spelling seal) ≡ seal
again seal is = alone_again seal_table seal (seal_fits seal is)

-- seals in their ranges are bodies
pub seals_are_bodies : AreBodies IsSeal spelling reads
unfolding reads
seals_are_bodies = bodies_of seal_test spelling decoded long again
