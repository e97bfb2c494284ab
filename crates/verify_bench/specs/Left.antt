-- For proofs: what is left of a generated drive. Generated says what the whole drive is.
use Rattle.std.specs.Prelude.{ℕ, ◌*◌, ◌++◌, ◌+◌, ◌≤◌, List, drop}
use Rattle.{arrayvec.specs.ArrayVec.{array_vec_len}, verify_bench.specs.declared.remaining.Remaining.{Remaining}}
use Rattle.verify_bench.specs.{AddedText.{place_of}, Generated.{lines_text, trips_from}}

-- a generated drive has left what was written of it and not yet given, and the lines of its trips to come
abbrev pub bytes_left : Remaining → List ℕ
bytes_left r = drop r.given r.writing.text.items ++ lines_text (trips_from r.trips (place_of r.writing)).lines

-- what is left is sound if no more was given than was written, at most 1,000 trips are to come, and 7,500 tenths of a
-- second for each of them keep the time within that of 1,000 trips
abbrev pub HasRoomForTrips : Remaining → Type 0
HasRoomForTrips r =
    (r.given ≤ array_vec_len r.writing.text)
    × (r.trips ≤ 1000)
    × (r.writing.tenths + 7500 * r.trips ≤ 7500000)
