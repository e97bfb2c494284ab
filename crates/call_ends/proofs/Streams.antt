-- What is taken in pieces, and the status by which it is bad.
use Rattle.std.proofs.Common.{ℕ, ◌≢◌, None, Option, Some}
use Rattle.call_ends.specs.Stream.{Drive, Requests, Stream, bad_status}

-- a status that is none of the two
pub not_bad : (status : ℕ) (stream : Option Stream) → status ≢ 3 → status ≢ 16 → status ≢ bad_status stream
not_bad status None not_3 not_16 = not_3
not_bad status (Some (Drive word)) not_3 not_16 = not_3
not_bad status (Some (Requests word)) not_3 not_16 = not_16
