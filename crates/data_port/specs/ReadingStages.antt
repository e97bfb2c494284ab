-- By law: a stream of requests, byte by byte, as a port reads it. The law `streams_are_read_by_their_frames` says what
-- the requests and the first bad place of a stream are.
use Rattle.std.specs.Prelude.{[], ℕ, ◌&&◌, ◌++◌, ◌+◌, ◌-◌, ◌==◌, ◌∷◌, Bool, List, None, Option, Some, drop, false}
use Rattle.std.specs.Prelude.{get_or, if◌then◌else◌, length, nat_le, nat_lt, true}
use Rattle.data_port.specs.{Items.{item_count}, Standing.{Standing, between}, declared.request.Request.{Request}}

-- the standing of a port that has come to a bad place has the place, and no bytes of a request
abbrev pub failed_at : (place : ℕ) → Standing
failed_at place = record { taken = place; part = []; failed = true }

-- the last code of a list is the one at its end, or 0 if the list is empty
abbrev pub last_code : List ℕ → ℕ
last_code codes = get_or codes (length codes - 1) 0

-- a byte may follow a count and these codes if it is 0x03 and all have come, or if it is a greater code that leaves as
-- many codes above it as have still to come
abbrev pub follows_codes : (count : ℕ) → List ℕ → (byte : ℕ) → Bool
follows_codes count codes byte =
    if length codes == count then byte == 3
    else nat_lt (last_code codes) byte && nat_le (byte + count) (length codes + (item_count + 1))

-- a byte may follow 0x02 and these bytes if it is a count of items, one or more, or may follow the count and codes that
-- they are
abbrev pub follows_start : List ℕ → (byte : ℕ) → Bool
follows_start [] byte = nat_le 1 byte && nat_le byte item_count
follows_start (count ∷ codes) byte = follows_codes count codes byte

-- a byte may follow those of an unfinished request if it is 0x02 and they are none, or if it may follow what is behind
-- their 0x02
abbrev pub follows : List ℕ → (byte : ℕ) → Bool
follows [] byte = byte == 2
follows (start ∷ part) byte = follows_start part byte

-- a count and codes have all codes if the codes are as many as the count says
abbrev pub has_codes : List ℕ → Bool
has_codes [] = false
has_codes (count ∷ codes) = length codes == count

-- an unfinished request has all codes if the bytes behind its 0x02 have
abbrev pub has_all : List ℕ → Bool
has_all [] = false
has_all (start ∷ part) = has_codes part

-- the request that has these bytes before its last one is that of the codes behind its 0x02 and its count
abbrev pub request_in : List ℕ → Request
request_in part = record { items = record { items = drop 2 part } }

-- the standing after a byte that may follow is between two requests if the byte ends one, and else has the byte too
abbrev pub after_good : Standing → (byte : ℕ) → Standing
after_good s byte =
    if has_all s.part then between (s.taken + 1)
    else record { taken = s.taken + 1; part = s.part ++ byte ∷ []; failed = false }

-- the standing after one byte more is that after a good byte, or at a bad place; once a bad place has come it stays as
-- it is
abbrev pub after_byte : Standing → (byte : ℕ) → Standing
after_byte s byte = if s.failed then s else (if follows s.part byte then after_good s byte else failed_at s.taken)

-- the requests that a byte ends are the one that it ends, or none
abbrev pub ended_by : Standing → (byte : ℕ) → List Request
ended_by s byte =
    if s.failed then []
    else (if follows s.part byte then (if has_all s.part then request_in s.part ∷ [] else []) else [])

-- the standing after some bytes is what each of them in its turn makes of the one before
abbrev pub after_bytes : Standing → List ℕ → Standing
after_bytes s [] = s
after_bytes s (byte ∷ bytes) = after_bytes (after_byte s byte) bytes

-- the requests that some bytes end are those that each of them ends, in order
abbrev pub ended_in : Standing → List ℕ → List Request
ended_in s [] = []
ended_in s (byte ∷ bytes) = ended_by s byte ++ ended_in (after_byte s byte) bytes

-- the first bad place of a port is the one that it has come to, if it has failed
abbrev pub bad_of : Standing → Option ℕ
bad_of s = if s.failed then Some s.taken else None

-- the first bad place of a stream that ends here is the one that has come, or the place behind the last byte if a
-- request is unfinished
abbrev pub bad_end_of : Standing → Option ℕ
bad_end_of s = if s.failed then Some s.taken else (if length s.part == 0 then None else Some s.taken)
