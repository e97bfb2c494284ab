-- Rules: which streams of requests there are, and what the bytes of one say.
use Rattle.std.specs.{List.{All, flat_map}, Prelude.{ℕ, ◌++◌, ◌+◌, ◌<◌, ◌≡◌, List, None, Option, Some, length, take}}
use Rattle.data_port.specs.{Requests.{IsRequest, request_bytes, stream_bytes}, declared.request.Request.{Request}}

-- bytes begin a stream if they are the front of some stream of requests
pub record BeginsStream (bytes : List ℕ) : Type 0 where
  pub requests : List Request
  pub rest : List ℕ
  pub good : All IsRequest requests
  pub bytes_are : bytes ++ rest ≡ stream_bytes requests

-- a place of bytes, counted from 0, is the first whose byte no stream of requests has there
pub record IsFirstBad (bytes : List ℕ) (place : ℕ) : Type 0 where
  pub within : place < length bytes
  pub good : BeginsStream (take place bytes)
  pub bad : ¬ (BeginsStream (take (place + 1) bytes))

-- a part of a request is unfinished if it begins some request and is not the whole of it; it may be empty
pub record IsUnfinished (part : List ℕ) : Type 0 where
  pub request : Request
  pub rest : List ℕ
  pub good : IsRequest request
  pub some : 0 < length rest
  pub bytes_are : part ++ rest ≡ request_bytes request

-- bytes are good if they are some requests, and perhaps an unfinished one behind them
pub record IsGood (bytes : List ℕ) (requests : List Request) : Type 0 where
  pub part : List ℕ
  pub good : All IsRequest requests
  pub unfinished : IsUnfinished part
  pub bytes_are : bytes ≡ stream_bytes requests ++ part

-- bytes are read as requests with no bad place if they are good, and else as their first bad place and the requests
-- that are whole before it
abbrev pub IsReadAs : List ℕ → Option ℕ → List Request → Type 0
IsReadAs bytes None requests = IsGood bytes requests
IsReadAs bytes (Some place) requests = IsFirstBad bytes place × IsGood (take place bytes) requests

-- bytes end whole if they are some requests and nothing else
pub record EndsWhole (bytes : List ℕ) (requests : List Request) : Type 0 where
  pub good : All IsRequest requests
  pub bytes_are : bytes ≡ stream_bytes requests

-- the bytes of some pieces are the bytes of each piece, one after another
abbrev pub bytes_of : List (List ℕ) → List ℕ
bytes_of pieces = flat_map (λ piece. piece) pieces
