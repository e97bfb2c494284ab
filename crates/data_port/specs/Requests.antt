-- Rules: what requests are, in codes and in bytes.
use Rattle.std.specs.{List.{flat_map}, Prelude.{[], ℕ, ◌++◌, ◌<◌, ◌∷◌, ◌≤◌, List, length}}
use Rattle.data_port.specs.{Items.{item_count}, declared.request.Request.{Request}}

-- codes rise if each is above the one before it; the first is above `above`, and none is above that of the last item
abbrev pub Rise : (above : ℕ) → List ℕ → Type 0
Rise above [] = Unit {0}
Rise above (code ∷ codes) = (above < code) × ((code ≤ item_count) × Rise code codes)

-- the codes of a request are those of the items that it asks for
abbrev pub codes_of : Request → List ℕ
codes_of request = request.items.items

-- a request asks for one item or more, by codes of items that rise
pub record IsRequest (request : Request) : Type 0 where
  pub some : 0 < length (codes_of request)
  pub rise : Rise 0 (codes_of request)

-- a request in bytes is 0x02, the number of its codes, the codes, and 0x03
abbrev pub request_bytes : Request → List ℕ
request_bytes request = 2 ∷ (length (codes_of request) ∷ (codes_of request ++ 3 ∷ []))

-- requests in bytes are one behind the other
abbrev pub stream_bytes : List Request → List ℕ
stream_bytes requests = flat_map request_bytes requests
