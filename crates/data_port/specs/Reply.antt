-- Rules: the reply to a request, what it speaks of, and how it is read back. Items has the content of each item.
use Rattle.{std.specs.Int.{from_be_bytes, to_be_bytes, w16}, data_port.specs.declared.request.Request.{Request}}
use Rattle.std.specs.{List.{All, flat_map}, Prelude.{[], ℕ, ◌++◌, ◌+◌, ◌∷◌, List, drop, length, suc, take, zero}}
use Rattle.data_port.specs.{Common.{Durable, Seal}, Items.{Agrees, all_items_size, content, item_count, size_of}}
use Rattle.data_port.specs.Requests.{codes_of}

-- an item in bytes is its code and its content
abbrev pub item_bytes : Durable → Seal → (code : ℕ) → List ℕ
item_bytes durable seal code = code ∷ content durable seal code

-- items in bytes are one behind the other, in the order of their codes
abbrev pub items_bytes : Durable → Seal → (codes : List ℕ) → List ℕ
items_bytes durable seal codes = flat_map (item_bytes durable seal) codes

-- the frame of items in bytes is 0x02, how many bytes they are, in two bytes, the items, and 0x03
abbrev pub framed : List ℕ → List ℕ
framed bytes = 2 ∷ (to_be_bytes w16 (length bytes) ++ (bytes ++ 3 ∷ []))

-- the reply to a request frames the items that the request asks for
abbrev pub reply_to : Durable → Seal → Request → List ℕ
reply_to durable seal request = framed (items_bytes durable seal (codes_of request))

-- the longest reply has all items, and four bytes more
abbrev pub longest_reply : ℕ
longest_reply = all_items_size + 4

-- two stores agree on what each item of a request speaks of
abbrev pub AgreeOn : Durable → Seal → Durable → Seal → Request → Type 0
AgreeOn one seal other another request = All (Agrees one seal other another) (codes_of request)

-- bytes are read as items, at most `most` of them, if each item is a code and as many bytes of content as the item with
-- that code has
abbrev pub items_in : (most : ℕ) → List ℕ → List (ℕ × List ℕ)
items_in zero bytes = []
items_in (suc most) [] = []
items_in (suc most) (code ∷ bytes) = (code, take (size_of code) bytes) ∷ items_in most (drop (size_of code) bytes)

-- the body of a reply is the bytes of its items, between its length and its last byte
abbrev pub body_of : (reply : List ℕ) → List ℕ
body_of reply = take (from_be_bytes w16 (take 2 (drop 1 reply))) (drop 3 reply)

-- a reply is read as the items of its body, each a code and a content, of which there are as many as items at most
abbrev pub answers_in : (reply : List ℕ) → List (ℕ × List ℕ)
answers_in reply = items_in item_count (body_of reply)
