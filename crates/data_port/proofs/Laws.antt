-- The laws that the public empty functions state.
use Rattle.std.{specs.Int.{from_be_bytes, to_be_bytes, w16}, proofs.lemmas.Nat.{from_be_bytes-to_be_bytes_2}}
use Rattle.std.{specs.List.{All}, proofs.lemmas.List.{drop_at, take_at}}
use Rattle.std.proofs.Common.{[], ℕ, ◌++◌, ◌∙◌, ◌∷◌, ◌≡◌, ◌≤◌, List, None, Some, ap, arith, false, length, map, refl}
use Rattle.std.proofs.{Common.{suc, sym, take, true, zero}, lemmas.List.Elements.{All-head, All-tail}}
use Rattle.data_port.specs.{Common.{Durable, IsDurable, IsSeal, Seal}, Reading.{HasTaken, Standing, first_bad}}
use Rattle.data_port.specs.Items.{Agrees, all_items_size, content, item_count, size_of}
use Rattle.data_port.specs.Reply.{AgreeOn, answers_in, body_of, framed, items_bytes, items_in, reply_to}
use Rattle.data_port.{specs.Requests.{IsRequest, Rise, codes_of}, proofs.Parts.{content_long, same_content}}
use Rattle.data_port.{specs.declared.request.Request.{Request}, proofs.Bodies.{rise_few, whole_items}}
use Rattle.data_port.proofs.Streams as streams
pub use Rattle.data_port.proofs.{PieceBytes.{failed_stays}, Streams.{pieces_give_requests, pieces_give_the_same}}
pub use Rattle.data_port.proofs.Streams.{at_end as stream_at_end, bad_end as bad_streams, bad_ends_requests, bad_stays}
pub use Rattle.data_port.proofs.Streams.{requests_added as requests_are_added, so_far as stream_so_far}
pub use Rattle.data_port.proofs.Streams.{unfinished_end as unfinished_streams}

-- ---- what replies speak of

same_items : (one : Durable) (seal : Seal) (other : Durable) (another : Seal) (codes : List ℕ)
    → All (Agrees one seal other another) codes → items_bytes one seal codes ≡ items_bytes other another codes
same_items one seal other another [] agree = refl
same_items one seal other another (code ∷ codes) agree =
    let here = same_content one seal other another code (All-head (Agrees one seal other another) code codes agree) in
    let there = same_items one seal other another codes (All-tail (Agrees one seal other another) code codes agree) in
    λ i. code ∷ (here i ++ there i)

pub replies_speak_of_their_items : (request : Request) (one other : Durable) (seal another : Seal)
    → AgreeOn one seal other another request → reply_to one seal request ≡ reply_to other another request
replies_speak_of_their_items request one other seal another agree =
    ap framed (same_items one seal other another (codes_of request) agree)

-- ---- replies are read back

body_back : (bytes : List ℕ) → length bytes ≤ all_items_size → body_of (framed bytes) ≡ bytes
body_back bytes few =
    let size : from_be_bytes w16 (to_be_bytes w16 (length bytes)) ≡ length bytes =
    from_be_bytes-to_be_bytes_2 (length bytes) (omega arith) in
    ap (λ (n : ℕ). take n (bytes ++ 3 ∷ [])) size ∙ take_at bytes (3 ∷ []) (length bytes) refl

items_back : (durable : Durable) (seal : Seal) → IsDurable durable → IsSeal seal → (most above : ℕ) (codes : List ℕ)
    → Rise above codes → length codes ≤ most
    → items_in most (items_bytes durable seal codes) ≡ map (λ (code : ℕ). (code, content durable seal code)) codes
items_back durable seal d s zero above [] rise few = refl
items_back durable seal d s zero above (code ∷ codes) rise few = absurd (omega arith)
items_back durable seal d s (suc most) above [] rise few = refl
items_back durable seal d s (suc most) above (code ∷ codes) rise few =
    let long = content_long durable seal code d s (omega (arith, rise.0)) rise.1.0 in
    let front = take_at (content durable seal code) (items_bytes durable seal codes) (size_of code) long in
    let behind =
    ap (items_in most) (drop_at (content durable seal code) (items_bytes durable seal codes) (size_of code) long)
    ∙ items_back durable seal d s most code codes rise.1.1 (omega arith) in
    λ i. (code, front i) ∷ behind i

pub replies_are_read_back : (request : Request) (durable : Durable) (seal : Seal) → IsRequest request
    → IsDurable durable → IsSeal seal
    → answers_in (reply_to durable seal request)
    ≡ map (λ (code : ℕ). (code, content durable seal code)) (codes_of request)
replies_are_read_back request durable seal r d s =
    ap (items_in item_count) (body_back (items_bytes durable seal (codes_of request))
    (omega (arith, whole_items durable seal d s 0 (codes_of request) r.rise (omega arith))))
    ∙ items_back durable seal d s item_count 0 (codes_of request) r.rise
    (omega (arith, rise_few 0 (codes_of request) r.rise (omega arith)))

-- ---- a port is known by its bytes

pub going_port : (port : Standing) (b : List ℕ) → HasTaken port b → port.failed ≡ false → first_bad b ≡ None
going_port port b h going = streams.bad_none b (sym (ap (λ (s : Standing). s.failed) h) ∙ going)

pub going_count : (port : Standing) (b : List ℕ) → HasTaken port b → port.failed ≡ false → port.taken ≡ length b
going_count port b h going =
    ap (λ (s : Standing). s.taken) h ∙ (streams.stands_of b (sym (ap (λ (s : Standing). s.failed) h) ∙ going)).count

pub failed_port : (port : Standing) (b : List ℕ) → HasTaken port b → port.failed ≡ true → first_bad b ≡ Some port.taken
failed_port port b h failed =
    streams.bad_some b (sym (ap (λ (s : Standing). s.failed) h) ∙ failed) ∙ ap (λ (s : Standing). Some s.taken) (sym h)

pub same_port : (port other : Standing) (b : List ℕ) → HasTaken port b → HasTaken other b → port ≡ other
same_port port other b h g = h ∙ sym g
