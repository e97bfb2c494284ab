-- What the bytes of a stream say, in words that know no port.
use Rattle.std.{specs.List.{All}, proofs.lemmas.{Grind.{flat_map-append}, List.Elements.{All-drop, All-nil, All-push}}}
use Rattle.std.proofs.Common.{[], ℕ, ◌++◌, ◌+◌, ◌<◌, ◌==◌, ◌↔◌, ◌∙◌, ◌∷◌, ◌≡◌, ◌⊎◌, Bool, List, None, Option, Some, ap}
use Rattle.std.proofs.Common.{append_assoc, arith, cond, drop, false, inl, inr, length, length-append, refl, subst, suc}
use Rattle.std.proofs.{Common.{sym, take, true}, lemmas.{Bool.{true_from_ne_false}, List.{take-take}}}
use Rattle.std.proofs.lemmas.Bool.{both_ways, cases_Bool, cond-false, cond-true, eqb-true, false_from_ne_true}
use Rattle.std.proofs.lemmas.List.{append-nil, append_cancel_left, drop_at, nil_from_length, take-append-drop}
use Rattle.data_port.{specs.{Items.{item_count}, Reading.{requests_in, standing_after}}, proofs.Runs.{stuck}}
use Rattle.data_port.specs.Reading.{HasSense, Standing, bad_at_end, between, first_bad, given_by, requests_after}
use Rattle.data_port.specs.ReadingStages.{after_bytes, bad_end_of, bad_of, ended_in, follows, has_all}
use Rattle.data_port.specs.{Requests.{IsRequest, request_bytes, stream_bytes}, declared.request.Request.{Request}}
use Rattle.data_port.specs.Streams.{BeginsStream, EndsWhole, IsFirstBad, IsGood, IsReadAs, bytes_of}
use Rattle.data_port.proofs.Runs.{FailsIn, Runs, Stands, after-append, ended-append, reads_stream, runs, stream_push}
use Rattle.data_port.proofs.Shapes.{Ends, Grows, few_bytes, nothing, step, unfinished}
use Rattle.std.proofs.lemmas.Bool as bool

-- ---- from the first byte

start : Stands (between 0) [] []
start = record { going = refl; count = refl; bytes_are = refl; shaped = nothing; good = All-nil IsRequest }

from_start : (bytes : List ℕ) → Runs (between 0) [] bytes []
from_start bytes = runs bytes (between 0) [] [] start

pub stands_of : (bytes : List ℕ) → (standing_after bytes).failed ≡ false
    → Stands (standing_after bytes) bytes (requests_in bytes)
stands_of bytes going = either (from_start bytes)
  where
    either : Runs (between 0) [] bytes [] → Stands (standing_after bytes) bytes (requests_in bytes)
    either (inl h) = h
    either (inr f) = absurd (both_ways (standing_after bytes).failed going (ap (λ (s : Standing). s.failed) f.same))

fails_of : (bytes : List ℕ) → (standing_after bytes).failed ≡ true → FailsIn (between 0) [] bytes []
fails_of bytes failed = either (from_start bytes)
  where
    either : Runs (between 0) [] bytes [] → FailsIn (between 0) [] bytes []
    either (inl h) = absurd (both_ways (standing_after bytes).failed h.going failed)
    either (inr f) = f

-- a port that has taken bytes has room for one more
pub room_for : (s : Standing) (byte : ℕ) → HasSense s → s.failed ≡ false → follows s.part byte ≡ true
    → has_all s.part ≡ false → length s.part < item_count + 2
room_for s byte sense going fits left = either (step s.part byte h.shaped fits)
  where
    h : Stands s sense.0 (requests_in sense.0)
    h = subst (λ (t : Standing). Stands t sense.0 (requests_in sense.0)) (sym sense.1)
        (stands_of sense.0 (sym (ap (λ (t : Standing). t.failed) sense.1) ∙ going))

    either : Ends s.part byte ⊎ Grows s.part byte → length s.part < item_count + 2
    either (inl ends) = absurd (both_ways (has_all s.part) left ends.all)
    either (inr grows) = omega (arith, few_bytes (s.part ++ byte ∷ []) grows.shaped, length-append s.part (byte ∷ []))

-- ---- streams that begin so

good_of : (s : Standing) (bytes : List ℕ) (requests : List Request) → Stands s bytes requests → IsGood bytes requests
good_of s bytes requests h =
    record { part = s.part; good = h.good; unfinished = unfinished s.part h.shaped; bytes_are = h.bytes_are }

whole_of : (bytes : List ℕ) (requests : List Request) → (h : IsGood bytes requests)
    → bytes ++ h.unfinished.rest ≡ stream_bytes (requests ++ h.unfinished.request ∷ [])
whole_of bytes requests h =
    let u = h.unfinished in
    ap (λ (l : List ℕ). l ++ u.rest) h.bytes_are ∙ (append_assoc (stream_bytes requests) h.part u.rest
    ∙ (ap (λ (l : List ℕ). stream_bytes requests ++ l) u.bytes_are ∙ sym (stream_push requests u.request)))

begins_good : (bytes : List ℕ) (requests : List Request) → IsGood bytes requests → BeginsStream bytes
begins_good bytes requests h = record {
  requests = requests ++ h.unfinished.request ∷ [];
  rest = h.unfinished.rest;
  good = All-push IsRequest requests h.unfinished.request h.good h.unfinished.good;
  bytes_are = whole_of bytes requests h;
}

begins_prefix : (count : ℕ) (bytes : List ℕ) → BeginsStream bytes → BeginsStream (take count bytes)
begins_prefix count bytes h = record {
  requests = h.requests;
  rest = drop count bytes ++ h.rest;
  good = h.good;
  bytes_are = sym (append_assoc (take count bytes) (drop count bytes) h.rest)
      ∙ (ap (λ (l : List ℕ). l ++ h.rest) (take-append-drop count bytes) ∙ h.bytes_are);
}

goes_on : (bytes : List ℕ) → BeginsStream bytes → (standing_after bytes).failed ≡ false
goes_on bytes h = false_from_ne_true (standing_after bytes).failed impossible
  where
    end : (after_bytes (between 0) (bytes ++ h.rest)).failed ≡ false
    end = ap (λ (l : List ℕ). (after_bytes (between 0) l).failed) h.bytes_are
        ∙ ap (λ (s : Standing). s.failed) (reads_stream 0 h.requests h.good).after

    impossible : (standing_after bytes).failed ≡ true → ⊥
    impossible failed = both_ways (after_bytes (between 0) (bytes ++ h.rest)).failed end
        (ap (λ (s : Standing). s.failed)
        (after-append (between 0) bytes h.rest ∙ (stuck (standing_after bytes) h.rest failed).after) ∙ failed)

-- ---- what the first bad place and the requests are

pub bad_none : (bytes : List ℕ) → (standing_after bytes).failed ≡ false → first_bad bytes ≡ None
bad_none bytes going = cond-false (standing_after bytes).failed (Some (standing_after bytes).taken) None going

pub bad_some : (bytes : List ℕ) → (standing_after bytes).failed ≡ true
    → first_bad bytes ≡ Some (standing_after bytes).taken
bad_some bytes failed = cond-true (standing_after bytes).failed (Some (standing_after bytes).taken) None failed

bad_place : (bytes : List ℕ) → (failed : (standing_after bytes).failed ≡ true)
    → first_bad bytes ≡ Some (fails_of bytes failed).place
bad_place bytes failed =
    let f = fails_of bytes failed in
    let same : (standing_after bytes).taken ≡ 0 + f.place = ap (λ (s : Standing). s.taken) f.same in
    let place : (standing_after bytes).taken ≡ f.place = omega (arith, same) in
    bad_some bytes failed ∙ ap Some place

not_begun : (bytes : List ℕ) → (f : FailsIn (between 0) [] bytes []) → BeginsStream (take (suc f.place) bytes) → ⊥
not_begun bytes f h = both_ways (standing_after (take (suc f.place) bytes)).failed
    (goes_on (take (suc f.place) bytes) h) (ap (λ (s : Standing). s.failed) f.fails)

first_bad_at : (bytes : List ℕ) → (f : FailsIn (between 0) [] bytes []) → IsFirstBad bytes f.place
first_bad_at bytes f =
    let next : f.place + 1 ≡ suc f.place = omega arith in
    record {
      within = f.within;
      good = begins_good (take f.place bytes) (ended_in (between 0) (take f.place bytes)) (good_of (standing_after
          (take f.place bytes)) (take f.place bytes) (ended_in (between 0) (take f.place bytes)) f.stands);
      bad = λ h. not_begun bytes f (subst (λ (n : ℕ). BeginsStream (take n bytes)) next h);
    }

read_at : (bytes : List ℕ) → (failed : Bool) → (standing_after bytes).failed ≡ failed
    → IsReadAs bytes (first_bad bytes) (requests_in bytes)
read_at bytes false going =
    subst (λ (bad : Option ℕ). IsReadAs bytes bad (requests_in bytes)) (sym (bad_none bytes going))
    (good_of (standing_after bytes) bytes (requests_in bytes) (stands_of bytes going))
read_at bytes true failed =
    let f = fails_of bytes failed in
    let before = take f.place bytes in
    subst (λ (bad : Option ℕ). IsReadAs bytes bad (requests_in bytes)) (sym (bad_place bytes failed)) (
      first_bad_at bytes f,
      subst (λ (rs : List Request). IsGood before rs) (sym f.ended)
          (good_of (standing_after before) before (requests_in before) f.stands),
    )

pub read_so_far : (bytes : List ℕ) → IsReadAs bytes (first_bad bytes) (requests_in bytes)
read_so_far bytes = read_at bytes (standing_after bytes).failed refl

-- ---- and nothing else

abbrev head_of : Request → List Request → Request
head_of other [] = other
head_of other (request ∷ requests) = request

none_ended : (rs es fs : List Request) (request : Request) (bytes part rest left : List ℕ) → es ++ fs ≡ request ∷ []
    → bytes ≡ stream_bytes rs ++ part → bytes ≡ stream_bytes (rs ++ es) ++ left
    → part ++ rest ≡ request_bytes request → 0 < length rest → es ≡ []
none_ended rs [] fs request bytes part rest left one is other whole some = refl
none_ended rs (e ∷ es) fs request bytes part rest left one is other whole some =
    let head : e ≡ request = ap (head_of request) one in
    let size : length (request_bytes e) ≡ length (request_bytes request) =
    ap (λ (r : Request). length (request_bytes r)) head in
    let stream : length (stream_bytes (rs ++ e ∷ es)) ≡ length (stream_bytes rs ++ (request_bytes e ++ stream_bytes es))
    = ap length (flat_map-append request_bytes rs (e ∷ es)) in
    absurd (omega (
      arith,
      some,
      size,
      stream,
      ap length is,
      ap length other,
      ap length whole,
      length-append part rest,
      length-append (stream_bytes rs) part,
      length-append (stream_bytes (rs ++ e ∷ es)) left,
      length-append (stream_bytes rs) (request_bytes e ++ stream_bytes es),
      length-append (request_bytes e) (stream_bytes es),
    ))

good_going : (bytes : List ℕ) (requests : List Request) → IsGood bytes requests → (standing_after bytes).failed ≡ false
good_going bytes requests h = goes_on bytes (begins_good bytes requests h)

good_requests : (bytes : List ℕ) (requests : List Request) → IsGood bytes requests → requests_in bytes ≡ requests
good_requests bytes requests h =
    let u = h.unfinished in
    let stream = stream_bytes requests in
    let es = ended_in (standing_after stream) h.part in
    let fs = ended_in (standing_after bytes) u.rest in
    let in_front : requests_in bytes ≡ requests ++ es =
    ap requests_in h.bytes_are ∙ (ended-append (between 0) stream h.part
    ∙ ap (λ (rs : List Request). rs ++ es) (reads_stream 0 requests h.good).ended) in
    let all_good = All-push IsRequest requests u.request h.good u.good in
    let in_all : requests_in (bytes ++ u.rest) ≡ requests ++ u.request ∷ [] =
    ap requests_in (whole_of bytes requests h) ∙ (reads_stream 0 (requests ++ u.request ∷ []) all_good).ended in
    let joined : requests_in (bytes ++ u.rest) ≡ requests ++ (es ++ fs) =
    ended-append (between 0) bytes u.rest
    ∙ (ap (λ (rs : List Request). rs ++ fs) in_front ∙ append_assoc requests es fs) in
    let one : es ++ fs ≡ u.request ∷ [] =
    append_cancel_left requests (es ++ fs) (u.request ∷ []) (sym joined ∙ in_all) in
    let s = stands_of bytes (good_going bytes requests h) in
    let other : bytes ≡ stream_bytes (requests ++ es) ++ (standing_after bytes).part =
    s.bytes_are ∙ ap (λ (rs : List Request). stream_bytes rs ++ (standing_after bytes).part) in_front in
    let none : es ≡ [] = none_ended requests es fs u.request bytes h.part u.rest
    (standing_after bytes).part one h.bytes_are other u.bytes_are u.some in
    in_front ∙ (ap (λ (rs : List Request). requests ++ rs) none ∙ append-nil requests)

not_both : (bytes : List ℕ) (place : ℕ) → IsFirstBad bytes place → (standing_after bytes).failed ≡ true
not_both bytes place h = true_from_ne_false (standing_after bytes).failed
    (λ going. h.bad (begins_prefix (place + 1) bytes (begins_good bytes (requests_in bytes)
    (good_of (standing_after bytes) bytes (requests_in bytes) (stands_of bytes going)))))

same_place : (bytes : List ℕ) (place : ℕ) → IsFirstBad bytes place → (f : FailsIn (between 0) [] bytes [])
    → f.place ≡ place
same_place bytes place h f = either (bool.cases_order f.place place)
  where
    sooner : f.place < place → ⊥
    sooner less = not_begun bytes f (subst BeginsStream (take-take (suc f.place) place bytes (omega arith))
        (begins_prefix (suc f.place) (take place bytes) h.good))

    later : place < f.place → ⊥
    later less = h.bad (subst BeginsStream (take-take (place + 1) f.place bytes (omega arith))
        (begins_prefix (place + 1) (take f.place bytes) (first_bad_at bytes f).good))

    either : (f.place ≡ place) ⊎ ((f.place < place) ⊎ (place < f.place)) → f.place ≡ place
    either (inl same) = same
    either (inr (inl less)) = absurd (sooner less)
    either (inr (inr more)) = absurd (later more)

pub read_by : (bytes : List ℕ) (bad : Option ℕ) (requests : List Request) → IsReadAs bytes bad requests
    → (first_bad bytes ≡ bad) × (requests_in bytes ≡ requests)
read_by bytes None requests h = (bad_none bytes (good_going bytes requests h), good_requests bytes requests h)
read_by bytes (Some place) requests h =
    let failed = not_both bytes place h.0 in
    let f = fails_of bytes failed in
    let same = same_place bytes place h.0 f in (
      bad_place bytes failed ∙ ap Some same,
      f.ended ∙ (ap (λ (n : ℕ). requests_in (take n bytes)) same ∙ good_requests (take place bytes) requests h.1),
    )

pub so_far : (bytes : List ℕ) (bad : Option ℕ) (requests : List Request)
    → ((first_bad bytes ≡ bad) × (requests_in bytes ≡ requests)) ↔ IsReadAs bytes bad requests
so_far bytes bad requests = (
  (λ h. subst (λ (x : Option ℕ). IsReadAs bytes x requests) h.0
      (subst (λ (rs : List Request). IsReadAs bytes (first_bad bytes) rs) h.1 (read_so_far bytes))),
  read_by bytes bad requests,
)

-- ---- at the end

end_none : (s : Standing) → bad_end_of s ≡ None → (s.failed ≡ false) × (s.part ≡ [])
end_none s none = either (cases_Bool s.failed)
  where
    at_part : s.failed ≡ false → (length s.part == 0 ≡ true) ⊎ (length s.part == 0 ≡ false)
        → (s.failed ≡ false) × (s.part ≡ [])
    at_part going (inl empty) = (going, nil_from_length s.part (eqb-true (length s.part) 0 empty))
    at_part going (inr some) =
        let e : bad_end_of s ≡ Some s.taken = cond-false s.failed (Some s.taken) (cond (length s.part == 0) None
        (Some s.taken)) going ∙ cond-false (length s.part == 0) None (Some s.taken) some in
        absurd (cc (e, none))

    either : (s.failed ≡ true) ⊎ (s.failed ≡ false) → (s.failed ≡ false) × (s.part ≡ [])
    either (inl failed) =
        let e : bad_end_of s ≡ Some s.taken =
        cond-true s.failed (Some s.taken) (cond (length s.part == 0) None (Some s.taken)) failed in
        absurd (cc (e, none))
    either (inr going) = at_part going (cases_Bool (length s.part == 0))

ends_whole : (bytes : List ℕ) (requests : List Request) → bad_at_end bytes ≡ None → requests_in bytes ≡ requests
    → EndsWhole bytes requests
ends_whole bytes requests none is =
    let p = end_none (standing_after bytes) none in
    let s = stands_of bytes p.0 in
    record {
      good = subst (All IsRequest) is s.good;
      bytes_are = s.bytes_are ∙ ((λ i. stream_bytes (is i) ++ p.1 i) ∙ append-nil (stream_bytes requests));
    }

whole_ends : (bytes : List ℕ) (requests : List Request) → EndsWhole bytes requests
    → (bad_at_end bytes ≡ None) × (requests_in bytes ≡ requests)
whole_ends bytes requests h =
    let r = reads_stream 0 requests h.good in
    (ap bad_at_end h.bytes_are ∙ ap bad_end_of r.after, ap requests_in h.bytes_are ∙ r.ended)

pub at_end : (bytes : List ℕ) (requests : List Request) → ((bad_at_end bytes ≡ None) × (requests_in bytes ≡ requests))
    ↔ EndsWhole bytes requests
at_end bytes requests = ((λ h. ends_whole bytes requests h.0 h.1), whole_ends bytes requests)

some_same : (a b : ℕ) → Some a ≡ Some b → a ≡ b
some_same a b e = cc

-- if no bad place came, an unfinished request is bad behind the last byte
pub unfinished_end : (bytes : List ℕ) (place : ℕ) → first_bad bytes ≡ None → bad_at_end bytes ≡ Some place
    → place ≡ length bytes
unfinished_end bytes place good bad = either (cases_Bool (standing_after bytes).failed)
  where
    at_part : (standing_after bytes).failed ≡ false → (length (standing_after bytes).part == 0 ≡ true)
        ⊎ (length (standing_after bytes).part == 0 ≡ false) → place ≡ length bytes
    at_part going (inl empty) =
        let e : bad_at_end bytes ≡ None =
        cond-false (standing_after bytes).failed (Some (standing_after bytes).taken)
        (cond (length (standing_after bytes).part == 0) None (Some (standing_after bytes).taken)) going
        ∙ cond-true (length (standing_after bytes).part == 0) None (Some (standing_after bytes).taken) empty in
        absurd (cc (e, bad))
    at_part going (inr some) =
        let e : bad_at_end bytes ≡ Some (standing_after bytes).taken =
        cond-false (standing_after bytes).failed (Some (standing_after bytes).taken)
        (cond (length (standing_after bytes).part == 0) None (Some (standing_after bytes).taken)) going
        ∙ cond-false (length (standing_after bytes).part == 0) None (Some (standing_after bytes).taken) some in
        some_same place (standing_after bytes).taken (sym bad ∙ e) ∙ (stands_of bytes going).count

    either : ((standing_after bytes).failed ≡ true) ⊎ ((standing_after bytes).failed ≡ false) → place ≡ length bytes
    either (inl failed) = absurd (cc (bad_some bytes failed, good))
    either (inr going) = at_part going (cases_Bool (length (standing_after bytes).part == 0))

-- ---- further bytes

pub bad_failed : (bytes : List ℕ) (place : ℕ) → first_bad bytes ≡ Some place → (standing_after bytes).failed ≡ true
bad_failed bytes place bad = true_from_ne_false (standing_after bytes).failed (λ going. cc (bad_none bytes going, bad))

-- and it is bad at the end too
pub bad_end : (bytes : List ℕ) (place : ℕ) → first_bad bytes ≡ Some place → bad_at_end bytes ≡ Some place
bad_end bytes place bad =
    let s = standing_after bytes in
    let failed = bad_failed bytes place bad in
    cond-true s.failed (Some s.taken) (cond (length s.part == 0) None (Some s.taken)) failed
    ∙ (sym (bad_some bytes failed) ∙ bad)

pub bad_stays : (b c : List ℕ) (place : ℕ) → first_bad b ≡ Some place → first_bad (b ++ c) ≡ Some place
bad_stays b c place bad =
    ap bad_of (after-append (between 0) b c ∙ (stuck (standing_after b) c (bad_failed b place bad)).after) ∙ bad

pub bad_ends_requests : (b c : List ℕ) (place : ℕ) → first_bad b ≡ Some place → requests_in (b ++ c) ≡ requests_in b
bad_ends_requests b c place bad =
    ended-append (between 0) b c ∙ (ap (λ (rs : List Request). requests_in b ++ rs)
    (stuck (standing_after b) c (bad_failed b place bad)).ended ∙ append-nil (requests_in b))

pub requests_added : (b c : List ℕ) → requests_in (b ++ c) ≡ requests_in b ++ requests_after b c
requests_added b c = ended-append (between 0) b c

given_after : (before : List ℕ) (pieces : List (List ℕ))
    → given_by before pieces ≡ requests_after before (bytes_of pieces)
given_after before [] = refl
given_after before (piece ∷ pieces) =
    ap (λ (rs : List Request). requests_after before piece ++ rs) (given_after (before ++ piece) pieces
    ∙ ap (λ (s : Standing). ended_in s (bytes_of pieces)) (after-append (between 0) before piece))
    ∙ sym (ended-append (standing_after before) piece (bytes_of pieces))

pub pieces_give_requests : (pieces : List (List ℕ)) → given_by [] pieces ≡ requests_in (bytes_of pieces)
pieces_give_requests pieces = given_after [] pieces

pub pieces_give_the_same : (one other : List (List ℕ)) → bytes_of one ≡ bytes_of other
    → given_by [] one ≡ given_by [] other
pieces_give_the_same one other e = given_after [] one ∙ (ap requests_in e ∙ sym (given_after [] other))

-- the requests that bytes add are in their ranges
pub added_good : (b c : List ℕ) → All IsRequest (requests_after b c)
added_good b c = subst (All IsRequest) (drop_at (requests_in b) (requests_after b c) (length (requests_in b)) refl)
    (All-drop IsRequest (length (requests_in b)) (requests_in b ++ requests_after b c)
    (subst (All IsRequest) (requests_added b c) (all_good (b ++ c) (first_bad (b ++ c)) (read_so_far (b ++ c)))))
  where
    all_good : (bytes : List ℕ) (bad : Option ℕ) → IsReadAs bytes bad (requests_in bytes)
        → All IsRequest (requests_in bytes)
    all_good bytes None h = h.good
    all_good bytes (Some place) h = h.1.good
