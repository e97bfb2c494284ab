-- A piece, and then a stream, that is served.
use Rattle.std.{specs.Prelude.{All, IfErr, IfOk, OnOk, is_err}, proofs.lemmas.Grind.{flat_map-append}}
use Rattle.std.proofs.Common.{[], ℕ, ◌++◌, ◌+◌, ◌<◌, ◌^◌, ◌∙◌, ◌≡◌, ◌≤◌, Err, List, None, Ok, Option, Result, Some, ap}
use Rattle.std.proofs.Common.{append_assoc, arith, drop, false, get_or, inl, inr, length, length-append, length-take}
use Rattle.std.proofs.{Common.{refl, subst, sym, take}, lemmas.List.{append-nil, nil_from_length, take-append-drop}}
use Rattle.taxi_units.{specs.Streams.{IsSplit, KeepsBad}, proofs.Laws.{whole_stream_reached}}
use Rattle.taxi_units.proofs.Laws.{bad_stream_reached, endless_stream_reached, unfinished_stream_reached}
use Rattle.{outside.proofs.Laws.{begins_after, begins_more}, data_port.specs.declared.port.BadFrame.{BadFrame}}
use Rattle.data_port.specs.Common.{Begins, BoardFault, Durable, Frame, PortFault, ReadFault, Seal, TooLong}
use Rattle.data_port.specs.Reading.{BreaksIn, HasSense, HasTaken, Standing, TakesTo, bad_at_end, between, first_bad}
use Rattle.data_port.specs.{Reading.{requests_after, requests_in, standing_after}, declared.request.Request.{Request}}
use Rattle.data_port.specs.{ReadingStages.{after_bytes, bad_of, ended_in}, ServingStages.{EndsHere, StopsNext, failed}}
use Rattle.data_port.{specs.Reply.{reply_to}, proofs.{Laws.{going_count, going_port}, Parts.{flat_more}}}
use Rattle.data_port.specs.{Requests.{IsRequest}, ServedStream.{StopsAfter, StreamEnd, Whole, replies, stream_limit}}
use Rattle.data_port.specs.ServedStream.{BadAt, Endless, IsBoundedByRequests, ReachesEnd, Serves, ServesMore, ServesTo}
use Rattle.data_port.proofs.{Runs.{after-append, ended-append}, Streams.{bad_end, bad_ends_requests, bad_stays}}
use Rattle.data_port.specs.ServedStream as serving

replies-append : (durable : Durable) (seal : Seal) (one other : List Request)
    → replies durable seal (one ++ other) ≡ replies durable seal one ++ replies durable seal other
replies-append durable seal one other = flat_map-append (reply_to durable seal) one other

-- replies behind others
pub printed_more : (durable : Durable) (seal : Seal) (before mid now : List ℕ) (one other both : List Request)
    → mid ≡ before ++ replies durable seal one → now ≡ mid ++ replies durable seal other → both ≡ one ++ other
    → now ≡ before ++ replies durable seal both
printed_more durable seal before mid now one other both first next is =
    next ∙ (ap (λ (l : List ℕ). l ++ replies durable seal other) first
    ∙ (append_assoc before (replies durable seal one) (replies durable seal other)
    ∙ ap (λ (l : List ℕ). before ++ l)
    (sym (replies-append durable seal one other) ∙ ap (replies durable seal) (sym is))))

pub begun_more : (durable : Durable) (seal : Seal) (before mid now : List ℕ) (one other both : List Request)
    → mid ≡ before ++ replies durable seal one → Begins mid now (replies durable seal other) → both ≡ one ++ other
    → Begins before now (replies durable seal both)
begun_more durable seal before mid now one other both first next is =
    subst (λ (l : List ℕ). Begins before now l)
    (sym (replies-append durable seal one other) ∙ ap (replies durable seal) (sym is))
    (begins_after before mid now (replies durable seal one) (replies durable seal other) first next)

pub begun_of : (durable : Durable) (seal : Seal) (before now : List ℕ) (one other both : List Request)
    → Begins before now (replies durable seal one) → both ≡ one ++ other → Begins before now (replies durable seal both)
begun_of durable seal before now one other both begun is =
    subst (λ (l : List ℕ). Begins before now l) (sym (replies-append durable seal one other) ∙ ap (replies durable seal)
    (sym is)) (begins_more before now (replies durable seal one) (replies durable seal other) begun)

-- the reply to one request behind those so far
pub printed_one : (durable : Durable) (seal : Seal) (before mid now : List ℕ) (requests : List Request) (i : ℕ)
    (request : Request) → i < length requests → request ≡ get_or requests i request
    → mid ≡ before ++ replies durable seal (take i requests) → now ≡ mid ++ reply_to durable seal request
    → now ≡ before ++ replies durable seal (take (i + 1) requests)
printed_one durable seal before mid now requests i request lt is first next =
    next ∙ (ap (λ (l : List ℕ). l ++ reply_to durable seal request) first
    ∙ (append_assoc before (replies durable seal (take i requests)) (reply_to durable seal request)
    ∙ (ap (λ (r : Request). before ++ (replies durable seal (take i requests) ++ reply_to durable seal r)) is
    ∙ ap (λ (l : List ℕ). before ++ l) (sym (flat_more (reply_to durable seal) requests i request lt)))))

pub begun_one : (durable : Durable) (seal : Seal) (before mid now : List ℕ) (requests : List Request) (i : ℕ)
    (request : Request) → i < length requests → request ≡ get_or requests i request
    → mid ≡ before ++ replies durable seal (take i requests) → Begins mid now (reply_to durable seal request)
    → Begins before now (replies durable seal requests)
begun_one durable seal before mid now requests i request lt is first next =
    let front = take (i + 1) requests in
    let behind = drop (i + 1) requests in
    let one : Begins mid now (reply_to durable seal (get_or requests i request)) =
    subst (λ (r : Request). Begins mid now (reply_to durable seal r)) is next in
    let here : Begins before now (replies durable seal front) =
    subst (λ (l : List ℕ). Begins before now l) (sym (flat_more (reply_to durable seal) requests i request lt))
    (begins_after before mid now (replies durable seal (take i requests))
    (reply_to durable seal (get_or requests i request)) first one) in
    begun_of durable seal before now front behind requests here (sym (take-append-drop (i + 1) requests))

-- the answer with this fault
abbrev pub err_of : PortFault → Result (Unit {0}) PortFault
err_of fault = Err fault

-- what holds of an answer that isn't Err
pub ok_of : {T E : Type 0} (r : Result T E) (P : Type 0) → is_err r ≡ false → OnOk r P → P
ok_of (Ok x) P e p = p
ok_of (Err y) P e p = absurd (cc)

-- ---- a piece so far

-- requests are the first ones of the rest of a piece
pub record Starts (now : Standing) (rest : List ℕ) (items : List Request) : Type 0 where
  pub more : List Request
  pub whole : ended_in now rest ≡ items ++ more

taken_ended : (now : Standing) (rest : List ℕ) (n : ℕ)
    → ended_in now rest ≡ ended_in now (take n rest) ++ ended_in (after_bytes now (take n rest)) (drop n rest)
taken_ended now rest n =
    ap (ended_in now) (sym (take-append-drop n rest)) ∙ ended-append now (take n rest) (drop n rest)

pub record PieceSoFar (told : Type 0) (durable : Durable) (seal : Seal) (first now : Standing)
    (piece rest before printed : List ℕ) (opening steps : ℕ) : Type 0 where
  pub done : List ℕ
  pub split : piece ≡ done ++ rest
  pub now_is : now ≡ after_bytes first done
  pub going : now.failed ≡ false
  pub counted : now.taken ≡ first.taken + length done
  pub shown : told → printed ≡ before ++ replies durable seal (ended_in first done)
  pub bounded : steps ≤ opening + length (ended_in first done)

-- before the first byte of the piece
pub piece_opens : (told : Type 0) (durable : Durable) (seal : Seal) (first : Standing) (piece before : List ℕ)
    (opening : ℕ) → first.failed ≡ false
    → PieceSoFar told durable seal first first piece piece before before opening opening
piece_opens told durable seal first piece before opening going = record {
  done = [];
  split = refl;
  now_is = refl;
  going = going;
  counted = omega arith;
  shown = λ t. sym (append-nil before);
  bounded = omega arith;
}

-- the requests that a piece gives are in their ranges
pub piece_requests : (old new given : List Request) → old ≡ [] → given ≡ new → (All IsRequest old → All IsRequest new)
    → All IsRequest given
piece_requests old new given none same range =
    subst (λ (rs : List Request). All IsRequest rs) (sym same)
    (range (subst (λ (rs : List Request). All IsRequest rs) (sym none) (λ k d lt. absurd (omega (arith, lt)))))

-- a bad place isn't a failure of the board
pub bad_is_no_fault : (place : ℕ) (P : Type 0)
    → ◌≡◌ {A = Result (Unit {0}) PortFault} (Err (Frame place)) (Err BoardFault) → P
bad_is_no_fault place P same = absurd (let bad : Frame place ≡ BoardFault = cc in cc)

-- and neither is the end of a piece
pub end_is_no_fault : (P : Type 0) → ◌≡◌ {A = Result (Unit {0}) PortFault} (Ok tt) (Err BoardFault) → P
end_is_no_fault P same = absurd cc

module _ {told : Type 0} {durable : Durable} {seal : Seal} {first now : Standing} {piece rest before printed : List ℕ}
    {opening steps : ℕ} (f : PieceSoFar told durable seal first now piece rest before printed opening steps) where
  pub piece_sense : HasSense first → HasSense now
  piece_sense sense = (
    sense.0 ++ f.done,
    f.now_is ∙ (ap (λ (s : Standing). after_bytes s f.done) sense.1 ∙ sym (after-append (between 0) sense.0 f.done)),
  )

  whole_ended : ended_in first piece ≡ ended_in first f.done ++ ended_in now rest
  whole_ended = ap (ended_in first) f.split ∙ (ended-append first f.done rest
      ∙ ap (λ (s : Standing). ended_in first f.done ++ ended_in s rest) (sym f.now_is))

  whole_standing : after_bytes first piece ≡ after_bytes now rest
  whole_standing = ap (after_bytes first) f.split
      ∙ (after-append first f.done rest ∙ ap (λ (s : Standing). after_bytes s rest) (sym f.now_is))

  -- the requests that were given are the first ones
  all_of : (items : List Request) → (s : Starts now rest items)
      → ended_in first piece ≡ (ended_in first f.done ++ items) ++ s.more
  all_of items s = whole_ended ∙ (ap (λ (rs : List Request). ended_in first f.done ++ rs) s.whole
      ∙ sym (append_assoc (ended_in first f.done) items s.more))

  -- what is left of the piece has room too
  pub piece_few : first.taken + length piece < 2 ^ 64 → now.taken + length rest < 2 ^ 64
  piece_few few = omega (arith, few, f.counted, ap length f.split, length-append f.done rest)

  -- if nothing is left the piece was served
  all_done : length rest ≡ 0 → piece ≡ f.done
  all_done none = f.split ∙ (ap (λ (l : List ℕ). f.done ++ l) (nil_from_length rest none) ∙ append-nil f.done)

  pub piece_whole : length rest ≡ 0 → (now ≡ after_bytes first piece) × (now.failed ≡ false)
      × (told → printed ≡ before ++ replies durable seal (ended_in first piece))
  piece_whole none = (
    f.now_is ∙ ap (after_bytes first) (sym (all_done none)),
    f.going,
    λ t. subst (λ (l : List ℕ). printed ≡ before ++ replies durable seal (ended_in first l))
        (sym (all_done none)) (f.shown t),
  )

  pub piece_whole_steps : length rest ≡ 0 → steps ≤ opening + length (ended_in first piece)
  piece_whole_steps none =
      subst (λ (l : List ℕ). steps ≤ opening + length (ended_in first l)) (sym (all_done none)) f.bounded

  -- what a port gives of the rest, which it appends to none
  piece_fed : {none items shown : List Request} → none ≡ [] → shown ≡ items → HasSense first → (n : ℕ)
      → ((b : List ℕ) → HasTaken now b → TakesTo b rest none items n) → shown ≡ ended_in now (take n rest)
  piece_fed empty same sense n takes =
      let here = piece_sense sense in
      let at = sym here.1 in
      same ∙ ((takes here.0 here.1).requests ∙ (λ i. empty i ++ ended_in (at i) (take n rest)))

  piece_broke : {none items shown : List Request} → none ≡ [] → shown ≡ items → HasSense first → (place : ℕ)
      → ((b : List ℕ) → HasTaken now b → BreaksIn b rest none items place) → shown ≡ ended_in now rest
  piece_broke empty same sense place breaks =
      let here = piece_sense sense in
      let at = sym here.1 in
      same ∙ ((breaks here.0 here.1).requests ∙ (λ i. empty i ++ ended_in (at i) rest))

  pub piece_starts : {none items shown : List Request} → none ≡ [] → shown ≡ items → HasSense first
      → (fed : Result ℕ BadFrame) → IfOk fed (λ n. (b : List ℕ) → HasTaken now b → TakesTo b rest none items n)
      → IfErr fed (λ e. now.failed ≡ false → (b : List ℕ) → HasTaken now b → BreaksIn b rest none items e.place)
      → Starts now rest shown
  piece_starts empty same sense (Ok n) takes breaks = record {
    more = ended_in (after_bytes now (take n rest)) (drop n rest);
    whole = taken_ended now rest n ∙ ap (λ (rs : List Request). rs ++ ended_in (after_bytes now (take n rest))
        (drop n rest)) (sym (piece_fed empty same sense n takes));
  }
  piece_starts {none} {items} {shown} empty same sense (Err e) takes breaks = record {
    more = [];
    whole = sym (piece_broke empty same sense e.place (breaks f.going)) ∙ sym (append-nil shown);
  }

  pub piece_begun : {items : List Request} (printed' : List ℕ) → Starts now rest items → (told → Begins printed printed'
      (replies durable seal items)) → told → Begins before printed' (replies durable seal (ended_in first piece))
  piece_begun {items} printed' s begun t =
      begun_of durable seal before printed' (ended_in first f.done ++ items) s.more (ended_in first piece)
      (begun_more durable seal before printed printed' (ended_in first f.done) items (ended_in first f.done ++ items)
      (f.shown t) (begun t) refl) (all_of items s)

  pub piece_steps : {items : List Request} (steps' : ℕ) → Starts now rest items → steps' ≤ steps + length items
      → steps' ≤ opening + length (ended_in first piece)
  piece_steps {items} steps' s more =
      omega (
        arith,
        f.bounded,
        more,
        ap length (all_of items s),
        length-append (ended_in first f.done ++ items) s.more,
        length-append (ended_in first f.done) items,
      )

  -- a bad place came
  pub piece_bad : {none items shown : List Request} (printed' : List ℕ) → none ≡ [] → shown ≡ items → HasSense first
      → (place : ℕ) → (now.failed ≡ false → (b : List ℕ) → HasTaken now b → BreaksIn b rest none items place)
      → (told → printed' ≡ printed ++ replies durable seal shown) → (bad_of (after_bytes first piece) ≡ Some place)
      × (told → printed' ≡ before ++ replies durable seal (ended_in first piece))
  piece_bad {none} {items} {shown} printed' empty same sense place breaks here =
      let at = piece_sense sense in (
        ap bad_of whole_standing ∙ (ap (λ (s : Standing). bad_of (after_bytes s rest)) at.1
            ∙ (ap bad_of (sym (after-append (between 0) at.0 rest)) ∙ (breaks f.going at.0 at.1).bad)),
        λ t. printed_more durable seal before printed printed' (ended_in first f.done) shown (ended_in first piece)
            (f.shown t) (here t) (whole_ended ∙ ap (λ (rs : List Request). ended_in first f.done ++ rs)
            (sym (piece_broke empty same sense place (breaks f.going)))),
      )

  -- more of it was taken
  pub piece_more : (new : Standing) (printed' : List ℕ) (steps' n : ℕ) {none items shown : List Request}
      {rest' : List ℕ} → none ≡ [] → shown ≡ items → HasSense first → n ≤ length rest → rest' ≡ drop n rest
      → ((b : List ℕ) → HasTaken now b → HasTaken new (b ++ take n rest))
      → ((b : List ℕ) → HasTaken now b → TakesTo b rest none items n) → new.failed ≡ false → new.taken ≡ now.taken + n
      → (told → printed' ≡ printed ++ replies durable seal shown) → steps' ≤ steps + length shown
      → PieceSoFar told durable seal first new piece rest' before printed' opening steps'
  piece_more new printed' steps' n {none} {items} {shown} {rest'} empty same sense within rest_is taken takes going
      count here more =
      let at = piece_sense sense in
      let ended : ended_in first (f.done ++ take n rest) ≡ ended_in first f.done ++ shown =
      ended-append first f.done (take n rest)
      ∙ (ap (λ (s : Standing). ended_in first f.done ++ ended_in s (take n rest)) (sym f.now_is)
      ∙ ap (λ (rs : List Request). ended_in first f.done ++ rs) (sym (piece_fed empty same sense n takes))) in
      record {
        done = f.done ++ take n rest;
        split = f.split ∙ (ap (λ (l : List ℕ). f.done ++ l) (sym (take-append-drop n rest)
            ∙ ap (λ (l : List ℕ). take n rest ++ l) (sym rest_is)) ∙ sym (append_assoc f.done (take n rest) rest'));
        now_is = taken at.0 at.1 ∙ (after-append (between 0) at.0 (take n rest)
            ∙ (ap (λ (s : Standing). after_bytes s (take n rest)) (sym at.1 ∙ f.now_is)
            ∙ sym (after-append first f.done (take n rest))));
        going = going;
        counted = omega (arith, f.counted, count, within, length-append f.done (take n rest), length-take n rest);
        shown = λ t. printed_more durable seal before printed printed' (ended_in first f.done) shown
            (ended_in first (f.done ++ take n rest)) (f.shown t) (here t) ended;
        bounded = omega (arith, f.bounded, more, ap length ended, length-append (ended_in first f.done) shown);
      }

-- ---- a stream so far

keeps : KeepsBad serving.requests
keeps = record { stays = bad_stays; ends = bad_end }

parts : {stream : List ℕ} (taken left : List ℕ) → stream ≡ taken ++ left → IsSplit stream taken left
parts taken left bytes = record { bytes = bytes }

-- the replies to the requests of bytes of the stream were printed
pub record ServedSoFar (known told : Type 0) (durable : Durable) (seal : Seal) (port : Standing)
    (stream rest before printed : List ℕ) (left opening steps : ℕ) : Type 0 where
  pub taken : List ℕ
  pub stands : HasTaken port taken
  pub going : port.failed ≡ false
  pub count : port.taken ≡ length taken
  pub room : length taken + left ≡ stream_limit
  pub split : known → stream ≡ taken ++ rest
  pub shown : told → printed ≡ before ++ replies durable seal (requests_in taken)
  pub bounded : steps ≤ opening + length (requests_in taken)

module _ {known told : Type 0} {durable : Durable} {seal : Seal} {port : Standing}
    {stream rest before printed : List ℕ} {left opening steps : ℕ}
    (f : ServedSoFar known told durable seal port stream rest before printed left opening steps) where
  good : first_bad f.taken ≡ None
  good = going_port port f.taken f.stands f.going

  more_requests : (piece : List ℕ) → requests_in (f.taken ++ piece) ≡ requests_in f.taken ++ ended_in port piece
  more_requests piece = ended-append (between 0) f.taken piece
      ∙ ap (λ (s : Standing). requests_in f.taken ++ ended_in s piece) (sym f.stands)

  more_standing : (piece : List ℕ) → after_bytes port piece ≡ standing_after (f.taken ++ piece)
  more_standing piece =
      ap (λ (s : Standing). after_bytes s piece) f.stands ∙ sym (after-append (between 0) f.taken piece)

  longer : (piece rest' : List ℕ) → (known → rest ≡ piece ++ rest') → known → stream ≡ (f.taken ++ piece) ++ rest'
  longer piece rest' passes k =
      f.split k ∙ (ap (λ (l : List ℕ). f.taken ++ l) (passes k) ∙ sym (append_assoc f.taken piece rest'))

  -- a piece more was served
  pub served_next : (port' : Standing) (rest' printed' : List ℕ) (count left' steps' : ℕ) → left' + count ≡ left
      → ServesMore known told durable seal port port' rest rest' printed printed' steps steps' count
      → ServedSoFar known told durable seal port' stream rest' before printed' left' opening steps'
  served_next port' rest' printed' count left' steps' fewer h =
      let stands = h.taken f.taken f.stands in
      let behind = ended-append (between 0) f.taken h.piece in
      record {
        taken = f.taken ++ h.piece;
        stands = stands;
        going = h.going;
        count = going_count port' (f.taken ++ h.piece) stands h.going;
        room = omega (arith, f.room, fewer, h.long, length-append f.taken h.piece);
        split = longer h.piece rest' h.split;
        shown = λ t. printed_more durable seal before printed printed' (requests_in f.taken)
            (requests_after f.taken h.piece) (requests_in (f.taken ++ h.piece)) (f.shown t)
            (h.printed t f.taken f.stands) behind;
        bounded = omega (
          arith,
          f.bounded,
          h.bounded f.taken f.stands,
          ap length behind,
          length-append (requests_in f.taken) (requests_after f.taken h.piece),
        );
      }

  more_steps : (piece rest' : List ℕ) (steps' : ℕ) → (known → rest ≡ piece ++ rest')
      → steps' ≤ steps + length (ended_in port piece) → known → IsBoundedByRequests stream rest' opening steps'
  more_steps piece rest' steps' passes more k = record {
    taken = f.taken ++ piece;
    split = record { bytes = longer piece rest' passes k };
    bound = omega (
      arith,
      f.bounded,
      more,
      ap length (more_requests piece),
      length-append (requests_in f.taken) (ended_in port piece),
    );
  }

  -- ---- how it ends

  serves : (taken rest' printed' : List ℕ) (reached : StreamEnd) → ReachesEnd stream taken rest' reached
      → (told → printed' ≡ before ++ replies durable seal (requests_in taken))
      → ServesTo told durable seal stream rest' before printed' reached
  serves taken rest' printed' reached ends shown = record {
    taken = taken;
    ends = ends;
    printed = λ t. shown t ∙ ap (λ (rs : List Request). before ++ replies durable seal rs) (sym ends.given_is);
  }

  pub served_long : left ≡ 0 → known → ServesTo told durable seal stream rest before printed Endless
  served_long none k = serves f.taken rest printed Endless
      (endless_stream_reached serving.requests requests_in (parts f.taken rest (f.split k))
      (omega (arith, f.room, none)) good) f.shown

  at_end : (rest' : List ℕ) → rest ≡ [] → rest' ≡ [] → known → stream ≡ f.taken ++ rest'
  at_end rest' none none' k = f.split k ∙ ap (λ (l : List ℕ). f.taken ++ l) (none ∙ sym none')

  served_whole : (rest' : List ℕ) → 0 < left → (known → rest ≡ []) → (known → rest' ≡ []) → ((b : List ℕ)
      → HasTaken port b → bad_at_end b ≡ None) → known → ServesTo told durable seal stream rest' before printed Whole
  served_whole rest' some none none' whole k =
      serves f.taken rest' printed Whole (whole_stream_reached serving.requests requests_in
      (parts f.taken rest' (at_end rest' (none k) (none' k) k)) (none' k)
      (omega (arith, f.room, some)) (whole f.taken f.stands)) f.shown

  served_unfinished : (rest' : List ℕ) (place : ℕ) → 0 < left → (known → rest ≡ []) → (known → rest' ≡ [])
      → ((b : List ℕ) → HasTaken port b → bad_at_end b ≡ Some place) → known
      → ServesTo told durable seal stream rest' before printed (BadAt place)
  served_unfinished rest' place some none none' bad k =
      serves f.taken rest' printed (BadAt place) (unfinished_stream_reached serving.requests requests_in
      (parts f.taken rest' (at_end rest' (none k) (none' k) k)) (none' k)
      (omega (arith, f.room, some)) (bad f.taken f.stands)) f.shown

  served_bad : (piece rest' printed' : List ℕ) (place : ℕ) → length piece ≤ left → (known → rest ≡ piece ++ rest')
      → bad_of (after_bytes port piece) ≡ Some place
      → (told → printed' ≡ printed ++ replies durable seal (ended_in port piece)) → known
      → ServesTo told durable seal stream rest' before printed' (BadAt place)
  served_bad piece rest' printed' place few passes bad shown k =
      let is = ap bad_of (sym (more_standing piece)) ∙ bad in
      serves (f.taken ++ piece) rest' printed' (BadAt place)
      (bad_stream_reached serving.requests requests_in (parts (f.taken ++ piece) rest' (longer piece rest' passes k))
      keeps (λ more. bad_ends_requests (f.taken ++ piece) more place is)
      (omega (arith, f.room, few, length-append f.taken piece)) is)
      (λ t. printed_more durable seal before printed printed' (requests_in f.taken) (ended_in port piece)
      (requests_in (f.taken ++ piece)) (f.shown t) (shown t) (more_requests piece))

  served_broken : (piece rest' printed' : List ℕ) → (known → rest ≡ piece ++ rest')
      → (told → Begins printed printed' (replies durable seal (ended_in port piece))) → known
      → StopsAfter stream rest' (λ taken. Unit {0})
      (λ taken. told → Begins before printed' (replies durable seal (requests_in taken)))
  served_broken piece rest' printed' passes begun k = record {
    taken = f.taken ++ piece;
    split = record { bytes = longer piece rest' passes k };
    stands = tt;
    printed = λ t. begun_more durable seal before printed printed' (requests_in f.taken) (ended_in port piece)
        (requests_in (f.taken ++ piece)) (f.shown t) (begun t) (more_requests piece);
  }

  -- the end was found, a read failed, or a piece wasn't served whole
  pub stopped_whole : (port' : Standing) (rest' printed' : List ℕ) (most steps' : ℕ) → 0 < left
      → EndsHere known told durable seal most port port' rest rest' printed printed' steps steps' None → known
      → ServesTo told durable seal stream rest' before printed' Whole
  stopped_whole port' rest' printed' most steps' some h k =
      subst (λ (x : List ℕ). ServesTo told durable seal stream rest' before x Whole) (sym h.silent)
      (served_whole rest' some h.over h.over' h.ends k)

  pub stopped : (fault : PortFault) (port' : Standing) (rest' printed' : List ℕ) (most steps' : ℕ) → 0 < left
      → most ≤ left
      → StopsNext known told durable seal most port port' rest rest' printed printed' steps steps' (Err fault) → known
      → Serves told durable seal stream rest' before printed' (failed fault)
  stopped ReadFault port' rest' printed' most steps' some few h k = record {
    taken = f.taken;
    split = record { bytes = f.split k ∙ ap (λ (l : List ℕ). f.taken ++ l) (sym (h.unread k)) };
    stands = record { good = good; few = omega (arith, f.room, some) };
    printed = λ t. h.silent ∙ f.shown t;
  }
  stopped BoardFault port' rest' printed' most steps' some few h k =
      served_broken h.piece rest' printed' h.split h.serves k
  stopped (Frame place) port' rest' printed' most steps' some few (inl h) k =
      subst (λ (x : List ℕ). ServesTo told durable seal stream rest' before x (BadAt place)) (sym h.silent)
      (served_unfinished rest' place some h.over h.over' h.ends k)
  stopped (Frame place) port' rest' printed' most steps' some few (inr h) k =
      served_bad h.piece rest' printed' place (omega (arith, h.few, few)) h.split h.serves.0 h.serves.1 k
  stopped TooLong port' rest' printed' most steps' some few h k = absurd h

  -- and the steps
  same_steps : (rest' : List ℕ) (steps' : ℕ) → stream ≡ f.taken ++ rest' → steps' ≡ steps
      → IsBoundedByRequests stream rest' opening steps'
  same_steps rest' steps' split still =
      record { taken = f.taken; split = record { bytes = split }; bound = omega (arith, f.bounded, still) }

  pub whole_steps : (port' : Standing) (rest' printed' : List ℕ) (most steps' : ℕ) (end : Option ℕ)
      → EndsHere known told durable seal most port port' rest rest' printed printed' steps steps' end → known
      → IsBoundedByRequests stream rest' opening steps'
  whole_steps port' rest' printed' most steps' end h k =
      same_steps rest' steps' (at_end rest' (h.over k) (h.over' k) k) h.still

  pub stopped_steps : (fault : PortFault) (port' : Standing) (rest' printed' : List ℕ) (most steps' : ℕ)
      → StopsNext known told durable seal most port port' rest rest' printed printed' steps steps' (Err fault) → known
      → IsBoundedByRequests stream rest' opening steps'
  stopped_steps ReadFault port' rest' printed' most steps' h k =
      same_steps rest' steps' (f.split k ∙ ap (λ (l : List ℕ). f.taken ++ l) (sym (h.unread k))) h.still
  stopped_steps BoardFault port' rest' printed' most steps' h k =
      more_steps h.piece rest' steps' h.split h.bounded k
  stopped_steps (Frame place) port' rest' printed' most steps' (inl h) k =
      whole_steps port' rest' printed' most steps' (Some place) h k
  stopped_steps (Frame place) port' rest' printed' most steps' (inr h) k =
      more_steps h.piece rest' steps' h.split h.bounded k
  stopped_steps TooLong port' rest' printed' most steps' h k = absurd h

-- ---- one piece of a stream

-- a piece that was served whole
pub more_of : {known told : Type 0} {durable : Durable} {seal : Seal} {old new : Standing}
    {rest rest' before now : List ℕ} {steps steps' count : ℕ} (piece : List ℕ) → length piece ≡ count → 0 < count
    → (known → rest ≡ piece ++ rest') → new ≡ after_bytes old piece → new.failed ≡ false
    → (told → now ≡ before ++ replies durable seal (ended_in old piece)) → steps' ≤ steps + length (ended_in old piece)
    → ServesMore known told durable seal old new rest rest' before now steps steps' count
more_of {known} {told} {durable} {seal} {old} {new} {rest} {rest'} {before} {now} {steps} {steps'} piece long some split
    is going printed bounded = record {
      piece = piece;
      long = long;
      some = some;
      split = split;
      going = going;
      taken = λ bytes at. is ∙ (ap (λ (s : Standing). after_bytes s piece) at
          ∙ sym (after-append (between 0) bytes piece));
      printed = λ t bytes at. subst (λ (s : Standing). now ≡ before ++ replies durable seal (ended_in s piece)) at
          (printed t);
      bounded = λ bytes at. subst (λ (s : Standing). steps' ≤ steps + length (ended_in s piece)) at bounded;
    }
