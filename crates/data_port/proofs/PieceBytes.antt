-- What a piece changes of a port, byte by byte.
use Rattle.std.{specs.List.{All}, proofs.lemmas.List.{append-nil, take-append-drop, take_more}}
use Rattle.std.proofs.Common.{[], ℕ, ◌++◌, ◌+◌, ◌<◌, ◌∙◌, ◌∷◌, ◌≡◌, ◌≤◌, ◌⊎◌, Bool, List, None, Some, ap, append_assoc}
use Rattle.std.proofs.Common.{arith, drop, false, get_or, inl, inr, length, refl, subst, sym, take, true}
use Rattle.std.proofs.lemmas.{Bool.{both_ways, cases_Bool, cases_lt, cond-false, cond-true}, List.Elements.{All-append}}
use Rattle.data_port.specs.{Reading.{BreaksIn, HasSense, HasTaken, Standing, TakesTo, between}, ReadingStages.{has_all}}
use Rattle.data_port.specs.ReadingStages.{after_byte, after_bytes, after_good, bad_of, ended_by, ended_in, follows}
use Rattle.data_port.specs.Requests.{IsRequest}
use Rattle.data_port.{specs.declared.request.Request.{Request}, proofs.Streams.{added_good, bad_none}}
use Rattle.data_port.proofs.Runs.{after-append, bad_byte, bad_ended, ended-append, good_byte, stuck}

-- ---- a byte

after_taken : (s : Standing) (byte : ℕ) → (all : Bool) → has_all s.part ≡ all → (after_good s byte).taken ≡ s.taken + 1
after_taken s byte true is = ap (λ (t : Standing). t.taken) (cond-true (has_all s.part) (between (s.taken + 1))
    (record { taken = s.taken + 1; part = s.part ++ byte ∷ []; failed = false }) is)
after_taken s byte false is = ap (λ (t : Standing). t.taken) (cond-false (has_all s.part) (between (s.taken + 1))
    (record { taken = s.taken + 1; part = s.part ++ byte ∷ []; failed = false }) is)

after_going : (s : Standing) (byte : ℕ) → (all : Bool) → has_all s.part ≡ all → (after_good s byte).failed ≡ false
after_going s byte true is = ap (λ (t : Standing). t.failed) (cond-true (has_all s.part) (between (s.taken + 1))
    (record { taken = s.taken + 1; part = s.part ++ byte ∷ []; failed = false }) is)
after_going s byte false is = ap (λ (t : Standing). t.failed) (cond-false (has_all s.part) (between (s.taken + 1))
    (record { taken = s.taken + 1; part = s.part ++ byte ∷ []; failed = false }) is)

-- a byte that may be taken counts
counts : (s : Standing) (byte : ℕ) → s.failed ≡ false → (after_byte s byte).failed ≡ false
    → (after_byte s byte).taken ≡ s.taken + 1
counts s byte going good = either (cases_Bool (follows s.part byte))
  where
    either : (follows s.part byte ≡ true) ⊎ (follows s.part byte ≡ false) → (after_byte s byte).taken ≡ s.taken + 1
    either (inl fits) =
        ap (λ (t : Standing). t.taken) (good_byte s byte going fits) ∙ after_taken s byte (has_all s.part) refl
    either (inr bad) =
        absurd (both_ways (after_byte s byte).failed good (ap (λ (t : Standing). t.failed) (bad_byte s byte going bad)))

-- another ends nothing
ends_nothing : (s : Standing) (byte : ℕ) → s.failed ≡ false → (after_byte s byte).failed ≡ true → ended_by s byte ≡ []
ends_nothing s byte going failed = either (cases_Bool (follows s.part byte))
  where
    either : (follows s.part byte ≡ true) ⊎ (follows s.part byte ≡ false) → ended_by s byte ≡ []
    either (inl fits) = absurd (both_ways (after_byte s byte).failed (ap (λ (t : Standing). t.failed)
        (good_byte s byte going fits) ∙ after_going s byte (has_all s.part) refl) failed)
    either (inr bad) = bad_ended s byte going bad

-- and counts nothing
fails_count : (s : Standing) (byte : ℕ) → s.failed ≡ false → (after_byte s byte).failed ≡ true
    → (after_byte s byte).taken ≡ s.taken
fails_count s byte going failed = either (cases_Bool (follows s.part byte))
  where
    either : (follows s.part byte ≡ true) ⊎ (follows s.part byte ≡ false) → (after_byte s byte).taken ≡ s.taken
    either (inl fits) = absurd (both_ways (after_byte s byte).failed (ap (λ (t : Standing). t.failed)
        (good_byte s byte going fits) ∙ after_going s byte (has_all s.part) refl) failed)
    either (inr bad) = ap (λ (t : Standing). t.taken) (bad_byte s byte going bad)

-- ---- the bytes of a piece so far

pub record Feeds (first now : Standing) (piece : List ℕ) (count : ℕ) (old new : List Request) : Type 0 where
  pub now_is : now ≡ after_bytes first (take count piece)
  pub going : now.failed ≡ false
  pub counted : now.taken ≡ first.taken + count
  pub added : new ≡ old ++ ended_in first (take count piece)
  pub not_before : (sooner : ℕ) → sooner < count → length (old ++ ended_in first (take sooner piece)) < 64

-- requests in their ranges stay so
good_added : (first : Standing) (old new : List Request) (bytes : List ℕ) → HasSense first
    → new ≡ old ++ ended_in first bytes → All IsRequest old → All IsRequest new
good_added first old new bytes sense is good =
    let more : All IsRequest (ended_in first bytes) =
    subst (λ (s : Standing). All IsRequest (ended_in s bytes)) (sym sense.1) (added_good sense.0 bytes) in
    subst (All IsRequest) (sym is) (All-append IsRequest old (ended_in first bytes) good more)

-- with one byte more
next_after : {now : Standing} (first : Standing) (piece : List ℕ) (count : ℕ)
    → now ≡ after_bytes first (take count piece) → count < length piece
    → after_bytes first (take (count + 1) piece) ≡ after_byte now (get_or piece count 0)
next_after first piece count is lt =
    ap (after_bytes first) (take_more piece count 0 lt) ∙ (after-append first (take count piece)
    (get_or piece count 0 ∷ []) ∙ ap (λ (s : Standing). after_byte s (get_or piece count 0)) (sym is))

module _ {first now : Standing} {piece : List ℕ} {count : ℕ} {old mid : List Request}
    (f : Feeds first now piece count old mid) where
  next_ended : count < length piece → ended_in first (take (count + 1) piece)
      ≡ ended_in first (take count piece) ++ ended_by now (get_or piece count 0)
  next_ended lt =
      let byte = get_or piece count 0 in
      let front = ended_in first (take count piece) in
      ap (ended_in first) (take_more piece count 0 lt) ∙ (ended-append first (take count piece) (byte ∷ [])
      ∙ (ap (λ (rs : List Request). front ++ rs) (append-nil (ended_by (after_bytes first (take count piece)) byte))
      ∙ ap (λ (s : Standing). front ++ ended_by s byte) (sym f.now_is)))

  next_added : {new : List Request} → count < length piece → new ≡ mid ++ ended_by now (get_or piece count 0)
      → new ≡ old ++ ended_in first (take (count + 1) piece)
  next_added lt is =
      let byte = get_or piece count 0 in
      is ∙ (ap (λ (rs : List Request). rs ++ ended_by now byte) f.added
      ∙ (append_assoc old (ended_in first (take count piece)) (ended_by now byte)
      ∙ ap (λ (rs : List Request). old ++ rs) (sym (next_ended lt))))

  pub feeds_more : {after : Standing} {new : List Request} → count < length piece → length mid < 64
      → after ≡ after_byte now (get_or piece count 0) → new ≡ mid ++ ended_by now (get_or piece count 0)
      → after.failed ≡ false → Feeds first after piece (count + 1) old new
  feeds_more lt room is added going =
      let good = sym (ap (λ (s : Standing). s.failed) is) ∙ going in
      record {
        now_is = is ∙ sym (next_after first piece count f.now_is lt);
        going = going;
        counted =
            omega (arith, ap (λ (s : Standing). s.taken) is, counts now (get_or piece count 0) f.going good, f.counted);
        added = next_added lt added;
        not_before = λ sooner less. either sooner (cases_lt sooner count) less;
      }
    where
      either : (sooner : ℕ) → (sooner < count) ⊎ (count ≤ sooner) → sooner < count + 1
          → length (old ++ ended_in first (take sooner piece)) < 64
      either sooner (inl before) less = f.not_before sooner before
      either sooner (inr here) less =
          let same : count ≡ sooner = omega arith in
          subst (λ (n : ℕ). length (old ++ ended_in first (take n piece)) < 64) same
          (omega (arith, room, ap length f.added))

  -- the bytes of a port that has taken others before
  pub feeds_taken : (b : List ℕ) → HasTaken first b → HasTaken now (b ++ take count piece)
  feeds_taken b h =
      f.now_is ∙ (ap (λ (s : Standing). after_bytes s (take count piece)) h
      ∙ sym (after-append (between 0) b (take count piece)))

  pub feeds_sense : HasSense first → HasSense now
  feeds_sense h = (h.0 ++ take count piece, feeds_taken h.0 h.1)

  pub feeds_to : count ≤ length piece → (count ≡ length piece) ⊎ (length mid ≡ 64) → (b : List ℕ) → HasTaken first b
      → TakesTo b piece old mid count
  feeds_to within ends b h = record {
    within = within;
    good = bad_none (b ++ take count piece) (sym (ap (λ (s : Standing). s.failed) (feeds_taken b h)) ∙ f.going);
    requests = f.added ∙ ap (λ (s : Standing). old ++ ended_in s (take count piece)) h;
    ends = ends;
    not_before = λ sooner less. subst (λ (s : Standing). length (old ++ ended_in s (take sooner piece)) < 64) h
        (f.not_before sooner less);
  }

  pub feeds_range : HasSense first → All IsRequest old → All IsRequest mid
  feeds_range sense = good_added first old mid (take count piece) sense f.added

  pub next_range : {new : List Request} → HasSense first → count < length piece
      → new ≡ mid ++ ended_by now (get_or piece count 0) → All IsRequest old → All IsRequest new
  next_range {new} sense lt is = good_added first old new (take (count + 1) piece) sense (next_added lt is)

-- ---- a bad place comes

module _ {first now after : Standing} {piece : List ℕ} {count : ℕ} {old mid : List Request}
    (f : Feeds first now piece count old mid) (lt : count < length piece)
    (is : after ≡ after_byte now (get_or piece count 0)) (failed : after.failed ≡ true) where
  then_failed : (after_byte now (get_or piece count 0)).failed ≡ true
  then_failed = sym (ap (λ (s : Standing). s.failed) is) ∙ failed

  fails_after : after_bytes first piece ≡ after
  fails_after =
      ap (after_bytes first) (sym (take-append-drop (count + 1) piece))
      ∙ (after-append first (take (count + 1) piece) (drop (count + 1) piece)
      ∙ (ap (λ (s : Standing). after_bytes s (drop (count + 1) piece))
      (next_after first piece count f.now_is lt ∙ sym is)
      ∙ (stuck after (drop (count + 1) piece) failed).after))

  fails_ended : ended_in first piece ≡ ended_in first (take (count + 1) piece)
  fails_ended =
      let front = ended_in first (take (count + 1) piece) in
      let behind = drop (count + 1) piece in
      ap (ended_in first) (sym (take-append-drop (count + 1) piece))
      ∙ (ended-append first (take (count + 1) piece) behind
      ∙ (ap (λ (s : Standing). front ++ ended_in s behind) (next_after first piece count f.now_is lt ∙ sym is)
      ∙ (ap (λ (rs : List Request). front ++ rs) (stuck after behind failed).ended ∙ append-nil front)))

  pub breaks_taken : (b : List ℕ) → HasTaken first b → HasTaken after (b ++ piece)
  breaks_taken b h =
      sym fails_after ∙ (ap (λ (s : Standing). after_bytes s piece) h ∙ sym (after-append (between 0) b piece))

  pub breaks_in : {new : List Request} {place : ℕ} → new ≡ mid ++ ended_by now (get_or piece count 0) → length mid < 64
      → place ≡ after.taken → (b : List ℕ) → HasTaken first b → BreaksIn b piece old new place
  breaks_in added room place_is b h =
      let byte = get_or piece count 0 in
      let none : ended_by now byte ≡ [] = ends_nothing now byte f.going then_failed in
      let same = added ∙ (ap (λ (rs : List Request). mid ++ rs) none ∙ append-nil mid) in
      record {
        bad = ap bad_of (sym (breaks_taken b h))
            ∙ (cond-true after.failed (Some after.taken) None failed ∙ ap Some (sym place_is));
        requests = next_added f lt added ∙ (ap (λ (rs : List Request). old ++ rs) (sym fails_ended)
            ∙ ap (λ (s : Standing). old ++ ended_in s piece) h);
        room = omega (arith, room, ap length same);
      }

  pub breaks_count : after.taken ≤ first.taken + length piece
  breaks_count =
      omega (
        arith,
        f.counted,
        lt,
        ap (λ (s : Standing). s.taken) is,
        fails_count now (get_or piece count 0) f.going then_failed,
      )

-- a port that has failed takes whatever comes
pub failed_stays : (s : Standing) (b piece : List ℕ) → HasTaken s b → s.failed ≡ true → HasTaken s (b ++ piece)
failed_stays s b piece h failed =
    sym (stuck s piece failed).after
    ∙ (ap (λ (t : Standing). after_bytes t piece) h ∙ sym (after-append (between 0) b piece))
