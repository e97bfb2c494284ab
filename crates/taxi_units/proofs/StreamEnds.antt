-- How streams end, from the bytes that were taken.
use Rattle.std.proofs.Common.{[], ℕ, ◌++◌, ◌+◌, ◌-◌, ◌<◌, ◌∙◌, ◌≡◌, ◌≤◌, ◌⊎◌, List, None, Option, Some, ap, arith, inl}
use Rattle.std.proofs.{Common.{inr, length, length-append, nat_lt, subst, sym, take}, Math.Seq.{take-append-add}}
use Rattle.std.proofs.lemmas.{Bool.{cases_lt, cond-false, cond-true, le-ltb, lt-ltb}, List.{append-nil, take_all}}
use Rattle.taxi_units.specs.Streams.{BadAt, Endless, IsSplit, IsTakenTo, KeepsBad, ReachesEnd, ShowsEnd, StreamEnd}
use Rattle.taxi_units.specs.Streams.{StreamKind, Whole, end_by, end_of, stream_limit}

-- ---- the bytes up to the limit

pub limits_fall_behind_what_was_taken : (stream taken left : List ℕ) → IsSplit stream taken left
    → length taken ≤ stream_limit → take stream_limit stream ≡ taken ++ take (stream_limit - length taken) left
limits_fall_behind_what_was_taken stream taken left split few =
    let n : stream_limit ≡ length taken + (stream_limit - length taken) = omega arith in
    ap (take stream_limit) split.bytes
    ∙ (ap (λ (k : ℕ). take k (taken ++ left)) n ∙ take-append-add taken left (stream_limit - length taken))

all_taken : (stream taken left : List ℕ) → IsSplit stream taken left → left ≡ [] → stream ≡ taken
all_taken stream taken left split none =
    split.bytes ∙ (ap (λ (bytes : List ℕ). taken ++ bytes) none ∙ append-nil taken)

pub limits_have_all_that_was_taken : (stream taken left : List ℕ) → IsSplit stream taken left
    → length taken ≤ stream_limit → (left ≡ []) ⊎ (length taken ≡ stream_limit) → take stream_limit stream ≡ taken
limits_have_all_that_was_taken stream taken left split few (inl none) =
    ap (take stream_limit) (all_taken stream taken left split none) ∙ take_all stream_limit taken few
limits_have_all_that_was_taken stream taken left split few (inr full) =
    let none : stream_limit - length taken ≡ 0 = omega (arith, full) in
    limits_fall_behind_what_was_taken stream taken left split few
    ∙ (ap (λ (k : ℕ). taken ++ take k left) none ∙ append-nil taken)

-- ---- the end

module _ (kind : StreamKind) where
  short_end : (stream : List ℕ) → length stream < stream_limit
      → end_of kind stream ≡ end_by (kind.bad_at_end stream) Whole
  short_end stream few =
      cond-true (nat_lt (length stream) stream_limit) (end_by (kind.bad_at_end stream) Whole)
      (end_by (kind.first_bad (take stream_limit stream)) Endless) (lt-ltb (length stream) stream_limit few)

  long_end : (stream : List ℕ) → stream_limit ≤ length stream
      → end_of kind stream ≡ end_by (kind.first_bad (take stream_limit stream)) Endless
  long_end stream many =
      cond-false (nat_lt (length stream) stream_limit) (end_by (kind.bad_at_end stream) Whole)
      (end_by (kind.first_bad (take stream_limit stream)) Endless) (le-ltb (length stream) stream_limit many)

  taken_to : (stream taken left : List ℕ) (reached : StreamEnd) → IsSplit stream taken left
      → end_of kind stream ≡ reached → ShowsEnd kind reached taken left → IsTakenTo kind stream taken left reached
  taken_to stream taken left reached split is shows = record {
    end_is = is;
    split = split;
    shows = subst (λ (e : StreamEnd). ShowsEnd kind e taken left) (sym is) shows;
  }

  pub whole_stream_ends : (stream taken left : List ℕ) → IsSplit stream taken left → left ≡ []
      → length taken < stream_limit → kind.bad_at_end taken ≡ None → IsTakenTo kind stream taken left Whole
  whole_stream_ends stream taken left split none few good =
      taken_to stream taken left Whole split (ap (end_of kind) (all_taken stream taken left split none)
      ∙ (short_end taken few ∙ ap (λ (o : Option ℕ). end_by o Whole) good)) none

  pub unfinished_stream_ends : (stream taken left : List ℕ) (place : ℕ) → IsSplit stream taken left → left ≡ []
      → length taken < stream_limit → kind.bad_at_end taken ≡ Some place
      → IsTakenTo kind stream taken left (BadAt place)
  unfinished_stream_ends stream taken left place split none few bad =
      taken_to stream taken left (BadAt place) split (ap (end_of kind) (all_taken stream taken left split none)
      ∙ (short_end taken few ∙ ap (λ (o : Option ℕ). end_by o Whole) bad)) (inr (none, bad))

  bad_end : (stream taken left : List ℕ) (place : ℕ) → KeepsBad kind → IsSplit stream taken left
      → length taken ≤ stream_limit → kind.first_bad taken ≡ Some place
      → (length stream < stream_limit) ⊎ (stream_limit ≤ length stream) → end_of kind stream ≡ BadAt place
  bad_end stream taken left place keeps split few bad (inl short) =
      let there : kind.first_bad stream ≡ Some place =
      ap (λ (bytes : List ℕ). kind.first_bad bytes) split.bytes ∙ keeps.stays taken left place bad in
      short_end stream short ∙ ap (λ (o : Option ℕ). end_by o Whole) (keeps.ends stream place there)
  bad_end stream taken left place keeps split few bad (inr long) =
      let there : kind.first_bad (take stream_limit stream) ≡ Some place =
      ap (λ (bytes : List ℕ). kind.first_bad bytes) (limits_fall_behind_what_was_taken stream taken left split few)
      ∙ keeps.stays taken (take (stream_limit - length taken) left) place bad in
      long_end stream long ∙ ap (λ (o : Option ℕ). end_by o Endless) there

  pub bad_stream_ends : (stream taken left : List ℕ) (place : ℕ) → KeepsBad kind → IsSplit stream taken left
      → length taken ≤ stream_limit → kind.first_bad taken ≡ Some place
      → IsTakenTo kind stream taken left (BadAt place)
  bad_stream_ends stream taken left place keeps split few bad =
      taken_to stream taken left (BadAt place) split
      (bad_end stream taken left place keeps split few bad (cases_lt (length stream) stream_limit)) (inl bad)

  pub endless_stream_ends : (stream taken left : List ℕ) → IsSplit stream taken left
      → length taken ≡ stream_limit → kind.first_bad taken ≡ None → IsTakenTo kind stream taken left Endless
  endless_stream_ends stream taken left split full good =
      let long : stream_limit ≤ length stream =
      omega (arith, full, ap length split.bytes, length-append taken left) in
      let there : kind.first_bad (take stream_limit stream) ≡ None =
      ap (λ (bytes : List ℕ). kind.first_bad bytes)
      (limits_have_all_that_was_taken stream taken left split (omega (arith, full)) (inr full)) ∙ good in
      taken_to stream taken left Endless split
      (long_end stream long ∙ ap (λ (o : Option ℕ). end_by o Endless) there) full

-- ---- and what the stream gives, which the bytes that were taken give

module _ {A : Type 0} (kind : StreamKind) (gives : List ℕ → A) {stream taken left : List ℕ}
    (split : IsSplit stream taken left) where
  pub whole_stream_reached : left ≡ [] → length taken < stream_limit → kind.bad_at_end taken ≡ None
      → ReachesEnd kind gives stream taken left Whole
  whole_stream_reached none few good = record {
    ends = whole_stream_ends kind stream taken left split none few good;
    given_is = ap gives (limits_have_all_that_was_taken stream taken left split (omega (arith, few)) (inl none));
  }

  pub unfinished_stream_reached : {place : ℕ} → left ≡ [] → length taken < stream_limit
      → kind.bad_at_end taken ≡ Some place → ReachesEnd kind gives stream taken left (BadAt place)
  unfinished_stream_reached {place} none few bad = record {
    ends = unfinished_stream_ends kind stream taken left place split none few bad;
    given_is = ap gives (limits_have_all_that_was_taken stream taken left split (omega (arith, few)) (inl none));
  }

  pub bad_stream_reached : {place : ℕ} → KeepsBad kind → ((more : List ℕ) → gives (taken ++ more) ≡ gives taken)
      → length taken ≤ stream_limit → kind.first_bad taken ≡ Some place
      → ReachesEnd kind gives stream taken left (BadAt place)
  bad_stream_reached {place} keeps ends few bad = record {
    ends = bad_stream_ends kind stream taken left place keeps split few bad;
    given_is = ap gives (limits_fall_behind_what_was_taken stream taken left split few)
        ∙ ends (take (stream_limit - length taken) left);
  }

  pub endless_stream_reached : length taken ≡ stream_limit → kind.first_bad taken ≡ None
      → ReachesEnd kind gives stream taken left Endless
  endless_stream_reached full good = record {
    ends = endless_stream_ends kind stream taken left split full good;
    given_is = ap gives (limits_have_all_that_was_taken stream taken left split (omega (arith, full)) (inr full));
  }
