-- Rules: a stream of bytes that is taken from its front, how it ends, and what the bytes that were taken tell of that.
use Rattle.std.specs.Prelude.{[], ℕ, ◌++◌, ◌<◌, ◌≡◌, ◌⊎◌, List, None, Option, Some, if◌then◌else◌, length, nat_lt, take}

-- at most 2^40 bytes of a stream are taken
abbrev pub stream_limit : ℕ
stream_limit = 1099511627776

-- a stream ends whole, or at its first bad place, or it reaches the limit of bytes and no end of it is seen
pub data StreamEnd : Type 0 where
  Whole : StreamEnd
  BadAt : (place : ℕ) → StreamEnd
  Endless : StreamEnd

-- a kind of stream tells of bytes which place is the first bad one among them, and which it is if none follow them
pub record StreamKind : Type 0 where
  pub first_bad : List ℕ → Option ℕ
  pub bad_at_end : List ℕ → Option ℕ

-- a kind of stream keeps what is bad if the first bad place of bytes stays the first, whatever follows them
pub record KeepsBad (kind : StreamKind) : Type 0 where
  pub stays : (bytes more : List ℕ) (place : ℕ) → kind.first_bad bytes ≡ Some place
      → kind.first_bad (bytes ++ more) ≡ Some place
  pub ends : (bytes : List ℕ) (place : ℕ) → kind.first_bad bytes ≡ Some place → kind.bad_at_end bytes ≡ Some place

-- a stream is split into the bytes that were taken, in front, and those that are left
pub record IsSplit (stream taken left : List ℕ) : Type 0 where
  pub bytes : stream ≡ taken ++ left

-- a call stopped after it had taken some bytes of a stream if `state`, of what stands then, and `shown`, of what is
-- printed, hold of these bytes
pub record StopsAfter (stream left : List ℕ) (state shown : List ℕ → Type 0) : Type 0 where
  pub taken : List ℕ
  pub split : IsSplit stream taken left
  pub stands : state taken
  pub printed : shown taken

-- a stream ends at its first bad place if it has one, and else as the other answer says
abbrev pub end_by : Option ℕ → StreamEnd → StreamEnd
end_by (Some place) other = BadAt place
end_by None other = other

-- a stream with fewer bytes than the limit ends at its first bad place, which may be its end, or whole; of a longer one
-- only the bytes up to the limit count, and it is endless if none of them is bad
abbrev pub end_of : StreamKind → (stream : List ℕ) → StreamEnd
end_of kind stream =
    if nat_lt (length stream) stream_limit
    then end_by (kind.bad_at_end stream) Whole
    else end_by (kind.first_bad (take stream_limit stream)) Endless

-- what a stream gives is what its bytes up to the limit give
abbrev pub given_of : {A : Type 0} → (gives : List ℕ → A) → (stream : List ℕ) → A
given_of gives stream = gives (take stream_limit stream)

-- a stream goes on after the bytes that were taken if none of their places is bad and they are fewer than the limit
pub record IsGoing (kind : StreamKind) (taken : List ℕ) : Type 0 where
  pub good : kind.first_bad taken ≡ None
  pub few : length taken < stream_limit

-- bytes that were taken, and those that are left, show an end of the stream: nothing is left of a whole one; a bad
-- place is among the bytes taken, or it is at the end and nothing is left; of an endless one as many bytes were taken
-- as may be
abbrev pub ShowsEnd : StreamKind → StreamEnd → (taken left : List ℕ) → Type 0
ShowsEnd kind Whole taken left = left ≡ []
ShowsEnd kind (BadAt place) taken left =
    (kind.first_bad taken ≡ Some place) ⊎ ((left ≡ []) × (kind.bad_at_end taken ≡ Some place))
ShowsEnd kind Endless taken left = length taken ≡ stream_limit

-- what is left of a stream tells its end if the bytes taken before it show how the stream ends
pub record TellsEnd (kind : StreamKind) (stream left : List ℕ) : Type 0 where
  pub taken : List ℕ
  pub split : IsSplit stream taken left
  pub shows : ShowsEnd kind (end_of kind stream) taken left

-- a stream is taken to an end if it has that end, and the bytes that were taken show it
pub record IsTakenTo (kind : StreamKind) (stream taken left : List ℕ) (reached : StreamEnd) : Type 0 where
  pub end_is : end_of kind stream ≡ reached
  pub split : IsSplit stream taken left
  pub shows : ShowsEnd kind (end_of kind stream) taken left

-- a reading reaches an end of a stream if the stream is taken to it, and the bytes taken give all that the stream gives
pub record ReachesEnd {A : Type 0} (kind : StreamKind) (gives : List ℕ → A) (stream taken left : List ℕ)
    (reached : StreamEnd) : Type 0 where
  pub ends : IsTakenTo kind stream taken left reached
  pub given_is : given_of gives stream ≡ gives taken
