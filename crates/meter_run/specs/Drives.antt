-- Rules: a drive that is carried out from its first byte to its end.
use Rattle.std.specs.Prelude.{ℕ, ◌*◌, ◌++◌, ◌+◌, ◌≡◌, ◌≤◌, Err, List, Ok, Result, length}
use Rattle.{taxi_units.specs.Streams.{StopsAfter}, drive_text.specs.Ending.{IsGoing, TellsEnd}}
use Rattle.meter_run.specs.Common.{BadAt, Begins, Endless, EndsBy, Event, IsSettingOf, IsSplit, RunFault, Seal, Setting}
use Rattle.meter_run.specs.Common.{Stop, StreamEnd, TableParts, Whole, drive_end, events_in, stream_limit}
use Rattle.meter_run.specs.{Supply.{drop_steps}, Texts.{drive_shown}}
use Rattle.meter_run.specs.declared.fault.RunFault.TheVariants.{BadDrive, BoardFault, ReadFault, TooLong}
use Rattle.drive_source.specs.declared.source.Stop.TheVariants as stops

-- the steps of events are bounded if the count of steps rose from `before` to `now` by at most 64 for each event
abbrev pub IsBounded : (before now : ℕ) → List Event → Type 0
IsBounded before now events = now ≤ before + 64 * length events

-- ---- with whatever carries out events

-- a reading takes a drive if it stops for the reason `stop`, and the events of the bytes that were taken were carried
-- out
pub record TakesDrive (told : Type 0) (drive left : List ℕ) (stop : Stop) (done : List Event → Type 0)
    (before now : ℕ) : Type 0 where
  pub taken : List ℕ
  pub few : length taken ≤ stream_limit
  pub split : told → IsSplit drive taken left
  pub ends : told → EndsBy drive taken left stop
  pub carried : done (events_in taken)
  pub bounded : IsBounded before now (events_in taken)

-- a reading breaks off amid a drive if the events of the bytes that were taken broke off
pub record BreaksDrive (told : Type 0) (drive left : List ℕ) (broken : List Event → Type 0)
    (before now : ℕ) : Type 0 where
  pub taken : List ℕ
  pub few : length taken ≤ stream_limit
  pub split : told → IsSplit drive taken left
  pub broke_off : broken (events_in taken)
  pub bounded : IsBounded before now (events_in taken)

-- ---- what a dry run of a drive prints

-- the steps of a call are bounded by a drive if their count rose from `before` to `now` by at most `spare`, and 64 for
-- each event of some bytes; the supply drop behind them takes 64 more, if the supply is there then; the bytes are at
-- most 2^40, and if the drive is told they are those that were taken of it
pub record IsBoundedByDrive (spare : ℕ) (told : Type 0) (drive left : List ℕ) (before now : ℕ) : Type 0 where
  pub taken : List ℕ
  pub few : length taken ≤ stream_limit
  pub split : told → IsSplit drive taken left
  pub bound : now ≤ before + spare + 64 * length (events_in taken) + drop_steps (events_in taken)

module _ (told : Type 0) (tables : TableParts) (seal : Seal) (drive left before now : List ℕ) where
  -- a text is printed if it is what the bytes that were taken show, if the text is told
  abbrev pub Printed : (taken : List ℕ) → Type 0
  Printed taken = told → (s : Setting) → IsSettingOf s tables seal → now ≡ before ++ drive_shown s taken

  -- a text is printed in part if it is a beginning of what the bytes that were taken show, if the text is told
  abbrev pub PrintedSome : (taken : List ℕ) → Type 0
  PrintedSome taken = told → (s : Setting) → IsSettingOf s tables seal → Begins before now (drive_shown s taken)

  -- a dry run came to an end of the drive if the drive has that end, the bytes that were taken tell it, and what the
  -- drive shows was printed
  pub record RunsTo (reached : StreamEnd) : Type 0 where
    pub end_is : drive_end drive ≡ reached
    pub tells : TellsEnd drive left
    pub printed : Printed drive

  -- a dry run ends as its answer says: at the drive's end; after a read that failed, with what the bytes taken show
  -- printed; or after a fault of the board, with a beginning of it printed
  abbrev pub RunsDrive : {T : Type 0} → Result T RunFault → Type 0
  RunsDrive (Ok done) = RunsTo Whole
  RunsDrive (Err (BadDrive line)) = RunsTo (BadAt line)
  RunsDrive (Err TooLong) = RunsTo Endless
  RunsDrive (Err ReadFault) = StopsAfter drive left IsGoing Printed
  RunsDrive (Err BoardFault) = StopsAfter drive left (λ taken. Unit {0}) PrintedSome

-- the answer of a run that stopped is `Ok` if the drive was whole, and else the fault for which it stopped
abbrev pub answer_of : Stop → Result (Unit {0}) RunFault
answer_of stops.Whole = Ok tt
answer_of (stops.BadLine line) = Err (BadDrive line)
answer_of stops.TooLong = Err TooLong
answer_of stops.ReadFault = Err ReadFault
