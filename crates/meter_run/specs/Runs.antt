-- Rules: a run on the store, what it does, how it ends, and what a cut of the power leaves of it.
use Rattle.std.specs.{Option.{ForSome}, Prelude.{ℕ, ◌++◌, ◌≡◌, Err, List, Ok, Result}}
use Rattle.{taxi_units.specs.Streams.{StopsAfter}, drive_text.specs.Ending.{IsGoing, TellsEnd}}
use Rattle.meter_run.specs.Common.{BadAt, Durable, Endless, Fits, Ghosts, GrowsBy, HoldsState, IsSettingOf, IsSplit}
use Rattle.meter_run.specs.Common.{LeavesOnly, Place, RunFault, Seal, Setting, StreamEnd, TableParts, Whole, actions_of}
use Rattle.meter_run.specs.{Common.{drive_end, events_of}, Deeds.{Deed, after_deeds, changes_of, deeds_of, texts}}
use Rattle.meter_run.specs.{InTurn.{CommitsInTurn}, OnStore.{HasBeside}, Points.{IsCutOfDeeds}}
use Rattle.meter_run.specs.declared.fault.RunFault.TheVariants.{BadDrive, BoardFault, ReadFault, TooLong}

-- the deeds of a run over bytes of a drive, if the store opens with a durable state, are the acts of the events, and
-- the acts of the supply drop at their end
abbrev pub run_deeds : Setting → Durable → (drive : List ℕ) → List Deed
run_deeds s durable drive = deeds_of (actions_of s durable (events_of drive))

module _ {D L : Type 0} {N : ℕ} (B : Ghosts D N L) (tables : TableParts) where
  -- a run opens with a durable state if the pair of totals is settled with it and its held trip fits
  pub record OpensWith (board : D) (durable : Durable) : Type 0 where
    pub place : Place
    pub settled : HoldsState B place board durable
    pub fits : ForSome durable.hold (Fits tables)

module _ {D L : Type 0} {N : ℕ} (B : Ghosts D N L) (tables : TableParts) (seal : Seal) (old new : D) where
  -- a property holds from the opening if it holds for each setting of the tables and the seal, and each state that the
  -- run opens with, if the board tells its image
  abbrev pub FromOpening : (Setting → Durable → Type 0) → Type 0
  FromOpening Holding =
      B.tells_image → (s : Setting) (durable : Durable) → IsSettingOf s tables seal → OpensWith B tables old durable
      → Holding s durable

  -- cuts leave deeds if a cut at each moment since the old board leaves a point of them, and beside the pair of totals
  -- what it might have left there at the old board
  abbrev pub CutsLeave : Durable → List Deed → Type 0
  CutsLeave durable deeds = LeavesOnly B old new
      (λ image text. IsCutOfDeeds tables seal B.tells_text durable (B.printed old) deeds image text
      × HasBeside B old image)

  -- a board has done deeds if their texts were printed, if the text is told; the store has the state after their
  -- commits, with which a run may open; their commits, in turn, are all that was written; and a cut leaves a point of
  -- them
  pub record HasDone (durable : Durable) (deeds : List Deed) : Type 0 where
    pub printed : B.tells_text → B.printed new ≡ B.printed old ++ texts seal deeds
    pub opens : OpensWith B tables new (after_deeds durable deeds)
    pub follows : GrowsBy durable (after_deeds durable deeds) (changes_of deeds)
    pub turn : CommitsInTurn B durable (changes_of deeds) old new
    pub cuts : CutsLeave durable deeds

  -- a board has stopped amid deeds if what it has is a point of them, and a cut leaves a point of them too
  pub record HasStopped (durable : Durable) (deeds : List Deed) : Type 0 where
    pub stops : IsCutOfDeeds tables seal B.tells_text durable (B.printed old) deeds (B.image new) (B.printed new)
    pub cuts : CutsLeave durable deeds

  -- a run is whole over bytes of a drive if all of its deeds were done
  abbrev pub RunsWhole : (drive : List ℕ) → Type 0
  RunsWhole drive = FromOpening (λ s durable. HasDone durable (run_deeds s durable drive))

  -- a run over bytes of a drive is a part if the board stopped amid its deeds
  abbrev pub RunsPart : (drive : List ℕ) → Type 0
  RunsPart drive = FromOpening (λ s durable. HasStopped durable (run_deeds s durable drive))

  -- a run is up to an end of the drive if the drive has that end, the bytes that were taken tell it, and the run over
  -- the drive is whole
  pub record RunsUpTo (drive left : List ℕ) (reached : StreamEnd) : Type 0 where
    pub end_is : drive_end drive ≡ reached
    pub tells : TellsEnd drive left
    pub runs : RunsWhole drive

  -- a run ends as its answer says: at the drive's end; after a read that failed, with the run over the bytes taken
  -- whole; or after a fault of the board, with a part of that run
  abbrev pub EndsRun : (drive left : List ℕ) → {T : Type 0} → Result T RunFault → Type 0
  EndsRun drive left (Ok done) = RunsUpTo drive left Whole
  EndsRun drive left (Err (BadDrive line)) = RunsUpTo drive left (BadAt line)
  EndsRun drive left (Err TooLong) = RunsUpTo drive left Endless
  EndsRun drive left (Err ReadFault) = StopsAfter drive left IsGoing RunsWhole
  EndsRun drive left (Err BoardFault) = StopsAfter drive left (λ taken. Unit {0}) RunsPart

  -- a run leaves points if a cut at each moment, whatever the answer is, leaves a point of the run over the bytes taken
  pub record LeavesPoints (drive left : List ℕ) : Type 0 where
    pub taken : List ℕ
    pub split : IsSplit drive taken left
    pub cuts : FromOpening (λ s durable. CutsLeave durable (run_deeds s durable taken))
