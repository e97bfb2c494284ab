-- How a run ends, by what its drive came to.
use Rattle.std.proofs.Common.{ℕ, ◌++◌, ◌∙◌, ◌≡◌, ◌≤◌, ◌⊎◌, Bool, Err, IsErr, List, Ok, Result, ap, false, inl, inr}
use Rattle.std.proofs.{Common.{length, subst, sym, true}, lemmas.List.{take_all}}
use Rattle.{drive_text.specs.Ending.{ReachesEnd}, meter_run.specs.{Common.{stream_limit}, Texts.{shown_texts}}}
use Rattle.meter_run.specs.Common.{BadAt, Begins, Endless, EndsBy, Event, IsSettingOf, IsSplit, RunFault, Seal, Setting}
use Rattle.meter_run.specs.Common.{Stop, StreamEnd, TableParts, Whole, actions_of, events_in, events_of, first_state}
use Rattle.meter_run.specs.Drives.{RunsDrive, RunsTo, answer_of}
use Rattle.meter_run.specs.declared.fault.RunFault.TheVariants as faults
use Rattle.drive_source.specs.declared.source.Stop.TheVariants as stops

abbrev fails : RunFault → Result (Unit {0}) RunFault
fails fault = Err fault

-- a fault of the board is no fault of a read
pub board_only : fails faults.BoardFault ≡ fails faults.ReadFault → ⊥
board_only same = absurd cc

-- a run that no board broke off answers no fault of the board, and one of a read only if a read failed
pub no_board_fault : (stop : Stop) (r : Result (Unit {0}) RunFault) → r ≡ answer_of stop → r ≡ Err faults.BoardFault → ⊥
no_board_fault stops.Whole r is fault = absurd (let bad : Ok tt ≡ fails faults.BoardFault = sym is ∙ fault in cc)
no_board_fault (stops.BadLine line) r is fault =
    absurd (let bad : fails (faults.BadDrive line) ≡ fails faults.BoardFault = sym is ∙ fault in cc)
no_board_fault stops.TooLong r is fault =
    absurd (let bad : fails faults.TooLong ≡ fails faults.BoardFault = sym is ∙ fault in cc)
no_board_fault stops.ReadFault r is fault =
    absurd (let bad : fails faults.ReadFault ≡ fails faults.BoardFault = sym is ∙ fault in cc)

abbrev stopped : (F : Type 0) → Stop → Result Stop F
stopped F stop = Ok stop

pub read_failed : {F : Type 0} (stop : Stop) (r : Result (Unit {0}) RunFault) → r ≡ answer_of stop
    → (stopped F stop ≡ stopped F stops.ReadFault) ⊎ IsErr (stopped F stop)
    → (r ≡ Err faults.ReadFault) ⊎ (r ≡ Err faults.BoardFault)
read_failed stop r is (inl same) = let stop_is : stop ≡ stops.ReadFault = cc in inl (is ∙ ap answer_of stop_is)
read_failed stop r is (inr wrong) = absurd (let bad : false ≡ true = wrong in cc)

-- the events of the bytes that were taken are all of those that they have
pub events_taken : (taken : List ℕ) → length taken ≤ stream_limit → events_of taken ≡ events_in taken
events_taken taken few = ap events_in (take_all stream_limit taken few)

module _ (told : Type 0) (tables : TableParts) (seal : Seal) (drive left before now : List ℕ) where
  -- what these events show was printed
  abbrev pub Shown : List Event → Type 0
  Shown events = told → (s : Setting) → IsSettingOf s tables seal
      → now ≡ before ++ shown_texts (actions_of s first_state events)

  abbrev pub ShownSome : List Event → Type 0
  ShownSome events = told → (s : Setting) → IsSettingOf s tables seal
      → Begins before now (shown_texts (actions_of s first_state events))

  to_end : (taken : List ℕ) (reached : StreamEnd) → ReachesEnd drive taken left reached → Shown (events_in taken)
      → RunsTo told tables seal drive left before now reached
  to_end taken reached h shown = record {
    end_is = h.ends.end_is;
    tells = record { taken = taken; split = h.ends.split; shows = h.ends.shows };
    printed = subst Shown (sym h.given_is) shown;
  }

  -- it stopped, and the supply dropped
  pub ends : (taken : List ℕ) (stop : Stop) → length taken ≤ stream_limit → IsSplit drive taken left
      → EndsBy drive taken left stop → Shown (events_in taken)
      → RunsDrive told tables seal drive left before now (answer_of stop)
  ends taken stops.Whole few split h shown = to_end taken Whole h shown
  ends taken (stops.BadLine line) few split h shown = to_end taken (BadAt line) h shown
  ends taken stops.TooLong few split h shown = to_end taken Endless h shown
  ends taken stops.ReadFault few split h shown =
      record { taken = taken; split = split; stands = h; printed = subst Shown (sym (events_taken taken few)) shown }

  -- the board failed
  pub breaks : (taken : List ℕ) → length taken ≤ stream_limit → IsSplit drive taken left → ShownSome (events_in taken)
      → RunsDrive told tables seal drive left before now {T = Unit {0}} (Err faults.BoardFault)
  breaks taken few split shown = record {
    taken = taken;
    split = split;
    stands = tt;
    printed = subst ShownSome (sym (events_taken taken few)) shown;
  }

-- what a test tells if it holds doesn't hold if the test fails
pub not_told : (test : Bool) (P : Type 0) → (P → test ≡ true) → test ≡ false → P → ⊥
not_told test P tells fails p = absurd (let bad : false ≡ true = sym fails ∙ tells p in cc)
