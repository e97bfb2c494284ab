-- For proofs: what a core keeps as it carries out a stage of an event, and how it follows the meter. `Core::step` says
-- what the stages of an event come to.
use Rattle.std.specs.Prelude.{[], ℕ, ◌+◌, ◌≡◌, ◌≢◌, ◌≤◌, ◌⊎◌, List, None, Option, length, true}
use Rattle.meter_model.specs.{KeptTrip.{IsSavedIn}, declared.key_act.KeyAct.{KeyAct}}
use Rattle.meter_states.specs.Acts.{StayLawful}
use Rattle.meter_states.specs.Common.{Act, CoreTrip, ForHire, IsHeld, IsSecond, Meter, Operating, Outcome, Roam, Seal}
use Rattle.meter_states.specs.{Common.{Setting, TableParts, Trip, last_number, longest_trip, number_most}, Fits.{Fits}}
use Rattle.meter_states.specs.{Core.{ComesToOutcome, CoreData, core_of}, declared.records.Closing.{Closing}}
use Rattle.meter_states.specs.{Lawful.{IsAmidEvent, IsBetweenEvents, IsTripBeside, is_busy}, Setting.{IsSettingOf}}
use Rattle.meter_model.specs.declared.key_act.KeyAct.TheVariants as key_acts

-- a stage of an event comes to an outcome from each state of the meter, under a setting
abbrev pub Stage : Type 0
Stage = Setting → Meter → Outcome

-- a core follows a stage under tables and a seal if it follows the stage's outcome under each setting of theirs and
-- from each state whose core it was before
abbrev pub FollowsStage : TableParts → Seal → (old new : CoreData) → (before acts : List Act) → Stage → Type 0
FollowsStage tables seal old new before acts stage =
    (s : Setting) (m : Meter) → IsSettingOf s tables seal → old ≡ core_of s m
    → ComesToOutcome s new before acts (stage s m)

-- a core carries out a stage if the acts stay lawful, and it follows the stage
pub record CarriesStage (tables : TableParts) (seal : Seal) (old new : CoreData) (before acts : List Act)
    (stage : Stage) : Type 0 where
  pub ranges : StayLawful tables old.number before acts
  pub follows : FollowsStage tables seal old new before acts stage

-- a core is ready for a key if it is amid an event in which nothing has been done yet
pub record IsReadyForKey (tables : TableParts) (core : CoreData) (acts : List Act) : Type 0 where
  pub lawful : IsAmidEvent tables core
  pub room : acts ≡ []

-- a core follows a stage and commits nothing if it is amid the event then, has done at most one act, keeps the store's
-- number, and the acts stay lawful
pub record CommitsNothing (tables : TableParts) (seal : Seal) (old new : CoreData) (before acts : List Act)
    (stage : Stage) : Type 0 where
  pub lawful : IsAmidEvent tables new
  pub few : length acts ≤ 1
  pub number : new.number ≡ old.number
  pub ranges : StayLawful tables old.number before acts
  pub follows : FollowsStage tables seal old new before acts stage

-- a core follows a stage that may close the trip if it is amid the event then, has done at most `most` acts, and the
-- acts stay lawful; it has done at most one act and keeps the store's number, or has no roaming pulses left
pub record MayClose (tables : TableParts) (seal : Seal) (most : ℕ) (old new : CoreData) (before acts : List Act)
    (stage : Stage) : Type 0 where
  pub lawful : IsAmidEvent tables new
  pub few : length acts ≤ most
  pub roam : ((length acts ≤ 1) × (new.number ≡ old.number)) ⊎ (new.roam ≡ 0)
  pub ranges : StayLawful tables old.number before acts
  pub follows : FollowsStage tables seal old new before acts stage

-- a core follows a stage that closes the trip if it is between two events then, has done at most `most` acts, has no
-- roaming pulses left, and the acts stay lawful
pub record ClosesTrip (tables : TableParts) (seal : Seal) (most : ℕ) (old new : CoreData) (before acts : List Act)
    (stage : Stage) : Type 0 where
  pub lawful : IsBetweenEvents tables new
  pub few : length acts ≤ most
  pub roam : new.roam ≡ 0
  pub ranges : StayLawful tables old.number before acts
  pub follows : FollowsStage tables seal old new before acts stage

-- an act of a key may be done in an operating position: a hiring in For Hire, a closing if a trip runs there, a move if
-- a trip runs there and in the position that it leads to, and each other act in all
abbrev pub IsDoneIn : Operating → KeyAct → Type 0
IsDoneIn operating key_acts.Hire = operating ≡ ForHire
IsDoneIn operating (key_acts.Move to) = (is_busy operating ≡ true) × (is_busy to ≡ true)
IsDoneIn operating key_acts.Clear = is_busy operating ≡ true
IsDoneIn operating act = Unit {0}

-- ---- a trip that is closed

-- a closing is one of a trip if its kind is another than roaming, and it is at a second
pub record IsTripClosing (closing : Closing) : Type 0 where
  pub kind : closing.kind ≢ Roam
  pub finish : IsSecond closing.finish

-- a core may enter a trip if it has room for an entry, the trip is in range beside the number after it, and the
-- position is 1 to 9
pub record MayEnter (tables : TableParts) (core : CoreData) (trip : CoreTrip) : Type 0 where
  pub range : IsTripBeside tables (core.number + 1) longest_trip trip
  pub number : core.number ≤ last_number
  pub position : (1 ≤ core.position) × (core.position ≤ 9)

-- a core has entered a trip if the trip is in range beside its number, which counts the entry, and the position is 1 to
-- 9
pub record HasEntered (tables : TableParts) (core : CoreData) (trip : CoreTrip) : Type 0 where
  pub range : IsTripBeside tables core.number longest_trip trip
  pub number : (1 ≤ core.number) × (core.number ≤ number_most)
  pub position : (1 ≤ core.position) × (core.position ≤ 9)

-- ---- a held trip

-- a core has been powered if it is between two events, has no roaming pulses and no trip, and nothing has been done yet
pub record IsNewlyPowered (tables : TableParts) (core : CoreData) (acts : List Act) : Type 0 where
  pub lawful : IsBetweenEvents tables core
  pub new : (core.roam ≡ 0) × (core.trip ≡ None)
  pub room : acts ≡ []

-- a held trip may be taken at a store's number if it is one of the store, and fits the tables
pub record MayBeTaken (tables : TableParts) (number : ℕ) (held : Trip) : Type 0 where
  pub range : IsHeld number held
  pub fits : Fits tables held

-- a core takes what the store holds by a stage if the acts stay lawful; it follows the stage from each state whose core
-- it was but for the trip, and of whose trip the held one is the saved form
pub record TakesHold (tables : TableParts) (seal : Seal) (old new : CoreData) (before acts : List Act)
    (hold : Option Trip) (stage : Stage) : Type 0 where
  pub ranges : StayLawful tables old.number before acts
  pub follows : (s : Setting) (m : Meter) → IsSettingOf s tables seal → IsSavedIn s hold m.trip
      → old ≡ core_of s (record m { trip = None }) → ComesToOutcome s new before acts (stage s m)
