-- Rules: what each call of a board in memory gives and leaves. A call that is kept fails exactly by its number, and one
-- that isn't kept found no memory.
use Rattle.std.specs.Prelude.{ℕ, ◌++◌, ◌≡◌, ◌⊎◌, List, OnErr, OnOk, Result, drop, length, take}
use Rattle.outside.specs.{Disk.{MayLeave}, PrintedText.{Begins}}
use Rattle.memory_devices.specs.{Calls.{Print, Read, Sync, Write}, Common.{HasCause, IsWithin, MayLeaveAmid, SameBut}}
use Rattle.memory_devices.specs.MemoryBoard.{BoardState, IsDone, IsUndone, TimePasses, faults_of, image_of}
use Rattle.memory_devices.specs.MemoryBoard.{in_flight_of, text_of}

-- a read that is Ok fills the whole of `room` from the place `at` on; each leaves image and text as they were, and
-- nothing more in flight
pub record ReadsPiece {T E : Type 0} (old : BoardState) (at : ℕ) (room taken : List ℕ) (new : BoardState)
    (result : Result T E) : Type 0 where
  pub bytes : OnOk result (taken ≡ take (length room) (drop at (image_of old)))
  pub image : image_of new ≡ image_of old
  pub flight : (place : ℕ) → in_flight_of new place → in_flight_of old place
  pub text : text_of new ≡ text_of old
  pub time : TimePasses old new (MayLeave (image_of new) (in_flight_of new) (text_of new))
  pub cause : HasCause (faults_of old) (faults_of new) result
  pub kept : OnOk result (IsDone old Read new)
  pub failed : OnErr result (IsUndone old Read new)

-- a write that is Ok puts `bytes` from the place `at` on; each changes the image at most there, and has at most those
-- places more in flight
pub record WritesPiece {T E : Type 0} (old : BoardState) (at : ℕ) (bytes : List ℕ) (new : BoardState)
    (result : Result T E) : Type 0 where
  pub written : OnOk result (take (length bytes) (drop at (image_of new)) ≡ bytes)
  pub image : SameBut (IsWithin at (length bytes)) (image_of old) (image_of new)
  pub flight : (place : ℕ) → in_flight_of new place → in_flight_of old place ⊎ IsWithin at (length bytes) place
  pub text : text_of new ≡ text_of old
  pub time : TimePasses old new (MayLeave (image_of new) (in_flight_of new) (text_of new))
  pub cause : HasCause (faults_of old) (faults_of new) result
  pub kept : OnOk result (IsDone old (Write at bytes) new)
  pub failed : OnErr result (IsUndone old (Write at bytes) new)

-- a sync that is Ok leaves nothing in flight and the image as it was; each changes the image at most at the places in
-- flight
pub record SyncsStore {T E : Type 0} (old new : BoardState) (result : Result T E) : Type 0 where
  pub durable : OnOk result ((place : ℕ) → ¬ in_flight_of new place)
  pub same : OnOk result (image_of new ≡ image_of old)
  pub image : SameBut (in_flight_of old) (image_of old) (image_of new)
  pub flight : (place : ℕ) → in_flight_of new place → in_flight_of old place
  pub text : text_of new ≡ text_of old
  pub time : TimePasses old new (MayLeave (image_of new) (in_flight_of new) (text_of new))
  pub cause : HasCause (faults_of old) (faults_of new) result
  pub kept : OnOk result (IsDone old Sync new)
  pub failed : OnErr result (IsUndone old Sync new)

-- a print that is Ok puts `bytes` behind the text, and one that failed a beginning of them; each leaves the image as it
-- was, and nothing more in flight
pub record PrintsPiece {T E : Type 0} (old : BoardState) (bytes : List ℕ) (new : BoardState)
    (result : Result T E) : Type 0 where
  pub whole : OnOk result (text_of new ≡ text_of old ++ bytes)
  pub begun : Begins (text_of old) (text_of new) bytes
  pub image : image_of new ≡ image_of old
  pub flight : (place : ℕ) → in_flight_of new place → in_flight_of old place
  pub time : TimePasses old new (MayLeaveAmid (image_of new) (in_flight_of new) (text_of old) bytes)
  pub cause : HasCause (faults_of old) (faults_of new) result
  pub kept : OnOk result (IsDone old (Print bytes) new)
  pub failed : OnErr result (IsUndone old (Print bytes) new)
