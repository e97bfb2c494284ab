-- What a stop says, by its status.
use Rattle.std.proofs.Common.{◌≡◌, Err, IfOk, Ok, Result, arith, refl}
use Rattle.c_meter.specs.{Common.{NoMemory, Stop}, Shown.{IsStatus, status_of}}
use Rattle.c_meter.specs.declared.making.Stop.TheVariants.{NoDrive, NoParams, NoRoom, NoTariff}

-- the stop of an answer that has one, and else another
abbrev pub stop_or : {T : Type 0} → Stop → Result T Stop → Stop
stop_or other (Ok x) = other
stop_or other (Err stop) = stop

-- only want of room has the status 8
pub no_room_is : (stop : Stop) → status_of stop ≡ 8 → stop ≡ NoRoom
no_room_is NoTariff is = absurd cc
no_room_is NoParams is = absurd cc
no_room_is NoDrive is = absurd cc
no_room_is NoRoom is = refl
no_room_is NoMemory is = absurd cc

-- each stop has one of the statuses
pub status_is : (stop : Stop) → IsStatus (status_of stop)
status_is NoTariff = (1, omega arith, refl)
status_is NoDrive = (2, omega arith, refl)
status_is NoRoom = (3, omega arith, refl)
status_is NoParams = (4, omega arith, refl)
status_is NoMemory = (5, omega arith, refl)

-- what holds of an answer's value holds of what follows from it
pub if_ok : {T E : Type 0} (r : Result T E) (P Q : T → Type 0) → ((x : T) → P x → Q x) → IfOk r P → IfOk r Q
if_ok (Ok x) P Q follows h = follows x h
if_ok (Err e) P Q follows h = tt
