-- Rules: what a call from C shows, and why it shows nothing.
use Rattle.std.specs.Prelude.{[], ℕ, ◌<◌, ◌∷◌, ◌≡◌, ◌≢◌, ◌≤◌, ◌⊎◌, Contains, IsErr, IsOk, List, Ok, Some, length}
use Rattle.{seal_record.specs.{Reading.{params_read}, declared.params.Params.{Params}}, tariff_tree.specs.Tree.{Tree}}
use Rattle.{tariff_syntax.specs.Reads.{IsFirstBadLine}, tariff_check.specs.declared.fault.CheckFault.{CheckFault}}
use Rattle.{tariff_check.specs.Faults.{fault_of}, meter_model.specs.Setting.{setting_by}}
use Rattle.c_meter.specs.Common.{IsSound, NoMemory, Reads, Stop, Whole, drive_end, drive_shown}
use Rattle.c_meter.specs.declared.making.Stop.TheVariants.{NoDrive, NoParams, NoRoom, NoTariff}

-- the status of a stop is that of the program `taxi`
abbrev pub status_of : Stop → ℕ
status_of NoTariff = 2
status_of NoDrive = 3
status_of NoRoom = 8
status_of NoParams = 9
status_of NoMemory = 12

-- a call answers one of six numbers
abbrev pub IsStatus : ℕ → Type 0
IsStatus status = Contains (0 ∷ 2 ∷ 3 ∷ 8 ∷ 9 ∷ 12 ∷ []) status

-- a text has no tariff if it is too long, has a first bad line, or reads as a tariff with a fault
abbrev pub HasNoTariff : (text : List ℕ) → Type 0
HasNoTariff text =
    (65536 < length text)
    ⊎ (((line : ℕ) × IsFirstBadLine text line)
    ⊎ ((tree : Tree) × (fault : CheckFault) × Reads text tree × (fault_of tree ≡ Some fault)))

-- a text is one of tariff lines if it has at most 65,536 bytes, and reads as a tariff, sound or not
pub record IsOfLines (text : List ℕ) : Type 0 where
  pub few : length text ≤ 65536
  pub tree : Tree
  pub reads : Reads text tree

-- a text has a tariff if it reads as a sound one
pub record HasTariff (text : List ℕ) : Type 0 where
  pub tree : Tree
  pub reads : Reads text tree
  pub sound : IsSound tree

-- parameters are refused behind a tariff if the first text has one, and the second says no parameters
pub record HasNoParams (tariff params : List ℕ) : Type 0 where
  pub accepted : HasTariff tariff
  pub refused : IsErr (params_read params)

-- a drive isn't whole if it ends with a bad line or too many bytes
abbrev pub IsNotWhole : (drive : List ℕ) → Type 0
IsNotWhole drive = drive_end drive ≢ Whole

-- a drive is refused behind two texts if the first has a tariff, the second says parameters, and the drive isn't whole
pub record HasNoDrive (tariff params drive : List ℕ) : Type 0 where
  pub accepted : HasTariff tariff
  pub said : IsOk (params_read params)
  pub refused : IsNotWhole drive

-- lines are what a meter shows of a drive if the first text reads as a sound tariff, the second as parameters, the
-- drive is whole, and the lines are the displays and refusals of its events under both
pub record ShowsDrive (tariff params drive lines : List ℕ) : Type 0 where
  pub tree : Tree
  pub reads : Reads tariff tree
  pub sound : IsSound tree
  pub secured : Params
  pub said : params_read params ≡ Ok secured
  pub whole : drive_end drive ≡ Whole
  pub shown : lines ≡ drive_shown (setting_by tree secured) drive

-- there is no room for what a meter shows of a drive if its lines are longer than the room
pub record HasNoRoom (tariff params drive : List ℕ) (room : ℕ) : Type 0 where
  pub lines : List ℕ
  pub shows : ShowsDrive tariff params drive lines
  pub long : room < length lines
