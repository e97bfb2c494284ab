-- Rules: the opening of the store, with its pair of totals at 0 and its pair of seals at 1,024.
use Rattle.std.specs.Prelude.{ℕ, ◌+◌, ◌==◌, ◌≡◌, Err, List, None, Ok, Option, Result, Some, if◌then◌else◌}
use Rattle.store_commands.specs.Common.{Blank, Durable, Ended, Found, Latest, Opening, Seal, SlotFault, StoreFault}
use Rattle.store_commands.specs.Common.{found_at}
use Rattle.store_commands.specs.declared.opening.StoreFault.TheVariants.{BadSlot, BoardFault, SameNumber}
use Rattle.slot_store.specs.declared.found.SlotFault.TheVariants as slots
use Rattle.totals_record.specs.Reading as totals
use Rattle.meter_store.specs.Stored as states
use Rattle.seal_record.specs.Decoding as seals
use Rattle.call_ends.specs.declared.ending.Ended.TheVariants as ended

-- the fault of a pair whose first slot has a number in the store
abbrev pub fault_from : (first : ℕ) → SlotFault → StoreFault
fault_from first (slots.BadBody slot) = BadSlot (if slot == 0 then first else first + 1)
fault_from first (slots.SameNumber number) = SameNumber first (first + 1)
fault_from first slots.DeviceFailed = BoardFault

-- what two pairs stand for is an opening if neither has a fault, and else the fault of the first one that has
abbrev pub opening_by : Result (Found Durable) SlotFault → Result (Found Seal) SlotFault → Result Opening StoreFault
opening_by (Err fault) seal = Err (fault_from 0 fault)
opening_by (Ok durable) (Err fault) = Err (fault_from 2 fault)
opening_by (Ok durable) (Ok seal) = Ok (record { totals = durable; seal = seal })

-- an image stands for what its pairs stand for, that of totals at 0 and that of seals at 1,024, or has a fault
abbrev pub opening_in : (image : List ℕ) → Result Opening StoreFault
opening_in image =
    opening_by (found_at totals.reads states.state_number_of 0 image)
    (found_at seals.reads seals.seal_number_of 1024 image)

-- a store is sealed if both pairs stand for something, a durable state and a seal
abbrev pub sealed_store : Found Durable → Found Seal → Option (Durable × Seal)
sealed_store Blank seal = None
sealed_store (Latest place durable) Blank = None
sealed_store (Latest place durable) (Latest other seal) = Some (durable, seal)

-- how a command ends by a fault of the store
abbrev pub store_ended : StoreFault → Ended
store_ended (BadSlot slot) = ended.BadSlot slot
store_ended (SameNumber first second) = ended.SameNumber first second
store_ended BoardFault = ended.BoardFault

-- a command that needs a sealed store has the durable state and the seal, or ends with `NotSealed`
abbrev pub sealed_or : Option (Durable × Seal) → Result (Durable × Seal) Ended
sealed_or None = Err ended.NotSealed
sealed_or (Some store) = Ok store

-- the store of what was opened gives its durable state and its seal, or the end by which it is refused
abbrev pub store_of : Result Opening StoreFault → Result (Durable × Seal) Ended
store_of (Err fault) = Err (store_ended fault)
store_of (Ok opening) = sealed_or (sealed_store opening.totals opening.seal)

-- the store of an image is sealed if the image opens with a durable state and a seal
pub record IsSealedIn (image : List ℕ) : Type 0 where
  pub store : Durable × Seal
  pub is : store_of (opening_in image) ≡ Ok store
