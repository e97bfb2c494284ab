-- Rules: the command `seal TARIFF PARAMS`.
use Rattle.std.specs.Prelude.{[], ℕ, ◌++◌, ◌+◌, ◌<◌, ◌==◌, ◌≡◌, ◌≤◌, ◌⊎◌, Err, List, None, Ok, Option, Result, Some}
use Rattle.std.specs.Prelude.{if◌then◌else◌, is_some, take}
use Rattle.{sha2.specs.Sha256.{sha256}, outside.specs.Disk.{IsWithin, SameBut}, slot_store.specs.Sizes.{pair_size}}
use Rattle.{slot_store.specs.Writes.{OrWithin}, seal_record.specs.Reading.{params_read}}
use Rattle.meter_store.specs.Sealing.{IsAmid, IsSealed, first_written, places_written, seals_at}
use Rattle.call_ends.specs.{Answer.{shows_line}, declared.ending.Ended.TheVariants.{SealEnded, TripHeld}}
use Rattle.store_commands.specs.Common.{Answer, BadParams, BadTariff, Base, Blank, Command, Durable, Ended, Found}
use Rattle.store_commands.specs.Common.{Ghosts, IsOfLines, Latest, LeavesFromSync, Opening, OtherDecimals, ParamFault}
use Rattle.store_commands.specs.Common.{Params, Refusal, Seal, Sealing, StoreFault, Tree, found_number}
use Rattle.store_commands.specs.Common.{last_seal_number, next_number, old_seal, refused_as, sealed_line, tariff_in}
use Rattle.store_commands.specs.Opening.{opening_in, store_ended}

-- ---- what is sealed over

-- the base of a sealing has the place, the number and the decimals of the found seal, if one was found. The seal with
-- the last number gives the end `SealEnded`.
abbrev pub over_seal : Option Durable → Found Seal → Result Base Ended
over_seal totals Blank = Ok (record { totals = totals; found = None; decimals = None })
over_seal totals (Latest place seal) =
    if seal.seal_number == last_seal_number then Err SealEnded
    else Ok (record { totals = totals; found = Some (place, seal.seal_number); decimals = Some seal.decimals })

-- the base of a sealing has the totals that were found. Totals that hold a trip give the end `TripHeld`.
abbrev pub over_totals : Found Durable → Found Seal → Result Base Ended
over_totals Blank seal = over_seal None seal
over_totals (Latest place durable) seal = if is_some durable.hold then Err TripHeld else over_seal (Some durable) seal

-- the base of a sealing over what was opened has the totals and the seal that were found, or is the end by which the
-- store is refused
abbrev pub base_in : Result Opening StoreFault → Result Base Ended
base_in (Err fault) = Err (store_ended fault)
base_in (Ok opening) = over_totals opening.totals opening.seal

-- ---- the new seal

-- decimals may be sealed if they are those of the found seal, or no seal was found
abbrev pub are_decimals : Option ℕ → ℕ → Result (Unit {0}) Ended
are_decimals None own = Ok tt
are_decimals (Some found) own = if found == own then Ok tt else Err (OtherDecimals found own)

-- the seal of a number, a digest, decimals and parameters, or the refusal of the parameters
abbrev pub with_params : (number : ℕ) → (digest : List ℕ) → (decimals : ℕ) → Result Params ParamFault
    → Result Seal Ended
with_params number digest decimals (Err fault) = Err (BadParams fault)
with_params number digest decimals (Ok params) =
    Ok (record { seal_number = number; params = params; digest = digest; decimals = decimals })

-- a seal is refused if its decimals are, and is otherwise made or refused for another reason
abbrev pub where_decimals : Result (Unit {0}) Ended → Result Seal Ended → Result Seal Ended
where_decimals (Err ended) seal = Err ended
where_decimals (Ok same) seal = seal

-- the seal of a number, a digest, a tariff and parameters, or the first refusal: of the tariff, of its decimals, or of
-- the parameters
abbrev pub seal_with_tariff : (number : ℕ) → Option ℕ → (digest : List ℕ) → Result Tree Refusal
    → Result Params ParamFault
    → Result Seal Ended
seal_with_tariff number found digest (Err why) params = Err (BadTariff why)
seal_with_tariff number found digest (Ok t) params =
    where_decimals (are_decimals found t.decimals) (with_params number digest t.decimals params)

-- a tariff's text and a parameter text give the seal of a number, beside the found decimals, or the first refusal.
-- `params_read` gives the parameters or their first fault, as the laws texts_say_their_parameters,
-- texts_are_too_long_or_lack_a_parameter and texts_say_parameters_line_by_line of seal_record say
abbrev pub seal_read : (number : ℕ) → Option ℕ → (tariff params : List ℕ) → Result Seal Ended
seal_read number found tariff params = seal_with_tariff number found (sha256 tariff) (tariff_in tariff)
    (params_read params)

-- a text fits the found decimals if its tariff is sound, and has them if any were found
pub record HasDecimals (found : Option ℕ) (tariff : List ℕ) : Type 0 where
  pub tree : Tree
  pub sound : tariff_in tariff ≡ Ok tree
  pub decimals : are_decimals found tree.decimals ≡ Ok tt

-- memory may run out as a seal is made of two texts if nothing was read of the parameters, and nothing of the tariff or
-- it is one of tariff lines
pub record MayLackTexts (contents left : ℕ → List ℕ) : Type 0 where
  pub params : left 2 ≡ contents 2
  pub tariff : (left 1 ≡ contents 1) ⊎ IsOfLines (contents 1)

-- ---- the answer

-- a sealing puts its new seal beside the totals of its base, in place of the old seal
abbrev pub sealing_with : (old : Option Seal) → Base → Result Seal Ended → Result Sealing Ended
sealing_with old base (Err ended) = Err ended
sealing_with old base (Ok seal) = Ok (record { totals = base.totals; old = old; new = seal })

-- the sealing over a base puts in a seal whose number follows that of the found seal
abbrev pub sealing_over : (old : Option Seal) → Result Base Ended → (tariff params : List ℕ) → Result Sealing Ended
sealing_over old (Err ended) tariff params = Err ended
sealing_over old (Ok base) tariff params =
    sealing_with old base (seal_read (next_number (found_number base.found)) base.decimals tariff params)

-- the sealing of what was opened with a tariff's text and a parameter text, or the first refusal: of the store, of the
-- tariff, or of the parameters
abbrev pub sealing_of : Result Opening StoreFault → (tariff params : List ℕ) → Result Sealing Ended
sealing_of (Err fault) tariff params = Err (store_ended fault)
sealing_of (Ok opening) tariff params =
    sealing_over (old_seal opening.seal) (over_totals opening.totals opening.seal) tariff params

-- the answer to a sealing is the line with the number of the new seal, or the refusal
abbrev pub seal_answer : Result Sealing Ended → Answer
seal_answer (Err ended) = refused_as ended
seal_answer (Ok sealing) = shows_line (sealed_line sealing.new.seal_number)

-- the store of an image may be sealed if it has a base of a sealing
pub record IsSealable (image : List ℕ) : Type 0 where
  pub base : Base
  pub is : base_in (opening_in image) ≡ Ok base

-- the store of an image may be sealed with a tariff if it has a base, and the tariff fits the base's decimals
pub record IsFitting (tariff image : List ℕ) : Type 0 where
  pub base : Base
  pub is : base_in (opening_in image) ≡ Ok base
  pub fits : HasDecimals base.decimals tariff

-- the command `seal` opens the store, reads its tariff and then its parameters, and writes, in at most 64 steps and one
-- for the last line
abbrev pub seal_command : Command
seal_command = record {
  answer = λ contents image. seal_answer (sealing_of (opening_in image) (contents 1) (contents 2));
  drive = None;
  shown = λ contents image taken. [];
  reads = λ word. (word ≡ 1) ⊎ (word ≡ 2);
  turn = λ word. word;
  reads_all = λ status. status ≡ 0;
  comes_to = λ contents image word taken.
      ((word ≡ 1) × IsSealable image) ⊎ ((word ≡ 2) × IsFitting (contents 1) image);
  may_lack = λ contents image taken. IsSealable image;
  told = λ files_tell image_told. files_tell × image_told;
  opens = Unit {0};
  writes = λ ended. (ended ≡ 0) ⊎ (ended ≡ 8);
  steps = λ files_tell image_told contents left image before now. now ≤ before + 64 + 1;
}

-- ---- the store

-- the bytes of the found totals stay if the image before and the one now differ within the pair of seals alone
abbrev pub TotalsStay : (found : Option Durable) → (image now : List ℕ) → Type 0
TotalsStay None image now = Unit {0}
TotalsStay (Some durable) image now = SameBut (IsWithin seals_at pair_size) image now

-- an image has been sealed if the one now stands for the totals and the new seal of the sealing, and the found totals
-- have their bytes
abbrev pub HasSealed : Result Sealing Ended → (image now : List ℕ) → Type 0
HasSealed (Err ended) image now = ⊥
HasSealed (Ok sealing) image now = IsSealed sealing now × TotalsStay sealing.totals image now

-- whatever the end is, what lies beside a sealing stays if the image before and the one now differ only at places that
-- were in flight before, and at those that the sealing may write: in the pair of seals, and in both pairs if no totals
-- were found. Without a sealing they differ only at places that were in flight before.
abbrev pub StaysBeside : Result Sealing Ended → (in_flight : ℕ → Type 0) → (image now : List ℕ) → Type 0
StaysBeside (Err ended) in_flight image now = SameBut in_flight image now
StaysBeside (Ok sealing) in_flight image now =
    SameBut (OrWithin in_flight (first_written sealing.totals) (places_written sealing.totals)) image now

-- a text shows a byte of a line if it is what was `printed` before, and behind that one or more of the line's first
-- bytes
pub record ShowsByteOf (line printed text : List ℕ) : Type 0 where
  pub count : ℕ
  pub some : 0 < count
  pub is : text ≡ printed ++ take count line

-- a cut of a sealing may leave an image amid the sealing, in which the found totals have their bytes, and a text that
-- shows a byte of the line `SEALED n` only if the image has been sealed
pub record IsSealCut (sealing : Sealing) (image printed left_image left_text : List ℕ) : Type 0 where
  pub amid : IsAmid sealing left_image
  pub beside : TotalsStay sealing.totals image left_image
  pub behind : ShowsByteOf (sealed_line sealing.new.seal_number) printed left_text → IsSealed sealing left_image

-- from the opening sync on a cut may leave what a cut of the sealing may leave, or the opening image if nothing is
-- sealed
abbrev pub MayLeaveSealing : Result Sealing Ended → (image printed left_image left_text : List ℕ) → Type 0
MayLeaveSealing (Err ended) image printed left_image left_text = left_image ≡ image
MayLeaveSealing (Ok sealing) image printed left_image left_text = IsSealCut sealing image printed left_image left_text

module _ {D L : Type 0} {N : ℕ} (B : Ghosts D N L) where
  -- a call seals the store if at 0 the store stands for what the sealing says, and if at each end, also at 8, what lies
  -- beside the sealing stays. A cut from the opening sync on leaves what a cut of the sealing may leave; one before that
  -- sync has succeeded leaves what it might have left before the call.
  pub record Seals (sealing : Result Sealing Ended) (old new : D) (ended : ℕ) : Type 0 where
    pub sealed : ended ≡ 0 → HasSealed sealing (B.image old) (B.image new)
    pub stays : StaysBeside sealing (B.in_flight old) (B.image old) (B.image new)
    pub leaves : LeavesFromSync B (ended ≡ 8) old new (MayLeaveSealing sealing (B.image old) (B.printed old))
