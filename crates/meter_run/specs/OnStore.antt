-- Rules: the meter on a store, what it knows of the store, which state of the meter it stands for, and what events
-- leave.
use Rattle.std.specs.{Option.{ForSome}, Prelude.{ℕ, ◌++◌, ◌≡◌, ◌≤◌, All, List, None, OnOk, Option, Result, Some}}
use Rattle.{outside.specs.Runs.{MayHold}, slot_store.specs.Writes.{OrWithin}, meter_run.specs.InTurn.{CommitsInTurn}}
use Rattle.meter_run.specs.{BetweenEvents.{StandsWith}, Common.{SameBut, Seal, Setting, StoreMeter, TableParts, run}}
use Rattle.meter_run.specs.Common.{Act, CachedCore, Durable, Event, Fits, Ghosts, HasCause, HoldsState, IsLawful}
use Rattle.meter_run.specs.Common.{IsLawfulAct, IsSeal, IsSettingOf, Known, LeavesOnly, Meter, Off, Outcome, Place}
use Rattle.meter_run.specs.{Deeds.{changes_of, deeds_of, texts}, Dry.{IsMeterReady}, Points.{GoesBy}, Supply.{StaysOff}}

-- tables and a seal are secured if the seal is in its ranges, and both are those of some setting
pub record IsSecured (tables : TableParts) (seal : Seal) : Type 0 where
  pub range : IsSeal seal
  pub setting : Setting
  pub is : IsSettingOf setting tables seal

-- ---- the bytes outside the pair of totals

module _ {D L : Type 0} {N : ℕ} (B : Ghosts D N L) where
  -- an image has beside the pair of totals what a cut might have left there of a board
  abbrev pub HasBeside : D → List ℕ → Type 0
  HasBeside board image = MayHold (B.image board) (OrWithin (B.in_flight board) 0 1024) image

  -- a board writes totals alone if the store beside the pair of totals is as it was but for what was in flight; a cut
  -- at each moment leaves it as it was there too
  pub record WritesTotals (old new : D) : Type 0 where
    pub rest : SameBut (OrWithin (B.in_flight old) 0 1024) (B.image old) (B.image new)
    pub flight : (place : ℕ) → B.in_flight new place → OrWithin (B.in_flight old) 0 1024 place
    pub leaves : LeavesOnly B old new (λ image text. HasBeside old image)

-- ---- between two events

module _ {D L : Type 0} {N : ℕ} (B : Ghosts D N L) where
  -- a board has a durable state if the pair of totals is settled with it, at the place and with the state that the
  -- meter knows, if it knows them
  abbrev pub Has : Option Known → D → Durable → Type 0
  Has None board durable = (place : Place) × HoldsState B place board durable
  Has (Some known) board durable = (durable ≡ known.durable) × HoldsState B known.place board known.durable

  -- a meter and a board stand for a state of the meter if the core does, the board has the state's durable state, and
  -- its held trip fits
  pub record StandsOn (tables : TableParts) (s : Setting) (x : StoreMeter) (board : D) (m : Meter) : Type 0 where
    pub stands : StandsWith s x.core.state m.durable m
    pub has : Has x.known board m.durable
    pub fits : ForSome m.durable.hold (Fits tables)

  -- a board agrees with what the meter knows if the held trip fits, and the board has the state that the meter knows,
  -- if it tells its image
  pub record Agrees (tables : TableParts) (known : Known) (board : D) : Type 0 where
    pub slot : known.place.slot ≤ 1
    pub settled : B.tells_image → HoldsState B known.place board known.durable
    pub fits : ForSome known.durable.hold (Fits tables)

  -- acts may be done on a board under tables if it agrees with what the meter knows, and they are lawful acts of a
  -- meter at some number
  pub record MayDo (tables : TableParts) (known : Known) (board : D) (acts : List Act) : Type 0 where
    pub agrees : Agrees tables known board
    pub number : ℕ
    pub lawful : All (IsLawfulAct tables number) acts

  -- a meter that is off knows nothing of the store; else it knows a state at which the next event may come, with which
  -- the board agrees; the core of the meter is one beside its cache, which only saves look-ups, as `Core::step_into`
  -- says by its clause `takes`
  abbrev pub Knows : TableParts → Seal → CachedCore → Option Known → D → Type 0
  Knows tables seal core None board = core.state.operating ≡ Off
  Knows tables seal core (Some known) board = IsMeterReady tables seal core known.durable × Agrees tables known board

  -- a meter is ready on a board for the next event if its tables and its seal are secured, its core is lawful, and it
  -- knows what it has to of the store
  pub record IsMeterReadyOn (tables : TableParts) (seal : Seal) (x : StoreMeter) (board : D) : Type 0 where
    pub secured : IsSecured tables seal
    pub lawful : IsLawful tables seal x.core
    pub knows : Knows tables seal x.core x.known board

-- ---- what events leave

module _ {D L : Type 0} {N : ℕ} (B : Ghosts D N L) (tables : TableParts) (seal : Seal) where
  -- a property holds for each state if it does for each state of the meter for which a meter and a board stand, if the
  -- image is told
  abbrev pub ForEach : StoreMeter → D → (Setting → Meter → Type 0) → Type 0
  ForEach x board Holding =
      B.tells_image → (s : Setting) (m : Meter) → IsSettingOf s tables seal → StandsOn B tables s x board m
      → Holding s m

  -- a meter and a board carry out an outcome if they stand for its state, its acts were done, a cut at each moment
  -- leaves a point of them, and their commits, in turn, are all that was written
  pub record CarriesOut (outcome : Setting → Meter → Outcome) (x : StoreMeter) (old : D) (y : StoreMeter)
      (new : D) : Type 0 where
    pub stands : ForEach x old (λ s m. StandsOn B tables s y new (outcome s m).next)
    pub printed : ForEach x old (λ s m. B.tells_text
        → B.printed new ≡ B.printed old ++ texts seal (deeds_of (outcome s m).acts))
    pub points : ForEach x old (λ s m. GoesBy B tables seal old new m.durable (deeds_of (outcome s m).acts))
    pub turn : ForEach x old (λ s m. CommitsInTurn B m.durable (changes_of (deeds_of (outcome s m).acts)) old new)
    pub beside : B.tells_image → WritesTotals B old new

  -- a board stops amid an outcome if a cut at each moment leaves a point of its acts, and the board is at one
  pub record StopsAmid (outcome : Setting → Meter → Outcome) (x : StoreMeter) (old new : D) : Type 0 where
    pub points : ForEach x old (λ s m. GoesBy B tables seal old new m.durable (deeds_of (outcome s m).acts))
    pub beside : B.tells_image → WritesTotals B old new

  -- a meter and a board carry events out if they carry out what the events come to, and the events keep the core off
  -- without the supply
  pub record CarriesEvents (events : List Event) (x : StoreMeter) (old : D) (y : StoreMeter) (new : D) : Type 0 where
    pub out : CarriesOut (λ s m. run s events m) x old y new
    pub supply : StaysOff x.core.state events y.core.state

  -- a call attempts an outcome if, when it succeeds, a meter and a board carry the outcome out and are ready for the
  -- next event; the board stops amid the outcome, however the call ends; and the call has a cause
  pub record Attempts {T E : Type 0} (outcome : Setting → Meter → Outcome) (x : StoreMeter) (old : D)
      (result : Result T E) (y : StoreMeter) (new : D) : Type 0 where
    pub ready : OnOk result (IsMeterReadyOn B tables seal y new)
    pub carried : OnOk result (CarriesOut outcome x old y new)
    pub stopped : StopsAmid outcome x old new
    pub cause : HasCause (B.faults old) (B.faults new) result
