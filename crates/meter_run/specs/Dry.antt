-- Rules: the meter whose durable state is a value, and what it prints.
use Rattle.std.specs.{Option.{ForSome}, Prelude.{ℕ, ◌++◌, ◌≡◌, List}}
use Rattle.meter_run.specs.{BetweenEvents.{StandsWith}, declared.dry.DryMeter.{DryMeter}}
use Rattle.meter_run.specs.Common.{Begins, CachedCore, Durable, Event, Fits, Ghosts, IsDurable, IsLawful, IsSettingOf}
use Rattle.meter_run.specs.{Common.{KeepsStore, Meter, Outcome, Seal, Setting, TableParts, run}, Texts.{shown_texts}}

-- a core and a durable state are under way if they stand for some state of the meter, under some setting of the tables
-- and the seal; the core is one beside its cache, which only saves look-ups, as `Core::step_into` says by its clause
-- `takes`
pub record IsUnderWay (tables : TableParts) (seal : Seal) (core : CachedCore) (durable : Durable) : Type 0 where
  pub setting : Setting
  pub meter : Meter
  pub is : IsSettingOf setting tables seal
  pub stands : StandsWith setting core.state durable meter

-- a meter is ready for the next event if its core is lawful, its durable state is in its ranges, a held trip fits, and
-- both are under way
pub record IsMeterReady (tables : TableParts) (seal : Seal) (core : CachedCore) (durable : Durable) : Type 0 where
  pub lawful : IsLawful tables seal core
  pub range : IsDurable durable
  pub fits : ForSome durable.hold (Fits tables)
  pub way : IsUnderWay tables seal core durable

module _ {D L : Type 0} {N : ℕ} (B : Ghosts D N L) (tables : TableParts) (seal : Seal) where
  -- an outcome is printed if what was printed before is followed by the displays and refusals of the outcome, if the
  -- text is told
  abbrev pub Prints : (outcome : Setting → Meter → Outcome) → DryMeter → (board board' : D) → Type 0
  Prints outcome old board board' = B.tells_text → (s : Setting) (m : Meter) → IsSettingOf s tables seal
      → StandsWith s old.core.state old.durable m → B.printed board' ≡ B.printed board ++ shown_texts (outcome s m).acts

  -- an outcome is printed in part if what was printed before is followed by a beginning of the displays and refusals of
  -- the outcome, if the text is told
  abbrev pub PrintsSome : (outcome : Setting → Meter → Outcome) → DryMeter → (board board' : D) → Type 0
  PrintsSome outcome old board board' = B.tells_text → (s : Setting) (m : Meter) → IsSettingOf s tables seal
      → StandsWith s old.core.state old.durable m → Begins (B.printed board) (B.printed board')
      (shown_texts (outcome s m).acts)

  -- a meter and a board carry events if the new meter stands for the state after them, their displays and refusals were
  -- printed, and the store is as it was
  pub record CarriesEvents (old : DryMeter) (board : D) (events : List Event) (new : DryMeter)
      (board' : D) : Type 0 where
    pub stands : (s : Setting) (m : Meter) → IsSettingOf s tables seal → StandsWith s old.core.state old.durable m
        → StandsWith s new.core.state new.durable (run s events m).next
    pub printed : Prints (λ s m. run s events m) old board board'
    pub store : KeepsStore B board board'

  -- a meter and a board break off amid events if a beginning of their displays and refusals was printed, and the store
  -- is as it was
  pub record BreaksOff (old : DryMeter) (board : D) (events : List Event) (board' : D) : Type 0 where
    pub begun : PrintsSome (λ s m. run s events m) old board board'
    pub store : KeepsStore B board board'
