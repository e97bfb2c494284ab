-- Rules: which tables are those of what the meter goes by.
use Rattle.std.specs.Prelude.{◌≡◌}
use Rattle.tariff_check.specs.SoundTariff.{sound_of}
use Rattle.meter_states.specs.Common.{IsSealOf, IsTablesOf, Seal, Setting, TableParts, Tree}

-- tables are those of a setting if they are compiled, under its constant, from a tariff with the setting's parts
pub record IsTariffOf (s : Setting) (tables : TableParts) : Type 0 where
  pub tree : Tree
  pub compiled : IsTablesOf tree tables
  pub parts : s.tariff ≡ sound_of tree
  pub constant : tables.constant ≡ s.constant

-- tables and a seal are those of a setting if the tables are compiled from its tariff under its constant, and the seal
-- secures its constant, mode, hold and offsets
pub record IsSettingOf (s : Setting) (tables : TableParts) (seal : Seal) : Type 0 where
  pub tariff : IsTariffOf s tables
  pub secured : IsSealOf s seal
