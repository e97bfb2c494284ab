-- Rules: of which texts tables and a seal are made.
use Rattle.std.specs.Prelude.{ℕ, ◌≡◌, List, Ok}
use Rattle.{seal_record.specs.Reading.{params_read}, meter_model.specs.Setting.{setting_by}}
use Rattle.{meter_states.specs.Setting.{IsSettingOf}, meter_texts.specs.Common.{IsSound, Reads, Seal, TableParts, Tree}}

-- tables and a seal are made of two texts if the first reads as a sound tariff and the second as parameters, and they
-- are those of the setting of both
pub record AreMadeOf (tariff params : List ℕ) (tables : TableParts) (seal : Seal) : Type 0 where
  pub tree : Tree
  pub reads : Reads tariff tree
  pub sound : IsSound tree
  pub secured : params_read params ≡ Ok seal.params
  pub setting : IsSettingOf (setting_by tree seal.params) tables seal
