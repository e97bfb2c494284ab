-- Tables and a seal that are made of two texts.
use Rattle.std.proofs.Common.{ℕ, ◌≡◌, List, Ok, ap, refl}
use Rattle.{seal_record.specs.Reading.{params_read}, tariff_compile.specs.Tables.{IsTablesOf, tables_of}}
use Rattle.{meter_model.specs.Setting.{setting_by}, meter_states.specs.Setting.{IsSettingOf}}
use Rattle.meter_texts.specs.{Common.{IsSound, Reads, Seal, TableParts, Tree}, MadeOf.{AreMadeOf}}

-- tables that are compiled of a tree under the constant of a seal are those of the setting of both
pub setting_of : (t : Tree) (tables : TableParts) (seal : Seal) → IsTablesOf t tables
    → tables ≡ tables_of t seal.params.constant → IsSettingOf (setting_by t seal.params) tables seal
setting_of t tables seal compiled is = record {
  tariff =
      record { tree = t; compiled = compiled; parts = refl; constant = ap (λ (x : TableParts). x.constant) is };
  secured = record { constant = refl; mode = refl; hold_time = refl; offsets = refl };
}

-- what was read, checked and compiled of two texts is made of them
pub made_by : (tariff params : List ℕ) (t : Tree) (tables : TableParts) (seal : Seal) → Reads tariff t → IsSound t
    → params_read params ≡ Ok seal.params → IsTablesOf t tables → tables ≡ tables_of t seal.params.constant
    → AreMadeOf tariff params tables seal
made_by tariff params t tables seal reads sound said compiled is = record {
  tree = t;
  reads = reads;
  sound = sound;
  secured = said;
  setting = setting_of t tables seal compiled is;
}
