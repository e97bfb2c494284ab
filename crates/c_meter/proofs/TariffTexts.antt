-- Tables and a seal that are made of two texts.
use Rattle.std.proofs.Common.{ℕ, ◌≡◌, List}
use Rattle.{seal_record.specs.declared.seal.Seal.{Seal}, tariff_compile.specs.Tables.{TableParts}}
use Rattle.{meter_model.specs.Setting.{Setting, setting_by}, meter_states.specs.Setting.{IsSettingOf}}
use Rattle.{meter_texts.specs.MadeOf.{AreMadeOf}, c_meter.specs.Common.{Whole, drive_end, drive_shown}}
use Rattle.c_meter.specs.Shown.{ShowsDrive}

-- lines that are shown of a whole drive under each setting of such tables and such a seal are what the texts show of it
pub shows_by : (tariff params drive lines : List ℕ) (tables : TableParts) (seal : Seal)
    → AreMadeOf tariff params tables seal → drive_end drive ≡ Whole
    → ((s : Setting) → IsSettingOf s tables seal → lines ≡ drive_shown s drive) → ShowsDrive tariff params drive lines
shows_by tariff params drive lines tables seal made whole shown = record {
  tree = made.tree;
  reads = made.reads;
  sound = made.sound;
  secured = seal.params;
  said = made.secured;
  whole = whole;
  shown = shown (setting_by made.tree seal.params) made.setting;
}
